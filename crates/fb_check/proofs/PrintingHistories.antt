-- What a history has registered: blocks that have sectors, and for a backup those of one range.
use Rattle.fb_check.proofs.Words.{◌≡◌, ℕ, zero, suc, ◌≤◌, List, [], ◌∷◌, ◌++◌, Bool, true, false, inl, inr, length, length-append}
use Rattle.fb_check.proofs.Words.{append-nil, refl, ap, sym, ◌∙◌, subst, arith, ◌&&◌, cases_Bool, Shape, Cut, cutting, Action, Open}
use Rattle.fb_check.proofs.Words.{is_backup, Block, Inputs, IsAccepted, Past, terms_of, blocks_of, numbered}
use Rattle.std.proofs.Common.{◌==◌}
use Rattle.std.specs.List.{best_of, slice_index_or}
use Rattle.std.proofs.Math.Bool.{or-true}
use Rattle.std.proofs.lemmas.Bool.{eqb-true, ne_eqb, or_parts, true≢false}
use Rattle.std.proofs.lemmas.List.Elements.{filter-append}
use Rattle.std.proofs.lemmas.List.Folds.{list_any-append}
use Rattle.fb_units.proofs.Comparing.{same_number}
use Rattle.fb_tasks.proofs.ChoiceSteps.{no_backup}
use Rattle.fb_geometry.specs.Places.{places}
use Rattle.fb_script.specs.declared.call.Action.TheVariants.{Want}
use Rattle.fb_script.specs.declared.call.Call.{Call}
use Rattle.fb_script.specs.declared.call.Kind.TheVariants.{Plain}
use Rattle.fb_script.specs.Allowed.{Terms, MayAsk, has_want, is_want}
use Rattle.fb_script.specs.Blocks.{live_cuts}
use Rattle.fb_script.specs.Sessions.{is_clean}
use Rattle.fb_model.specs.History.{calls_of, opened_by, tasks, registered}
use Rattle.fb_model.specs.Completion.{view}
use Rattle.fb_model.specs.Segments.{is_better}
use Rattle.fb_model.specs.Steps.{blocks_by, take_call}
use Rattle.fb_model.proofs.Events.{ChoiceKeeps}
use Rattle.fb_model.proofs.Histories.{EventsKeep, HoldsSoFar}
use Rattle.fb_model.proofs.Views.{index_other}
use Rattle.fb_tasks.proofs.Rules.{open_there, terms_there}
use Rattle.fb_check.proofs.PrintingSectors.{sectors, own, numbered_have, none_other}
use Rattle.fb_check.proofs.PrintingSectors.{some_have, cuts_have}

-- the terms of a task
abbrev pub terms_at : List Terms → ℕ → Terms
terms_at tasks task = slice_index_or tasks task (record { kind = Plain; weight = 1; block = 1 })

-- no more sectors than the disk has, and none before a range is wanted
pub record IsOneRange (limit : ℕ) (wants : Bool) (blocks : List Block) : Type 0 where
  pub few : sectors blocks ≤ limit
  pub none : wants ≡ false → blocks ≡ []

-- each block is of an opened task, and a backup has those of one range
pub record HoldBlocks (disk : Shape) (blocks : List Block) (tasks : List Terms) (taken : List Call) : Type 0 where
  pub unopened : (task : ℕ) → length tasks ≤ task → own task blocks ≡ []
  pub backups : (task : ℕ) → is_backup (terms_at tasks task).kind ≡ true
      → IsOneRange (length (places disk)) (has_want taken task) (own task blocks)

abbrev pub Holds : Shape → Past → Type 0
Holds disk past = HoldBlocks disk (registered past) (tasks past) (calls_of past)

-- ---- lists

plain_beyond : (tasks : List Terms) (task : ℕ) → length tasks ≤ task → (terms_at tasks task).kind ≡ Plain
plain_beyond [] zero beyond = refl
plain_beyond [] (suc task) beyond = refl
plain_beyond (terms ∷ tasks) zero beyond = absurd (omega arith)
plain_beyond (terms ∷ tasks) (suc task) beyond = plain_beyond tasks task (omega arith)

-- blocks of another task
other_same : (owner task weight n : ℕ) (cuts : List Cut) (blocks : List Block) → (owner == task) ≡ false
    → own task (blocks ++ numbered owner weight n cuts) ≡ own task blocks
other_same owner task weight n cuts blocks other =
    filter-append (λ (block : Block). block.task == task) blocks (numbered owner weight n cuts)
    ∙ (ap (λ more. own task blocks ++ more) (none_other owner task weight n cuts other) ∙ append-nil (own task blocks))

-- ---- a call

module _ (disk : Shape) where
  module _ (past : Past) (call : Call) (h : Holds disk past) where
    abbrev now : Action → List Block
    now action = registered past ++ blocks_by disk past call.task action

    abbrev IsBackup : Action → ℕ → Type 0
    IsBackup action task = is_backup (terms_at (opened_by action (tasks past)) task).kind ≡ true

    unopened_now : (action : Action) → MayAsk disk (calls_of past) call.task action → (task : ℕ)
        → length (opened_by action (tasks past)) ≤ task → own task (now action) ≡ []
    unopened_now (Open kind weight block) may task beyond = ap (own task) (append-nil (registered past))
        ∙ h.unopened task (omega (arith, beyond, length-append (tasks past) (record { kind = kind; weight = weight; block = block } ∷ [])))
    unopened_now (Want first count) may task beyond =
        let opened = (open_there past call.task may.0).0 in
        other_same call.task task (terms_of past call.task).weight (length (blocks_of past call.task))
        (cutting disk (terms_of past call.task).block first count) (registered past)
        (ne_eqb call.task task (λ same. absurd (omega (arith, opened, beyond, same)))) ∙ h.unopened task beyond
    unopened_now _ may task beyond = ap (own task) (append-nil (registered past)) ∙ h.unopened task beyond

    -- a want stays wanted
    wanted_before : (task : ℕ) → has_want (calls_of past ++ call ∷ []) task ≡ false → has_want (calls_of past) task ≡ false
    wanted_before task none = (or_parts (has_want (calls_of past) task) _
        (sym (list_any-append (λ (call : Call). (call.task == task) && is_want call.action) (calls_of past) (call ∷ [])) ∙ none)).0

    wanted_now : (first count : ℕ) → call.action ≡ Want first count → has_want (calls_of past ++ call ∷ []) call.task ≡ true
    wanted_now first count is =
        rw (
          list_any-append (λ (other : Call). (other.task == call.task) && is_want other.action) (calls_of past) (call ∷ []),
          same_number call.task call.task refl,
          is,
        ) (or-true (has_want (calls_of past) call.task))

    kept : (task : ℕ) (blocks : List Block) → own task blocks ≡ own task (registered past) → is_backup (terms_of past task).kind ≡ true
        → IsOneRange (length (places disk)) (has_want (calls_of past ++ call ∷ []) task) (own task blocks)
    kept task blocks same backup =
        let before = h.backups task backup in
        subst (IsOneRange (length (places disk)) (has_want (calls_of past ++ call ∷ []) task)) (sym same)
        (record { few = before.few; none = λ none. before.none (wanted_before task none) })

    backups_now : (action : Action) → call.action ≡ action → MayAsk disk (calls_of past) call.task action → (task : ℕ)
        → IsBackup action task
        → IsOneRange (length (places disk)) (has_want (calls_of past ++ call ∷ []) task) (own task (now action))
    unfolding view
    backups_now (Open kind weight block) is may task backup = elim (cases_Bool (length (tasks past) == task)) [
      | inl new ↦
          subst (IsOneRange (length (places disk)) (has_want (calls_of past ++ call ∷ []) task))
          (sym (ap (own task) (append-nil (registered past)) ∙ h.unopened task (omega (arith, eqb-true (length (tasks past)) task new))))
          (record { few = omega arith; none = λ none. refl })
      | inr other ↦ kept task (now (Open kind weight block)) (ap (own task) (append-nil (registered past)))
          (ap (λ (terms : Terms). is_backup terms.kind)
          (sym (index_other (tasks past) (record { kind = kind; weight = weight; block = block }) _ task other)) ∙ backup)
    ]
    backups_now (Want first count) is may task backup =
        let terms = terms_of past call.task in
        let cuts = cutting disk terms.block first count in
        let blocks = numbered call.task terms.weight (length (blocks_of past call.task)) cuts in
        elim (cases_Bool (call.task == task)) [
          | inr other ↦ kept task (now (Want first count)) (other_same call.task task terms.weight (length (blocks_of past call.task)) cuts
              (registered past) other) backup
          | inl mine ↦
              let same = eqb-true call.task task mine in
              let is_own : is_backup (terms_of past call.task).kind ≡ true = ap (λ task. is_backup (terms_of past task).kind) same
              ∙ backup in
              let none : has_want (calls_of past) call.task ≡ false = sym (ap (λ kind. is_backup kind && has_want (calls_of past) call.task)
              (ap (λ (terms : Terms). terms.kind) (terms_there past call.task)) ∙ ap (λ b. b && has_want (calls_of past) call.task) is_own)
              ∙ may.2 in
              let before : own call.task (registered past) ≡ [] = (h.backups call.task is_own).none none in
              let all : own call.task (now (Want first count)) ≡ own call.task blocks =
              filter-append (λ (block : Block). block.task == call.task) (registered past) blocks
              ∙ ap (λ old. old ++ own call.task blocks) before in
              subst (λ task. IsOneRange (length (places disk)) (has_want (calls_of past ++ call ∷ []) task)
              (own task (now (Want first count)))) same
              (subst (IsOneRange (length (places disk)) (has_want (calls_of past ++ call ∷ []) call.task)) (sym all) (record {
                few = (let inside = may.3.inside in omega (
                  arith,
                  inside,
                  some_have (λ block. block.task == call.task) blocks,
                  numbered_have call.task terms.weight (length (blocks_of past call.task)) cuts,
                  cuts_have disk terms.block first count,
                ));
                none = λ never. absurd (true≢false (sym (wanted_now first count is) ∙ never));
              }))
        ]
    backups_now _ is may task backup = kept task (registered past ++ []) (ap (own task) (append-nil (registered past))) backup

  call_holds : (past : Past) (call : Call) → MayAsk disk (calls_of past) call.task call.action → Holds disk past
      → Holds disk (take_call disk past call)
  call_holds past call may h = record {
    unopened = unopened_now past call h call.action may;
    backups = backups_now past call h call.action refl may;
  }

  -- ---- a choice

  choice_holds : (past : Past) (task : ℕ) → is_clean (terms_of past task).kind ≡ true → ChoiceKeeps disk (Holds disk) task past
  choice_holds past task cleans segment left are h =
      let best = best_of is_better segment left in
      let terms = terms_of past task in
      let n = length (blocks_of past task) in
      let cuts = live_cuts disk terms.block best.first best.live in
      record {
        unopened = λ other beyond. elim (cases_Bool (task == other)) [
          | inl same ↦ absurd (true≢false (sym cleans ∙ ap (λ task. is_clean (terms_of past task).kind) (eqb-true task other same)
              ∙ ap is_clean (plain_beyond (tasks past) other beyond)))
          | inr differ ↦ other_same task other terms.weight n cuts (registered past) differ ∙ h.unopened other beyond
        ];
        backups = λ other backup. elim (cases_Bool (task == other)) [
          | inl same ↦ absurd (no_backup (terms_of past task).kind cleans
              (ap (λ task. is_backup (terms_of past task).kind) (eqb-true task other same) ∙ backup))
          | inr differ ↦ subst (IsOneRange (length (places disk)) (has_want (calls_of past) other))
              (sym (other_same task other terms.weight n cuts (registered past) differ)) (h.backups other backup)
        ];
      }

  pub holds_kept : EventsKeep disk (Holds disk)
  holds_kept = record {
    call = call_holds;
    choice = choice_holds;
    test = λ past rows h. h;
    delivery = λ past row h. h;
    finish = λ past request h. h;
  }

-- ---- so far

abbrev pub HoldsOf : Inputs → Past → Type 0
HoldsOf inputs past = HoldsSoFar inputs (Holds inputs.disk.map) past

pub at_first : (inputs : Inputs) → IsAccepted inputs → HoldsOf inputs []
at_first inputs accepted = (
  accepted.calls,
  tt,
  record { unopened = λ task beyond. refl; backups = λ task backup. record { few = omega arith; none = λ none. refl } },
)
