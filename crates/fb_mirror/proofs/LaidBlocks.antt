-- Whatever blocks a run registers are sectors of its disk.
use Rattle.fb_mirror.proofs.Words.{◌≡◌, ℕ, ◌+◌, ◌≤◌, List, [], ◌∷◌, ◌++◌, length, map, Bool, true, false, refl, ap, sym, subst, arith, inl}
use Rattle.fb_mirror.proofs.Words.{inr, ◌==◌, not, if◌then◌else◌, AllByRecursion, slice_index_or, cases_Bool, eqb-true, nat_tests}
use Rattle.fb_mirror.proofs.Words.{length-append, all_append, all_filter, IsRising, Shape, places, Cut, cutting, Open, Want, Call, Plain}
use Rattle.fb_mirror.proofs.Words.{Terms, is_clean, Block, IsAccepted, Inputs, Decision, Past, blocks_of, calls_of, registered, tasks}
use Rattle.fb_mirror.proofs.Words.{terms_of, segments, work, Step, decision_in, past_after, chosen_past, take_call}
use Rattle.std.proofs.Common.{◌*◌}
use Rattle.std.specs.List.{best_of}
use Rattle.fb_units.proofs.Each.{all_best}
use Rattle.fb_script.specs.declared.call.Action.{Action}
use Rattle.fb_script.specs.declared.call.Action.TheVariants.{Segment}
use Rattle.fb_script.specs.Allowed as allowed
use Rattle.fb_script.specs.Allowed.{AreAllowed, MayAsk, terms_in}
use Rattle.fb_script.specs.Blocks.{live_cuts}
use Rattle.fb_model.specs.History.{LogSegment, opened_by}
use Rattle.fb_model.specs.Completion.{segment_by}
use Rattle.fb_model.specs.Segments.{is_better, is_chosen, next_blocks}
use Rattle.fb_model.specs.Steps.{blocks_by}
use Rattle.fb_model.proofs.Cuts.{all_numbered}
use Rattle.fb_model.proofs.Events.{ChoiceKeeps}
use Rattle.fb_model.proofs.Histories.{opened_more, opened_same, EventsKeep, HoldsSoFar, chosen_holds, after_holds}
use Rattle.fb_model.proofs.Views.{index_other}
use Rattle.fb_mirror.proofs.CutCover.{EndsBy, cuts_end}

-- the block ends by the end of the disk
abbrev pub LiesOn : Shape → Block → Type 0
LiesOn disk block = block.lbn + block.count ≤ length (places disk)

live_end : (disk : Shape) (block lbn end : ℕ) (lives : List Bool) → lbn + length lives * block ≤ end
    → AllByRecursion (EndsBy end) (live_cuts disk block lbn lives)
live_end disk block lbn end [] within = tt
live_end disk block lbn end (live ∷ lives) within =
    let rest = live_end disk block (lbn + block) end lives (omega arith) in
    all_append (EndsBy end) (if live then cutting disk block lbn block else []) (live_cuts disk block (lbn + block) lives) (here live) rest
  where
    here : (live : Bool) → AllByRecursion (EndsBy end) (if live then cutting disk block lbn block else [])
    here true = cuts_end disk block lbn block end (omega arith)
    here false = tt

-- a segment of a task lies on the disk with all its blocks
abbrev SegmentLies : Shape → ℕ → LogSegment → Type 0
SegmentLies disk block segment = segment.first + length segment.live * block ≤ length (places disk)

abbrev SegmentsLie : Shape → List Terms → ℕ → List LogSegment → Type 0
SegmentsLie disk tasks task segments =
    AllByRecursion (SegmentLies disk (slice_index_or tasks task (record { kind = Plain; weight = 1; block = 1 })).block) segments

-- the blocks and the segments of opened tasks lie on the disk
pub record HaveLaid (disk : Shape) (blocks : List Block) (tasks : List Terms) (segments : ℕ → List LogSegment) : Type 0 where
  pub blocks_lie : AllByRecursion (LiesOn disk) blocks
  pub segments_lie : (task : ℕ) → SegmentsLie disk tasks task (segments task)
  pub unopened : (task : ℕ) → length tasks ≤ task → segments task ≡ []

abbrev pub IsLaid : Shape → Past → Type 0
IsLaid disk past = HaveLaid disk (registered past) (tasks past) (λ task. segments past task)

-- what it registers for cuts of the disk lies on it
more_lie : (disk : Shape) (past : Past) (task : ℕ) (cuts : List Cut) → AllByRecursion (EndsBy (length (places disk))) cuts
    → AllByRecursion (LiesOn disk) (next_blocks past task cuts)
more_lie disk past task cuts all =
    all_numbered (λ lbn count. lbn + count ≤ length (places disk)) task (terms_of past task).weight (length (blocks_of past task)) cuts all

-- ---- the next call

module _ (disk : Shape) (past : Past) (call : Call) (laid : IsLaid disk past) where
  -- what it registers lies on the disk
  wanted_lie : (action : Action) → MayAsk disk (calls_of past) call.task action
      → AllByRecursion (LiesOn disk) (blocks_by disk past call.task action)
  wanted_lie (Want first count) may =
      let block = (terms_of past call.task).block in
      more_lie disk past call.task (cutting disk block first count) (cuts_end disk block first count (length (places disk)) may.3.inside)
  wanted_lie _ may = tt

  -- the segments before it lie there still
  still_lie : (action : Action) (task : ℕ) → SegmentsLie disk (opened_by action (tasks past)) task (segments past task)
  still_lie (Open kind weight block) task =
      let terms : Terms = record { kind = kind; weight = weight; block = block } in
      elim (cases_Bool (length (tasks past) == task)) [
        | inl new ↦ subst (SegmentsLie disk (tasks past ++ terms ∷ []) task) (sym (laid.unopened task (grind (arith, nat_tests)))) tt
        | inr other ↦ subst (λ (t : Terms). AllByRecursion (SegmentLies disk t.block) (segments past task))
            (sym (index_other (tasks past) terms (record { kind = Plain; weight = 1; block = 1 }) task other)) (laid.segments_lie task)
      ]
  still_lie _ task = laid.segments_lie task

  -- and so do those of its task after it
  mine_lie : (action : Action) → MayAsk disk (calls_of past) call.task action
      → SegmentsLie disk (opened_by action (tasks past)) call.task (segment_by action (segments past call.task))
  mine_lie (Segment first blocks age live) may =
      let same = ap (λ (tasks : List Terms). (slice_index_or tasks call.task (record { kind = Plain; weight = 1; block = 1 })).block)
      (opened_same past) in
      all_append (SegmentLies disk (terms_of past call.task).block) (segments past call.task) (_ ∷ []) (laid.segments_lie call.task) (
        subst (λ b. first + length live * b ≤ length (places disk)) same
            (subst (λ n. first + n * (allowed.terms_of (calls_of past) call.task).block ≤ length (places disk)) (sym may.5) may.2.inside),
        tt,
      )
  mine_lie (Open kind weight block) may = still_lie (Open kind weight block) call.task
  mine_lie _ may = laid.segments_lie call.task

  -- a task that isn't opened has none
  still_none : (action : Action) → MayAsk disk (calls_of past) call.task action → length (tasks past) ≤ call.task
      → segment_by action (segments past call.task) ≡ []
  still_none (Segment first blocks age live) may beyond = absurd (omega (arith, may.0.opened, ap length (opened_same past), beyond))
  still_none _ may beyond = laid.unopened call.task beyond

  laid_called : MayAsk disk (calls_of past) call.task call.action → IsLaid disk (take_call disk past call)
  laid_called may = record {
    blocks_lie = all_append (LiesOn disk) (registered past) (blocks_by disk past call.task call.action) laid.blocks_lie
        (wanted_lie call.action may);
    segments_lie = λ task. elim (cases_Bool (call.task == task)) [
      | inl mine ↦ rw mine (subst (λ t. SegmentsLie disk (opened_by call.action (tasks past)) t (segment_by call.action (segments past t)))
          (eqb-true call.task task mine) (mine_lie call.action may))
      | inr other ↦ rw other (still_lie call.action task)
    ];
    unopened = λ task beyond.
        let before : length (tasks past) ≤ task = omega (
          arith,
          ap length (opened_more call.action (tasks past)),
          length-append (tasks past) (terms_in call.action),
          beyond,
        ) in
        elim (cases_Bool (call.task == task)) [
          | inl mine ↦ rw mine (subst (λ t. length (tasks past) ≤ t → segment_by call.action (segments past t) ≡ [])
              (eqb-true call.task task mine) (still_none call.action may) before)
          | inr other ↦ rw other (laid.unopened task before)
        ];
  }

-- ---- a choice

laid_choice : (disk : Shape) (past : Past) (task : ℕ) → is_clean (terms_of past task).kind ≡ true → ChoiceKeeps disk (IsLaid disk) task past
laid_choice disk past task cleans segment left are laid =
    let block = (terms_of past task).block in
    let lie = subst (AllByRecursion (SegmentLies disk block)) are (all_filter (SegmentLies disk block)
    (λ segment. not (is_chosen (work past task).choices segment)) (segments past task) (laid.segments_lie task)) in
    let best = best_of is_better segment left in
    let cuts = live_cuts disk block best.first best.live in
    record {
      blocks_lie = all_append (LiesOn disk) (registered past) (next_blocks past task cuts) laid.blocks_lie
          (more_lie disk past task cuts (live_end disk block best.first (length (places disk)) best.live
          (all_best (SegmentLies disk block) is_better segment left lie.0 lie.1)));
      segments_lie = laid.segments_lie;
      unopened = laid.unopened;
    }

laid_kept : (disk : Shape) → EventsKeep disk (IsLaid disk)
laid_kept disk = record {
  call = λ past call may laid. laid_called disk past call laid may;
  choice = laid_choice disk;
  test = λ past rows laid. laid;
  delivery = λ past row laid. laid;
  finish = λ past request laid. laid;
}

-- ---- decisions

-- what a run has registered so far lies on its disk
abbrev pub AreLaid : Inputs → Past → Type 0
AreLaid inputs past = HoldsSoFar inputs (IsLaid inputs.disk.map) past

pub laid_first : (inputs : Inputs) → IsAccepted inputs → AreLaid inputs []
laid_first inputs accepted =
    (accepted.calls, tt, record { blocks_lie = tt; segments_lie = λ task. tt; unopened = λ task beyond. refl })

module _ (inputs : Inputs) (rising : IsRising (map (λ (call : Call). call.instant) inputs.calls)) where
  pub laid_chosen : (past : Past) (decision : Decision) → AreLaid inputs past → AreLaid inputs (chosen_past inputs past decision)
  laid_chosen past decision laid =
      chosen_holds inputs (IsLaid inputs.disk.map) (laid_kept inputs.disk.map) rising past decision laid

  pub laid_after : (past : Past) (step : Step) → AreLaid inputs past → AreLaid inputs (past_after inputs past step)
  laid_after past step laid = after_holds inputs (IsLaid inputs.disk.map) (laid_kept inputs.disk.map) past step
      (laid_chosen past (decision_in step) laid)
