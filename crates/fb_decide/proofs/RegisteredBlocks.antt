-- Where registered blocks stand, and that two of the same number are one.
use Rattle.fb_decide.proofs.Words.{◌≡◌, ℕ, ◌<◌, ◌≤◌, ◌==◌, List, [], ◌∷◌, ◌++◌, true, false, Some, inl, inr, length, append-nil, refl, ap}
use Rattle.fb_decide.proofs.Words.{sym, ◌∙◌, arith, subst, AllByRecursion, list_any, and_parts, cases_Bool, cases_lt, true≢false}
use Rattle.fb_decide.proofs.Words.{same_Some, all_append, all_from_index, all_get, all_weaker, filter_to, Shape, Block, Entry, Event}
use Rattle.fb_decide.proofs.Words.{called, chose, Past, tasks, registered, registered_by, blocks_of, same_block, Choice, choices, view}
use Rattle.fb_decide.proofs.Words.{Session, AreNumbered, Tells, IsRegistered, own, itself}
use Rattle.std.proofs.Common.{length-append, slice_get}
use Rattle.std.proofs.lemmas.Bool.{eqb-true}
use Rattle.fb_units.proofs.Among.{Among, among-any, among-append, among-right}
use Rattle.fb_units.proofs.Comparing.{same_number}
use Rattle.fb_units.proofs.Lists.{append_at, element_at}
use Rattle.fb_units.proofs.Each.{all_flat}
use Rattle.fb_script.specs.Sessions.{is_clean}
use Rattle.fb_tasks.specs.Standing.{IsBlockOf}
use Rattle.fb_model.proofs.Histories.{opened_more}
use Rattle.fb_script.specs.Allowed.{terms_in}
use Rattle.fb_tasks.proofs.Sealed.{numbered_at}

pub each_in : {X : Type 0} (xs : List X) → AllByRecursion (Among xs) xs
each_in xs = all_from_index (Among xs) xs (λ i x at. (i, at))

pub all_in : {X : Type 0} (P : X → Type 0) (xs : List X) (x : X) → AllByRecursion P xs → Among xs x → P x
all_in P xs x all there = all_get P xs there.0 x all there.1

-- a block among others is the same as one of them
pub in_any : (blocks : List Block) (i : ℕ) (block : Block) → slice_get blocks i ≡ Some block → list_any (same_block block) blocks ≡ true
in_any blocks i block h = among-any (same_block block) blocks block (i, h) (itself block)

-- what an event registers stands behind what was registered before
pub registered_after : (past : Past) (event : Event) → registered (event ∷ past) ≡ registered past ++ registered_by event
registered_after past (called call blocks) = refl
registered_after past (chose task segment blocks) = refl
registered_after past _ = sym (append-nil (registered past))

-- what was registered before stays so, and there is nothing else but what the event registers
pub still_there : (past : Past) (event : Event) (block : Block) → IsRegistered past block → IsRegistered (event ∷ past) block
still_there past event block there =
    subst (λ bs. Among bs block) (sym (registered_after past event))
    (there.0, append_at (registered past) (registered_by event) there.0 block there.1)

pub there_before : (past : Past) (event : Event) (block : Block) → list_any (same_block block) (registered_by event) ≡ false
    → IsRegistered (event ∷ past) block → IsRegistered past block
there_before past event block none there =
    let known = subst (λ bs. Among bs block) (registered_after past event) there in
    elim (among-append (registered past) (registered_by event) block known) [
      | inl old ↦ old
      | inr new ↦ absurd (true≢false (sym (in_any (registered_by event) new.0 block new.1) ∙ none))
    ]

-- the blocks of a choice are registered
abbrev AreThere : Past → Choice → Type 0
AreThere past choice = AllByRecursion (IsRegistered past) choice.blocks

still_chosen : (past : Past) (event : Event) (task : ℕ) → AllByRecursion (AreThere past) (choices past task)
    → AllByRecursion (AreThere (event ∷ past)) (choices past task)
still_chosen past event task before = all_weaker (AreThere past) (AreThere (event ∷ past))
    (λ choice all. all_weaker (IsRegistered past) (IsRegistered (event ∷ past)) (still_there past event) choice.blocks all)
    (choices past task) before

pub chosen_there : (past : Past) (task : ℕ) → AllByRecursion (AreThere past) (choices past task)
chosen_there [] task = tt
chosen_there (chose chooser segment blocks ∷ past) task =
    let new = chose chooser segment blocks ∷ past in
    let before = still_chosen past (chose chooser segment blocks) task (chosen_there past task) in
    elim (cases_Bool (chooser == task)) [
      | inl mine ↦ rw mine (all_append (AreThere new) (choices past task) _ before (
        all_weaker (Among blocks) (Among (registered past ++ blocks)) (among-right (registered past) blocks) blocks (each_in blocks),
        tt,
      ))
      | inr other ↦ rw other before
    ]
chosen_there (called call blocks ∷ past) task = still_chosen past (called call blocks) task (chosen_there past task)
chosen_there (_ ∷ past) task = chosen_there past task

-- and its task's own
abbrev pub AreOwn : Past → Type 0
AreOwn past = (task : ℕ)
    → AllByRecursion (λ (choice : Choice). AllByRecursion (λ block. block.task ≡ task) choice.blocks) (choices past task)

pub own-told : (disk : Shape) (past : Past) (sessions : List Session) (held : List Entry) → Tells disk past sessions held → AreOwn past
unfolding view
own-told disk past sessions held tells task = elim (cases_lt task (length (tasks past))) [
  | inl opened ↦
      let found = element_at sessions task (let as_many = tells.as_many in omega (arith, as_many, opened)) in
      let told = tells.each task found.0 found.1 in
      elim (cases_Bool (is_clean found.0.kind)) [
        | inl cleans ↦ all_flat (λ (block : Block). block.task ≡ task) (λ (choice : Choice). choice.blocks) (choices past task)
            (subst (AllByRecursion (λ (block : Block). block.task ≡ task)) (told.stands.log cleans).blocks (own past task))
        | inr other ↦ none_chosen (told.stands.unchosen other)
      ]
  | inr unopened ↦ none_chosen (tells.unopened task unopened).choices
] where
  none_chosen : choices past task ≡ []
      → AllByRecursion (λ (choice : Choice). AllByRecursion (λ block. block.task ≡ task) choice.blocks) (choices past task)
  none_chosen none = subst (AllByRecursion _) (sym none) tt

-- registered blocks belong to tasks that are open
abbrev pub AreOpened : Past → Type 0
AreOpened past = AllByRecursion (λ block. block.task < length (tasks past)) (registered past)

pub opened-told : (disk : Shape) (past : Past) (sessions : List Session) (held : List Entry) → Tells disk past sessions held
    → AreOpened past
opened-told disk past sessions held tells = all_weaker (IsBlockOf disk (length (tasks past))) (λ block. block.task < length (tasks past))
    (λ block h. h.task) (registered past) tells.on_disk

-- and there is one of each number
abbrev pub AreDistinct : Past → Type 0
AreDistinct past = (a b : Block) → IsRegistered past a → IsRegistered past b → same_block a b ≡ true → a ≡ b

-- tasks are opened, and never less
pub tasks_more : (past : Past) (event : Event) → length (tasks past) ≤ length (tasks (event ∷ past))
tasks_more past (called call blocks) =
    omega (arith, ap length (opened_more call.action (tasks past)), length-append (tasks past) (terms_in call.action))
tasks_more past (_) = omega arith

pub registered-kept : (past : Past) (event : Event) → registered_by event ≡ [] → registered (event ∷ past) ≡ registered past
registered-kept past event none = registered_after past event ∙ (ap (λ bs. registered past ++ bs) none ∙ append-nil (registered past))

pub opened-kept : (past : Past) (event : Event) → registered_by event ≡ [] → AreOpened past → AreOpened (event ∷ past)
opened-kept past event none h =
    subst (AllByRecursion (λ (block : Block). block.task < length (tasks (event ∷ past)))) (sym (registered-kept past event none))
    (all_weaker (λ (block : Block). block.task < length (tasks past)) (λ (block : Block). block.task < length (tasks (event ∷ past)))
    (λ block less. let more = tasks_more past event in omega (arith, less, more)) (registered past) h)

pub distinct : (past : Past) → ((task : ℕ) → AreNumbered 0 (blocks_of past task)) → AreDistinct past
distinct past numbered a b there_a there_b same =
    let parts = and_parts (a.task == b.task) (a.index == b.index) same in
    let task = eqb-true a.task b.task parts.0 in
    let number = eqb-true a.index b.index parts.1 in
    let first = filter_to (λ block. block.task == b.task) (registered past) there_a.0 a there_a.1 parts.0 in
    let second = filter_to (λ block. block.task == b.task) (registered past) there_b.0 b there_b.1 (same_number b.task b.task refl) in
    let first_number = numbered_at 0 first.0 (blocks_of past b.task) a (numbered b.task) first.1 in
    let second_number = numbered_at 0 second.0 (blocks_of past b.task) b (numbered b.task) second.1 in
    let index : first.0 ≡ second.0 = omega (arith, number, first_number, second_number) in
    same_Some a b (sym first.1 ∙ (ap (slice_get (blocks_of past b.task)) index ∙ second.1))

pub distinct-told : (disk : Shape) (past : Past) (sessions : List Session) (held : List Entry) → Tells disk past sessions held
    → AreDistinct past
unfolding view
distinct-told disk past sessions held tells = distinct past (λ task. (tells.placed task).numbered)

-- an event that registers nothing keeps it so
pub distinct-kept : (past : Past) (event : Event) → registered_by event ≡ [] → AreDistinct past → AreDistinct (event ∷ past)
distinct-kept past event none h a b there_a there_b = h a b (before a there_a) (before b there_b) where
  before : (block : Block) → IsRegistered (event ∷ past) block → IsRegistered past block
  before block = there_before past event block (ap (list_any (same_block block)) none)
