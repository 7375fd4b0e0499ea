-- What is accepted obeys the rules.
use Rattle.std.proofs.Common.{◌≡◌, ℕ, ◌+◌, ◌*◌, ◌^◌, ◌<◌, ◌≤◌, Bool, true, false, not, ◌&&◌, nat_le, nat_lt, nat_eq, List, length, max}
use Rattle.std.proofs.Common.{get_or, Some, Result, Ok, position, is_some, refl, sym, ap, ◌∙◌, subst, arith}
use Rattle.fb_units.proofs.Lists.{same_Ok}
use Rattle.fb_units.specs.Judging.{◌>>◌, or_refuse, refuse}
use Rattle.fb_units.proofs.Judged.{both_ok, value_ok, test_ok}
use Rattle.std.proofs.lemmas.Bool.Decides.{nat_tests}
use Rattle.fb_geometry.specs.Shape.{Shape}
use Rattle.fb_geometry.specs.Places.{places}
use Rattle.fb_script.specs.declared.call.Action.{Action}
use Rattle.fb_script.specs.declared.call.Action.TheVariants.{Open, Want, Abort, Promote, Suspend, Resume, Close, Segment}
use Rattle.fb_calls.specs.declared.opened_task.OpenedTask.{OpenedTask}
use Rattle.fb_calls.specs.declared.fault.CallsReason.TheVariants.{TaskTaken, UnknownTask, Closed, WrongKind, WantedTwice, Empty}
use Rattle.fb_calls.specs.declared.fault.CallsReason.TheVariants.{BeyondDisk, TooLarge, WeightOutOfRange, BlockOutOfRange, TooManyBlocks}
use Rattle.fb_calls.specs.declared.fault.CallsReason.TheVariants.{TooMany}
use Rattle.fb_script.specs.Allowed.{IsRange, IsOpen, MayAsk, tasks, terms_of, has_want}
use Rattle.fb_script.specs.Blocks.{blocks_in, reads_in}
use Rattle.fb_calls.specs.Judgement.{Progress, is_beyond, some_on_disk, are_too_many, opened, allowed, allowed_for, task_for}
use Rattle.fb_script.specs.Sessions.{is_clean, is_backup}
use Rattle.fb_calls.specs.Sessions.{task_of, session_of}
use Rattle.fb_calls.specs.Line.{Entry}
use Rattle.fb_calls.proofs.Following.{of_session, of_task, Knows}
use Rattle.std.proofs.Math.Nat.{mul-lt-mul_of_pos_right}
use Rattle.std.proofs.Math.ListN.{get_or-map}
use Rattle.std.proofs.lemmas.List.{length-map}
use Rattle.fb_script.specs.declared.call.Kind.{Kind}
use Rattle.fb_script.specs.declared.call.Kind.TheVariants.{Plain}
use Rattle.std.specs.Str.{bytes_eq}

-- if a check and those after it didn't refuse, its test doesn't hold, and those after it didn't refuse
pub passed : {E B : Type 0} (reason : E) (test : Bool) (rest : Result B E) (b : B) → (refuse reason test >> rest) ≡ Ok b
    → (test ≡ false) × (rest ≡ Ok b)
passed reason true rest b given = cc
passed reason false rest b given = (refl, given)

some_product : (a b : ℕ) → 0 < a → 0 < b → 0 < a * b
some_product a b one two = let more = mul-lt-mul_of_pos_right one two in omega arith

range_passed : (disk : Shape) (first count : ℕ) (u : Unit {0}) → some_on_disk disk first count ≡ Ok u → IsRange disk first count
range_passed disk first count u given =
    let some = passed Empty (nat_eq count 0) (refuse BeyondDisk (is_beyond disk first count)) u given in
    let inside = test_ok BeyondDisk (is_beyond disk first count) u some.1 in
    record { some = grind (arith, nat_tests); inside = grind (arith, nat_tests) }

-- a segment has blocks, each of which is live or not, and a small age
abbrev pub IsSpelled : Action → Type 0
IsSpelled (Segment first blocks age live) = (1 ≤ blocks) × (age ≤ 10 ^ 15) × (length live ≡ blocks)
IsSpelled _ = Unit {0}

abbrev pub IsOnSession : Action → Type 0
IsOnSession (Open kind weight block) = ⊥
IsOnSession _ = Unit {0}

abbrev pub IsWithinEntry : Entry → Type 0
IsWithinEntry entry = (entry.instant ≤ 10 ^ 15) × ((action : Action) → entry.asked ≡ Ok action → IsSpelled action)

-- what an action may ask for of a session
abbrev pub MayAskOn : Shape → Progress → OpenedTask → Action → Type 0
MayAskOn disk so_far session (Open kind weight block) = Unit {0}
MayAskOn disk so_far session (Want first count) =
    (is_clean session.kind ≡ false) × (is_backup session.kind && session.wanted ≡ false) × IsRange disk first count
MayAskOn disk so_far session (Abort first count) = (is_clean session.kind ≡ false) × IsRange disk first count
MayAskOn disk so_far session (Promote first count) = IsRange disk first count × (count ≤ 2048)
MayAskOn disk so_far session (Segment first blocks age live) =
    (is_clean session.kind ≡ true) × (first + blocks * session.block ≤ length (places disk)) × (blocks ≤ 4096)
MayAskOn disk so_far session _ = Unit {0}

-- how much there may be with an action
pub record IsRoomFor (disk : Shape) (so_far : Progress) (session : OpenedTask) (action : Action) : Type 0 where
  pub blocks : so_far.blocks + blocks_in disk session.block action ≤ 16 * 10 ^ 6
  pub reads : so_far.reads + reads_in action ≤ max (10 ^ 6) so_far.reads

module _ (disk : Shape) (so_far : Progress) (few : so_far.blocks ≤ 16 * 10 ^ 6) (session : OpenedTask) where
  pub allowed_passed : (action : Action) (u : Unit {0}) → allowed disk so_far session action ≡ Ok u
      → MayAskOn disk so_far session action × IsRoomFor disk so_far session action
  unfolding allowed
  allowed_passed (Open kind weight block) u given = (tt, record { blocks = omega arith; reads = omega arith })
  allowed_passed (Want first count) u given =
      let kind = passed WrongKind (is_clean session.kind) _ u given in
      let once = passed WantedTwice (is_backup session.kind && session.wanted) _ u kind.1 in
      let range = both_ok (some_on_disk disk first count) _ u once.1 in
      let room = test_ok TooManyBlocks (are_too_many so_far.blocks (blocks_in disk session.block (Want first count))) u range.2 in
      ((kind.0, once.0, range_passed disk first count range.0 range.1), record { blocks = grind (arith, nat_tests); reads = omega arith })
  allowed_passed (Abort first count) u given =
      let kind = passed WrongKind (is_clean session.kind) _ u given in
      ((kind.0, range_passed disk first count u kind.1), record { blocks = omega arith; reads = omega arith })
  allowed_passed (Promote first count) u given =
      let range = both_ok (some_on_disk disk first count) _ u given in
      let large = passed TooLarge (nat_lt 2048 count) _ u range.2 in
      let many = test_ok TooMany (nat_lt (10 ^ 6) (so_far.reads + 1)) u large.1 in (
        (range_passed disk first count range.0 range.1, grind (arith, nat_tests)),
        record { blocks = omega arith; reads = grind (arith, nat_tests) },
      )
  allowed_passed Suspend u given = (tt, record { blocks = omega arith; reads = omega arith })
  allowed_passed Resume u given = (tt, record { blocks = omega arith; reads = omega arith })
  allowed_passed Close u given = (tt, record { blocks = omega arith; reads = omega arith })
  allowed_passed (Segment first blocks age live) u given =
      let kind = passed WrongKind (not (is_clean session.kind)) _ u given in
      let inside = passed BeyondDisk (is_beyond disk first (blocks * session.block)) _ u kind.1 in
      let large = passed TooLarge (nat_lt 4096 blocks) _ u inside.1 in
      let room =
      test_ok TooManyBlocks (are_too_many so_far.blocks (blocks_in disk session.block (Segment first blocks age live))) u large.1 in (
        (grind (arith, nat_tests), grind (arith, nat_tests), grind (arith, nat_tests)),
        record { blocks = grind (arith, nat_tests); reads = omega arith },
      )

-- the task that an action is for
abbrev pub IsPlace : Progress → ℕ → Action → Type 0
IsPlace so_far task (Open kind weight block) = (task ≡ length so_far.sessions) × (1 ≤ block)
IsPlace so_far task _ = task < length so_far.sessions

-- an action that may follow
pub record Admits (disk : Shape) (so_far : Progress) (number : ℕ) (action : Action) : Type 0 where
  pub may : MayAsk disk so_far.calls number action
  pub place : IsPlace so_far number action
  pub room : IsRoomFor disk so_far (session_of so_far.sessions number) action

pub position_inside : {X : Type 0} (test : X → Bool) (xs : List X) (i : ℕ) → position test xs ≡ Some i → i < length xs
position_inside test xs i found = grind (arith, nat_tests)

-- what a call finds in a script
module _ (disk : Shape) (traced : ℕ) (so_far : Progress) (knows : Knows disk traced so_far) where
  same_length : length so_far.sessions ≡ length (tasks so_far.calls)
  same_length = omega (arith, length-map so_far.sessions of_session, length-map (tasks so_far.calls) of_task, ap length knows.terms)

  same_terms : (task : ℕ) → of_session (session_of so_far.sessions task) ≡ of_task (terms_of so_far.calls task)
  same_terms task =
      sym (get_or-map of_session so_far.sessions task (record { kind = Plain; block = 1; wanted = false; closed = false }))
      ∙ ap (λ known. get_or known task (Plain, 1)) knows.terms
      ∙ get_or-map of_task (tasks so_far.calls) task (record { kind = Plain; weight = 1; block = 1 })

  same_kind : (task : ℕ) → (session_of so_far.sessions task).kind ≡ (terms_of so_far.calls task).kind
  same_kind task = ap (λ known. known.0) (same_terms task)

  pub same_block : (task : ℕ) → (session_of so_far.sessions task).block ≡ (terms_of so_far.calls task).block
  same_block task = ap (λ known. known.1) (same_terms task)

  admits_open : (kind : Kind) (weight block task : ℕ) (name : List ℕ) → opened so_far.names name weight block ≡ Ok task
      → Admits disk so_far task (Open kind weight block)
  unfolding opened
  admits_open kind weight block task name given =
      let free = passed TaskTaken (is_some (task_of so_far.names name)) _ task given in
      let heavy = passed WeightOutOfRange (not (nat_le 1 weight && nat_le weight 1000)) _ task free.1 in
      let large = passed BlockOutOfRange (not (nat_le 1 block && nat_le block 2048)) _ task heavy.1 in
      let number : length so_far.names ≡ task = same_Ok (length so_far.names) task large.1 in
      record {
        may = (
          sym number ∙ knows.names_are,
          grind (arith, nat_tests),
          grind (arith, nat_tests),
          grind (arith, nat_tests),
          grind (arith, nat_tests),
        );
        place = (sym number ∙ (knows.names_are ∙ sym same_length), grind (arith, nat_tests));
        room = record { blocks = omega (arith, knows.few_blocks); reads = omega arith };
      }

  module _ (task : ℕ) (inside : task < length so_far.names) (unclosed : (session_of so_far.sessions task).closed ≡ false) where
    is_open : IsOpen so_far.calls task
    is_open = record { opened = omega (arith, knows.names_are, inside); not_closed = sym (knows.closed task) ∙ unclosed }

    may_ask : (action : Action) → IsOnSession action → IsSpelled action → MayAskOn disk so_far (session_of so_far.sessions task) action
        → MayAsk disk so_far.calls task action
    may_ask (Open kind weight block) on spelled may = absurd on
    may_ask (Want first count) on spelled may = (
      is_open,
      ap is_clean (sym (same_kind task)) ∙ may.0,
      ap (λ kind. is_backup kind && has_want so_far.calls task) (sym
          (same_kind task)) ∙ (ap (λ w. is_backup (session_of so_far.sessions task).kind && w) (sym (knows.wanted task)) ∙ may.1),
      may.2,
    )
    may_ask (Abort first count) on spelled may = (is_open, ap is_clean (sym (same_kind task)) ∙ may.0, may.1)
    may_ask (Promote first count) on spelled may = (is_open, may.0, may.1)
    may_ask Suspend on spelled may = is_open
    may_ask Resume on spelled may = is_open
    may_ask Close on spelled may = is_open
    may_ask (Segment first blocks age live) on spelled may = (
      is_open,
      ap is_clean (sym (same_kind task)) ∙ may.0,
      record {
        some = some_product blocks (terms_of so_far.calls task).block spelled.0 (subst (λ block. 1 ≤ block) (same_block task)
            (knows.sizes task));
        inside = subst (λ block. first + blocks * block ≤ length (places disk)) (same_block task) may.1;
      },
      may.2,
      spelled.1,
      spelled.2,
    )

    place_on : (action : Action) → IsOnSession action → IsPlace so_far task action
    place_on (Open kind weight block) on = absurd on
    place_on (Want first count) on = omega (arith, inside, knows.names_are, same_length)
    place_on (Abort first count) on = omega (arith, inside, knows.names_are, same_length)
    place_on (Promote first count) on = omega (arith, inside, knows.names_are, same_length)
    place_on Suspend on = omega (arith, inside, knows.names_are, same_length)
    place_on Resume on = omega (arith, inside, knows.names_are, same_length)
    place_on Close on = omega (arith, inside, knows.names_are, same_length)
    place_on (Segment first blocks age live) on = omega (arith, inside, knows.names_are, same_length)

  admits_on : (action : Action) (task : ℕ) (name : List ℕ) → IsOnSession action → IsSpelled action
      → allowed_for disk so_far name action ≡ Ok task → Admits disk so_far task action
  unfolding allowed_for
  admits_on action task name on spelled given =
      let found = both_ok (or_refuse UnknownTask (task_of so_far.names name)) _ task given in
      let unclosed = passed Closed (session_of so_far.sessions found.0).closed _ task found.2 in
      let may = both_ok (allowed disk so_far (session_of so_far.sessions found.0) action) _ task unclosed.1 in
      let same : found.0 ≡ task = same_Ok found.0 task may.2 in
      let facts = allowed_passed disk so_far knows.few_blocks (session_of so_far.sessions found.0) action may.0 may.1 in
      let inside =
      position_inside (bytes_eq name) so_far.names found.0 (value_ok UnknownTask (task_of so_far.names name) found.0 found.1) in
      subst (λ t. Admits disk so_far t action) same (record {
        may = may_ask found.0 inside unclosed.0 action on spelled facts.0;
        place = place_on found.0 inside unclosed.0 action on;
        room = facts.1;
      })

  pub admits : (action : Action) (task : ℕ) (name : List ℕ) → IsSpelled action → task_for disk so_far name action ≡ Ok task
      → Admits disk so_far task action
  unfolding task_for
  admits (Open kind weight block) task name spelled given = admits_open kind weight block task name given
  admits (Want first count) task name spelled given = admits_on (Want first count) task name tt spelled given
  admits (Abort first count) task name spelled given = admits_on (Abort first count) task name tt spelled given
  admits (Promote first count) task name spelled given = admits_on (Promote first count) task name tt spelled given
  admits Suspend task name spelled given = admits_on Suspend task name tt spelled given
  admits Resume task name spelled given = admits_on Resume task name tt spelled given
  admits Close task name spelled given = admits_on Close task name tt spelled given
  admits (Segment first blocks age live) task name spelled given = admits_on (Segment first blocks age live) task name tt spelled given
