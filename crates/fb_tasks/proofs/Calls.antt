-- The calls of a script take effect one after another: how many blocks are registered or can be by choices, and that other events leave it
-- as it is.
use Rattle.fb_tasks.proofs.Words.{◌≡◌, ℕ, zero, suc, ◌+◌, ◌<◌, ◌≤◌, ◌==◌, not, List, [], ◌∷◌, ◌++◌, Bool, inl, inr, length, filter}
use Rattle.fb_tasks.proofs.Words.{length-append, refl, ap, sym, ◌∙◌, arith, subst, ◌^◌, Some, length-take, take, drop, slice_get}
use Rattle.fb_tasks.proofs.Words.{append-nil, append_assoc, AllByRecursion, fold, range_with_len, sum_by, cases_Bool, filter-append}
use Rattle.fb_tasks.proofs.Words.{sum_by-cons, sum_by-append, Shape, cutting, Request, Action, Open, Want, Segment, Call, Kind, MayAsk}
use Rattle.fb_tasks.proofs.Words.{AreAllowed, blocks_from, blocks_in, live_cuts, Block, BackRow, DeliveryRow, Past, LogSegment, called}
use Rattle.fb_tasks.proofs.Words.{chose, tested, finished, tasks, task_numbers, terms_of, registered, opened_by, view, segments, segment_by}
use Rattle.fb_tasks.proofs.Words.{called-silent, opened-silent, opened-view, added-view, next_blocks, is_chosen, choose_in, with_choices}
use Rattle.fb_tasks.proofs.Words.{take_call, blocks_by, with_delivery, choosable_by, IsSegmentOf, IsUntouched, choosable, Tells, MayTake}
use Rattle.fb_tasks.proofs.Words.{eqb-true, other_number, ne_eqb, nat_tests, drop_more, take_more, slice_get_within}
use Rattle.fb_tasks.proofs.Words.{get_or_from_slice_get, Entry, Session, delivery_of, IsCalled, all_range}
use Rattle.fb_model.proofs.Events.{by_all, by_task}
use Rattle.fb_model.proofs.Histories.{opened_same}
use Rattle.fb_tasks.proofs.{Rules.open_there, Rules.terms_there, Cuts.cuts_count, Cuts.range_next}
use Rattle.fb_tasks.proofs.{Additions.next_segment, AllChoices.in_same, AllChoices.in_tasks, AllChoices.in_fewer}
use Rattle.fb_tasks.proofs.{AllChoices.sum_range, AllChoices.choosable-same}
use Rattle.fb_tasks.proofs.States.{seen}
use Rattle.fb_model.specs.History.{blocks_of}
use Rattle.fb_tasks.specs.Telling.{calls_of}
use Rattle.fb_script.specs.Allowed as allowed

-- how many blocks are registered, and how many the choices can register
abbrev pub in_all : Shape → Past → ℕ
in_all disk past = length (registered past) + choosable disk past

-- a sum of which one element changed
sum_changed : (f g : ℕ → ℕ) (a n k x y : ℕ) → a ≤ k → k < a + n → ((j : ℕ) → (k ≡ j → ⊥) → f j ≡ g j) → x + f k ≤ y + g k
    → x + sum_by f (range_with_len a n) ≤ y + sum_by g (range_with_len a n)
sum_changed f g a zero k x y from to same one = absurd (omega arith)
sum_changed f g a (suc n) k x y from to same one =
    let heads = sum_by-cons f a (range_with_len (a + 1) n) in
    let others = sum_by-cons g a (range_with_len (a + 1) n) in
    elim (cases_Bool (k == a)) [
      | inl here ↦
          let e = eqb-true k a here in
          let rest = sum_range f g (a + 1) n (λ j low high. same j (λ is. absurd (omega arith))) in
          omega (arith, heads, others, rest, one, ap f e, ap g e)
      | inr on ↦
          let rest = sum_changed f g (a + 1) n k x y (grind (arith, nat_tests)) (omega arith) same one in
          omega (arith, heads, others, rest, same a (other_number k a on))
    ]

-- the segments of all tasks lie on the disk
abbrev pub AreOnDisk : Shape → Past → Type 0
AreOnDisk disk past = (task : ℕ) → AllByRecursion (IsSegmentOf disk (view past task).terms.block) (view past task).segments

on_disk_kept : (disk : Shape) (past : Past) (task : ℕ) (segment : LogSegment) (blocks : List Block) → AreOnDisk disk past
    → AreOnDisk disk (chose task segment blocks ∷ past)
unfolding view
on_disk_kept disk past task segment blocks h = h

-- a task's choices register no more than it could choose
task_less : (disk : Shape) (past : Past) (n : ℕ) → n < length (tasks past) → AreOnDisk disk past
    → in_all disk (choose_in disk past n) ≤ in_all disk past
task_less disk past n opened on_disk =
    let new = choose_in disk past n in
    let numbers = ap (λ ts. sum_by (choosable_by disk new) (range_with_len 0 (length ts))) (in_tasks disk n past) in
    let sums = sum_changed (choosable_by disk new) (choosable_by disk past) 0 (length (tasks past)) n (length (registered new))
    (length (registered past)) (omega arith) (omega arith)
    (λ j differ. choosable-same disk past new j (in_same disk n j past differ)) (in_fewer disk n past (on_disk n)) in
    omega (arith, numbers, sums)

tasks_less : (disk : Shape) (ns : List ℕ) (past : Past) → AllByRecursion (λ n. n < length (tasks past)) ns → AreOnDisk disk past
    → in_all disk (fold (choose_in disk) past ns) ≤ in_all disk past
tasks_less disk [] past opened on_disk = omega arith
tasks_less disk (n ∷ ns) past opened on_disk =
    let rest =
    tasks_less disk ns (choose_in disk past n) (subst (λ ts. AllByRecursion (λ n. n < length ts) ns) (sym (in_tasks disk n past)) opened.1)
    (by_task (AreOnDisk disk) disk (on_disk_kept disk) n past on_disk) in
    omega (arith, rest, task_less disk past n opened.0 on_disk)

pub choices_less : (disk : Shape) (past : Past) → AreOnDisk disk past → in_all disk (with_choices disk past) ≤ in_all disk past
unfolding with_choices
choices_less disk past on_disk = tasks_less disk (task_numbers past) past (all_range (λ n. n < length (tasks past)) 0 (length (tasks past))
    (λ k from to. omega arith)) on_disk

-- calls
module _ (disk : Shape) (past : Past) (call : Call) where
  -- the call adds no more than the blocks that it can give
  abbrev pub Grows : Type 0
  Grows = in_all disk (take_call disk past call)
      ≤ in_all disk past + blocks_in disk (allowed.terms_of (calls_of past) call.task).block call.action

  block_there : (allowed.terms_of (calls_of past) call.task).block ≡ (terms_of past call.task).block
  block_there = ap (λ t. t.block) (terms_there past call.task ∙ (seen past call.task).terms)

  grown : (blocks : List Block) → blocks_by disk past call.task call.action ≡ blocks
      → in_all disk (take_call disk past call) ≡ length (registered past) + length blocks + choosable disk (called call blocks ∷ past)
  grown blocks is = rw (is, length-append) refl

  still : (blocks : List Block)
      → opened_by call.action (tasks past) ≡ tasks past → ((before : List LogSegment) → segment_by call.action before ≡ before)
      → choosable disk (called call blocks ∷ past) ≡ choosable disk past
  unfolding view
  still blocks kept gives =
      ap (λ ts. sum_by (choosable_by disk (called call blocks ∷ past)) (range_with_len 0 (length ts))) kept
      ∙ sum_range (choosable_by disk (called call blocks ∷ past)) (choosable_by disk past) 0 (length (tasks past))
      (λ k from to. one k) where
        one : (k : ℕ) → choosable_by disk (called call blocks ∷ past) k ≡ choosable_by disk past k
        one k = elim (cases_Bool (call.task == k)) [
          | inl own ↦ rw (kept, own, gives (segments past k)) refl
          | inr other ↦ rw (kept, other) refl
        ]

  want_grows : (first count : ℕ) → call.action ≡ Want first count → Grows
  want_grows first count is =
      let cuts = cutting disk (terms_of past call.task).block first count in
      omega (
        arith,
        grown (next_blocks past call.task cuts) (ap (blocks_by disk past call.task) is),
        still (next_blocks past call.task cuts) (ap (λ a. opened_by a (tasks past)) is) (λ before. ap (λ a. segment_by a before) is),
        cuts_count call.task (terms_of past call.task).weight (length (blocks_of past call.task)) cuts,
        ap (blocks_in disk (allowed.terms_of (calls_of past) call.task).block) is,
        ap (λ b. length (cutting disk b first count)) block_there,
      )

  -- a new task has nothing to choose
  open_grows : (kind : Kind) (weight block : ℕ) → call.action ≡ Open kind weight block → call.task ≡ length (tasks past)
      → ((task : ℕ) → length (tasks past) ≤ task → IsUntouched (view past task)) → Grows
  open_grows kind weight block is next unopened =
      let new = called call [] ∷ past in
      let count = length (tasks past) in
      let longer : length (tasks new) ≡ count + 1 =
      rw is (length-append (tasks past) (record { kind = kind; weight = weight; block = block } ∷ [])) in
      let split = ap (λ n. sum_by (choosable_by disk new) (range_with_len 0 n)) longer in
      let last = ap (sum_by (choosable_by disk new)) (range_next count) in
      let parts = sum_by-append (choosable_by disk new) (range_with_len 0 count) (count ∷ []) in
      let one = sum_by-cons (choosable_by disk new) count [] in
      let nothing : choosable_by disk new count ≡ 0 =
      rw (opened-view past call kind weight block is next count next, (unopened count (omega arith)).segments) refl in
      let old = sum_range (choosable_by disk new) (choosable_by disk past) 0 count (λ k from to. choosable-same disk past new k
      (opened-silent past call kind weight block is next k (ne_eqb call.task k (λ e. absurd (omega arith))))) in
      omega (arith, grown [] (ap (blocks_by disk past call.task) is), split, last, parts, one, nothing, old)

  -- a segment can be chosen
  segment_grows : (first blocks age : ℕ) (live : List Bool) → call.action ≡ Segment first blocks age live → call.task < length (tasks past)
      → Grows
  segment_grows first blocks age live is opened =
      let new = called call [] ∷ past in
      let kept : tasks new ≡ tasks past = ap (λ a. opened_by a (tasks past)) is in
      let numbers = ap (λ ts. sum_by (choosable_by disk new) (range_with_len 0 (length ts))) kept in
      let sums = sum_changed (choosable_by disk new) (choosable_by disk past) 0 (length (tasks past)) call.task 0
      (length (live_cuts disk (view past call.task).terms.block first live)) (omega arith) (omega arith)
      (λ j differ. choosable-same disk past new j (called-silent past call kept j (ne_eqb call.task j differ))) (more kept) in
      omega (
        arith,
        grown [] (ap (blocks_by disk past call.task) is),
        numbers,
        sums,
        ap (blocks_in disk (allowed.terms_of (calls_of past) call.task).block) is,
        ap (λ t. length (live_cuts disk t.block first live)) (terms_there past call.task),
      ) where
        at_most : (f : LogSegment → ℕ) (p : LogSegment → Bool) (s : LogSegment) → sum_by f (filter p (s ∷ [])) ≤ f s
        at_most f p s = grind (arith, sum_by-cons f s [])

        more : tasks (called call [] ∷ past) ≡ tasks past → 0 + choosable_by disk (called call [] ∷ past) call.task
            ≤ length (live_cuts disk (view past call.task).terms.block first live) + choosable_by disk past call.task
        more kept =
            let cuts = λ (s : LogSegment). length (live_cuts disk (view past call.task).terms.block s.first s.live) in
            let p = λ (s : LogSegment). not (is_chosen (view past call.task).choices s) in
            let added = next_segment (view past call.task) first blocks age live in
            let sum : choosable_by disk (called call [] ∷ past) call.task ≡ sum_by cuts (filter p
            ((view past call.task).segments ++ added ∷ [])) = rw (added-view past call kept call.task first blocks age live refl is) refl in
            omega (
              arith,
              sum,
              ap (sum_by cuts) (filter-append p (view past call.task).segments (added ∷ [])),
              sum_by-append cuts (filter p (view past call.task).segments) (filter p (added ∷ [])),
              at_most cuts p added,
            )

  -- a call that keeps the rules
  by_action : (action : Action) → call.action ≡ action → MayAsk disk (calls_of past) call.task action
      → ((task : ℕ) → length (tasks past) ≤ task → IsUntouched (view past task)) → Grows
  by_action (Open kind weight block) is asks unopened =
      open_grows kind weight block is (omega (arith, asks.0, ap length (opened_same past))) unopened
  by_action (Want first count) is asks unopened = want_grows first count is
  by_action (Segment first blocks age live) is asks unopened = segment_grows first blocks age live is (open_there past call.task asks.0).0
  by_action _ is asks unopened =
      let kept = still [] (ap (λ a. opened_by a (tasks past)) is) (λ before. ap (λ a. segment_by a before) is) in
      omega (arith, grown [] (ap (blocks_by disk past call.task) is), kept)

  -- what it registers alone
  pub call_registers : length (blocks_by disk past call.task call.action)
      ≤ blocks_in disk (allowed.terms_of (calls_of past) call.task).block call.action
  call_registers = registers call.action where
    registers : (action : Action)
        → length (blocks_by disk past call.task action) ≤ blocks_in disk (allowed.terms_of (calls_of past) call.task).block action
    registers (Want first count) =
        let cuts = cutting disk (terms_of past call.task).block first count in
        omega (
          arith,
          cuts_count call.task (terms_of past call.task).weight (length (blocks_of past call.task)) cuts,
          ap (λ b. length (cutting disk b first count)) block_there,
        )
    registers _ = omega arith

-- how many calls have taken effect
pub count-is : (disk : Shape) (calls : List Call) (past : Past) (next : ℕ) → IsCalled disk calls past next → length (calls_of past) ≡ next
count-is disk calls past next h = omega (arith, ap length h.taken, length-take next calls, h.within)

-- the next call
module _ (disk : Shape) (calls : List Call) (rules : AreAllowed disk [] calls) (few_calls : length calls < 2 ^ 32) (past : Past) (next : ℕ)
    (h : IsCalled disk calls past next) (call : Call) (at : slice_get calls next ≡ Some call) where
  within_next : next < length calls
  within_next = slice_get_within calls next call at

  pub left-is : drop next calls ≡ call ∷ drop (next + 1) calls
  left-is = drop_more calls next call within_next ∙ ap (λ c. c ∷ drop (next + 1) calls) (get_or_from_slice_get calls next call call at)

  front_is : take (next + 1) calls ≡ take next calls ++ call ∷ []
  front_is = take_more calls next call within_next ∙ ap (λ c. take next calls ++ c ∷ []) (get_or_from_slice_get calls next call call at)

  may_ask : MayAsk disk (calls_of past) call.task call.action
  may_ask = subst (λ before. MayAsk disk before call.task call.action) (sym h.taken) (asks_at [] calls next at rules) where
    asks_at : (before rest : List Call) (n : ℕ) → slice_get rest n ≡ Some call → AreAllowed disk before rest
        → MayAsk disk (before ++ take n rest) call.task call.action
    asks_at before [] n there may = absurd (grind arith)
    asks_at before (c ∷ cs) zero there may =
        let e : c ≡ call = grind arith in
        subst (λ front. MayAsk disk front call.task call.action) (sym (append-nil before))
        (subst (λ c. MayAsk disk before c.task c.action) e may.1)
    asks_at before (c ∷ cs) (suc n) there may = subst (λ front. MayAsk disk front call.task call.action) (append_assoc before (c ∷ [])
        (take n cs)) (asks_at (before ++ c ∷ []) cs n there may.2)

  -- what is left to register, with the call's own part
  left_split : blocks_from disk (take next calls) (drop next calls) ≡ blocks_in disk
      (allowed.terms_of (calls_of past) call.task).block call.action + blocks_from disk (take (next + 1) calls) (drop (next + 1) calls)
  left_split = rw (left-is, h.taken, front_is) refl

  pub may-take : (sessions : List Session) (held : List Entry) → Tells disk past sessions held → MayTake disk past sessions held call
  may-take sessions held tells = record {
    tells = tells;
    asks = may_ask;
    few = omega (arith, call_registers disk past call, left_split, h.few);
    few_calls = omega (arith, count-is disk calls past next h, within_next, few_calls);
  }

  pub called-more : (sessions : List Session) (held : List Entry) → Tells disk past sessions held
      → IsCalled disk calls (take_call disk past call) (next + 1)
  called-more sessions held tells = record {
    within = omega (arith, within_next);
    taken = ap (λ cs. cs ++ call ∷ []) h.taken ∙ sym front_is;
    few = omega (arith, by_action disk past call call.action refl may_ask tells.unopened, left_split, h.few);
  }

-- events that are no calls
module _ (disk : Shape) (calls : List Call) (past : Past) (next : ℕ) (h : IsCalled disk calls past next) where
  pub called-tested : (rows : List BackRow) → IsCalled disk calls (tested rows ∷ past) next
  unfolding view
  called-tested rows = record { within = h.within; taken = h.taken; few = h.few }

  pub called-finished : (request : Request) → IsCalled disk calls (finished request ∷ past) next
  unfolding view
  called-finished request = record { within = h.within; taken = h.taken; few = h.few }

  pub called-chosen : (sessions : List Session) (held : List Entry) → Tells disk past sessions held
      → IsCalled disk calls (with_choices disk past) next
  called-chosen sessions held tells = record {
    within = h.within;
    taken = by_all (λ p. calls_of p ≡ calls_of past) disk (λ p task segment blocks same. same) past refl ∙ h.taken;
    few = omega (arith, choices_less disk past (λ task. (tells.placed task).segments), h.few);
  }

-- a delivery and its test
pub called-delivered : (disk : Shape) (calls : List Call) (past : Past) (next : ℕ) (got : DeliveryRow) → IsCalled disk calls past next
    → IsCalled disk calls (with_delivery past (delivery_of past got)) next
unfolding view
called-delivered disk calls past next got h = record { within = h.within; taken = h.taken; few = h.few }
