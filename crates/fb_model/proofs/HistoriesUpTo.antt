-- What a history holds: blocks that were cut, and deliveries that a test can look back at.
use Rattle.fb_model.proofs.Words.{◌≡◌, ℕ, zero, suc, ◌<◌, ◌≤◌, List, [], ◌∷◌, ◌++◌, length, map, refl, ap, ap₂, sym, ◌∙◌, arith, Bool, inl}
use Rattle.fb_model.proofs.Words.{inr, nat_le, filter, AllByRecursion, fold, best_of, cases_Bool, after_is, by_later, is_after, all_weaker}
use Rattle.fb_model.proofs.Words.{all_append, kept_twice, Shape, cutting, Action, Want, Call, live_cuts, DeliveryRow, Inputs, Decision}
use Rattle.fb_model.proofs.Words.{instant_of, LogSegment, Event, called, chose, tested, delivered, finished, Past, terms_of, blocks_of}
use Rattle.fb_model.proofs.Words.{registered, wanted, calls_of, is_better, next_blocks, with_choices, Delivery, Step, decision_in}
use Rattle.fb_model.proofs.Words.{blocks_by, take_call, calls_left, calls_due, chosen_past, past_after}
use Rattle.std.specs.Prelude.{drop}
use Rattle.std.proofs.lemmas.List.{drop_all}
use Rattle.fb_model.specs.Accepted.{IsRising}
pub use Rattle.fb_model.proofs.Cuts.{HasSector}
use Rattle.fb_model.proofs.Cuts.{cuts_have_sectors, live_have_sectors, blocks_have_sectors}
use Rattle.fb_model.proofs.Due.{wanted_all}
use Rattle.fb_model.proofs.Events.{by_choices, by_calls, by_step}

-- ---- what is registered has sectors

-- by a call
pub called_sectors : (disk : Shape) (past : Past) (task : ℕ) (action : Action) → AllByRecursion HasSector (blocks_by disk past task action)
called_sectors disk past task (Want first count) =
    blocks_have_sectors task (terms_of past task).weight (length (blocks_of past task))
    (cutting disk (terms_of past task).block first count) (cuts_have_sectors disk (terms_of past task).block first count)
called_sectors disk past task _ = tt

-- by the choice of a segment
pub chosen_sectors : (disk : Shape) (past : Past) (task : ℕ) (segment : LogSegment)
    → AllByRecursion HasSector (next_blocks past task (live_cuts disk (terms_of past task).block segment.first segment.live))
chosen_sectors disk past task segment =
    let block = (terms_of past task).block in
    blocks_have_sectors task (terms_of past task).weight (length (blocks_of past task)) (live_cuts disk block segment.first segment.live)
    (live_have_sectors disk block segment.first segment.live)

-- ---- what events have

-- blocks that are registered have sectors, and deliveries have a property
abbrev pub IsFine : (DeliveryRow → Type 0) → Event → Type 0
IsFine P (called call blocks) = AllByRecursion HasSector blocks
IsFine P (chose task segment blocks) = AllByRecursion HasSector blocks
IsFine P (tested rows) = Unit {0}
IsFine P (delivered row) = P row
IsFine P (finished request) = Unit {0}

abbrev pub AreFine : (DeliveryRow → Type 0) → Past → Type 0
AreFine P past = AllByRecursion (IsFine P) past

fine_weaker : (P Q : DeliveryRow → Type 0) → ((row : DeliveryRow) → P row → Q row) → (event : Event) → IsFine P event → IsFine Q event
fine_weaker P Q f (delivered row) h = f row h
fine_weaker P Q f _ h = h

pub all_fine_weaker : (P Q : DeliveryRow → Type 0) → ((row : DeliveryRow) → P row → Q row) → (past : Past) → AreFine P past → AreFine Q past
all_fine_weaker P Q f past all = all_weaker (IsFine P) (IsFine Q) (fine_weaker P Q f) past all

module _ (P : DeliveryRow → Type 0) where
  registered_fine : (past : Past) → AreFine P past → AllByRecursion HasSector (registered past)
  registered_fine [] all = tt
  registered_fine (called call blocks ∷ past) all = all_append HasSector (registered past) blocks (registered_fine past all.1) all.0
  registered_fine (chose task segment blocks ∷ past) all = all_append HasSector (registered past) blocks (registered_fine past all.1) all.0
  registered_fine (_ ∷ past) all = registered_fine past all.1

  pub wanted_fine : (past : Past) → AreFine P past → AllByRecursion HasSector (wanted past)
  wanted_fine past all = wanted_all HasSector past (registered_fine past all)

  pub chosen_fine : (inputs : Inputs) (past : Past) (decision : Decision) → AreFine P past → AreFine P (chosen_past inputs past decision)
  unfolding chosen_past
  chosen_fine inputs past decision all =
      let disk = inputs.disk.map in
      let due = calls_due inputs.calls past (instant_of decision) in
      by_choices (AreFine P) disk
      (λ past task cleans segment left are all. (chosen_sectors disk past task (best_of is_better segment left), all))
      (fold (take_call disk) past due)
      (by_calls (AreFine P) disk (λ past call all. (called_sectors disk past call.task call.action, all)) due past all)

  pub after_fine : (inputs : Inputs) (past : Past) (step : Step) → AllByRecursion (λ (d : Delivery). P d.got) step.deliveries
      → AreFine P past → AreFine P (past_after inputs past step)
  after_fine inputs past step each all =
      by_step (AreFine P) P (λ past rows all. (tt, all)) (λ past row have all. (have, all)) (λ past request all. (tt, all))
      inputs past step each (chosen_fine inputs past (decision_in step) all)

-- ---- no test looks back further than to the last delivery's beginning

abbrev pub HasBegun : ℕ → DeliveryRow → Type 0
HasBegun done row = row.begin ≤ done

-- ---- the calls and choices of a decision by t depend only on the calls by t

abbrev pub calls_by : ℕ → Call → Bool
calls_by t call = nat_le call.instant t

-- the instants of calls ascend
abbrev pub RiseInTime : List Call → Type 0
RiseInTime calls = IsRising (map (λ call. call.instant) calls)

-- none has come by then where the first of them comes later
pub none_come : (t instant : ℕ) (calls : List Call) → t < instant
    → AllByRecursion (λ later. instant ≤ later) (map (λ (call : Call). call.instant) calls)
    → filter (calls_by t) calls ≡ []
none_come t instant [] late h = refl
none_come t instant (call ∷ calls) late h = rw (after_is call.instant t (omega (arith, h.0))) (none_come t instant calls late h.1)

-- of calls in order, those that have come behind the first n are those of the rest
come_behind : (t n : ℕ) (calls : List Call) → RiseInTime calls
    → filter (calls_by t) (drop n calls) ≡ drop n (filter (calls_by t) calls)
come_behind t zero calls rising = refl
come_behind t (suc n) [] rising = refl
come_behind t (suc n) (call ∷ calls) rising = elim (cases_Bool (calls_by t call)) [
  | inl here ↦ rw here (come_behind t n calls rising.1)
  | inr late ↦
      let none = none_come t call.instant calls (is_after call.instant t late) rising.0 in
      rw late (come_behind t n calls rising.1 ∙ (ap (drop n) none ∙ (drop_all n [] (omega arith) ∙ sym (ap (drop (suc n)) none))))
]

-- of calls in order, those that have come stand first
come_first : (t : ℕ) (calls : List Call) → RiseInTime calls
    → (rest : List Call) × (calls ≡ filter (calls_by t) calls ++ rest)
come_first t [] rising = ([], refl)
come_first t (call ∷ calls) rising = elim (cases_Bool (calls_by t call)) [
  | inl here ↦ rw here (let rest = come_first t calls rising.1 in (rest.0, ap (λ calls. call ∷ calls) rest.1))
  | inr late ↦ rw (late, none_come t call.instant calls (is_after call.instant t late) rising.0) (call ∷ calls, refl)
]

rising_behind : (n : ℕ) (calls : List Call) → RiseInTime calls → RiseInTime (drop n calls)
rising_behind zero calls rising = rising
rising_behind (suc n) [] rising = tt
rising_behind (suc n) (call ∷ calls) rising = rising_behind n calls rising.1

-- the calls that are due stand first among those left
pub due_first : (calls : List Call) (past : Past) (now : ℕ) → RiseInTime calls
    → (rest : List Call) × (calls_left calls past ≡ calls_due calls past now ++ rest)
due_first calls past now rising = come_first now (calls_left calls past) (rising_behind (length (calls_of past)) calls rising)

pub same_chosen : (a b : Inputs) (t : ℕ) (past : Past) (decision other : Decision) → a.disk ≡ b.disk
    → RiseInTime a.calls → RiseInTime b.calls → filter (calls_by t) a.calls ≡ filter (calls_by t) b.calls
    → instant_of decision ≤ t
    → instant_of decision ≡ instant_of other → chosen_past a past decision ≡ chosen_past b past other
unfolding chosen_past
same_chosen a b t past decision other disk rising_a rising_b calls h at =
    let now = instant_of decision in
    let twice = λ (calls : List Call). kept_twice (calls_by now) (calls_by t) (λ call by. by_later now t call.instant h by) calls in
    let due : filter (calls_by now) a.calls ≡ filter (calls_by now) b.calls = sym (twice a.calls)
    ∙ (ap (filter (calls_by now)) calls ∙ twice b.calls) in
    let n = length (calls_of past) in
    let left = come_behind now n a.calls rising_a ∙ (ap (drop n) due ∙ sym (come_behind now n b.calls rising_b)) in
    ap₂ (λ disk due. with_choices disk.map (fold (take_call disk.map) past due)) disk left
    ∙ ap (λ now. with_choices b.disk.map (fold (take_call b.disk.map) past (calls_due b.calls past now))) at
