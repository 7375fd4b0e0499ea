-- Decisions follow one another, and so do the deliveries of each.
use Rattle.fb_mirror.proofs.Words.{◌≡◌, ℕ, zero, suc, ◌+◌, ◌-◌, ◌<◌, ◌≤◌, max, List, [], ◌∷◌, ◌++◌, map, Bool, true, false, sym, subst}
use Rattle.fb_mirror.proofs.Words.{arith, inl, inr, nat_le, filter, nat_lt, not, ◌==◌, if◌then◌else◌, AllByRecursion, fold, cases_Bool}
use Rattle.fb_mirror.proofs.Words.{nat_tests, all_weaker, all_append, all_filter, Track, all_both, Disk, Passage, media_of, passages}
use Rattle.fb_mirror.proofs.Words.{Block, DeliveryRow, Served, finish, last_track, media, contents_at, Medium, Decision, serves, Act}
use Rattle.fb_mirror.proofs.Words.{decision_of, decisions_from, end_of, idle_until, instant_of, last_decision, HasPlan, IsServiceOf}
use Rattle.fb_mirror.proofs.Words.{passed_between, begun_after, HasSector}
use Rattle.fb_sectormap.specs.LookUp.{track_at}
use Rattle.fb_seek.specs.Positioning.{pos}
use Rattle.fb_service.specs.Service.{passage_from}
use Rattle.fb_rows.specs.declared.gap.Catch.{Catch}
use Rattle.fb_rows.specs.declared.gap.Dwell.{Dwell}
use Rattle.fb_rows.specs.declared.gap.How.{How}
use Rattle.fb_rows.specs.declared.gap.How.TheVariants.{Gap as ByGap, Ride as ByRide}
use Rattle.fb_rows.specs.declared.gap.Plan.{Plan}
use Rattle.fb_rows.specs.declared.gap.Plan.TheVariants.{Direct, Detour}
use Rattle.fb_model.specs.Plans.{IsPlan, catches, early_dwell, late_dwell}
use Rattle.fb_model.specs.Decisions.{serving, idling, ending}
use Rattle.fb_model.specs.Deliveries.{catch_of, caught_of, caught_rows, carried_of, delivery_row, due, end_at, gap_of, lies_in, missed}
use Rattle.fb_model.specs.Deliveries.{ride_of, carried_rows}
use Rattle.fb_model.proofs.Placing.{AreRising, all_caught, all_carried, rising_in_order}
use Rattle.fb_model.proofs.Due.{IsCaughtIn, caught_true}
use Rattle.fb_model.proofs.DueUpTo.{begins_later, ends_behind, ends_in_time}
use Rattle.fb_mirror.proofs.Between.{IsOfDisk, kept_by, quiet_until}
use Rattle.fb_mirror.proofs.RunRows.{AreLinked}
use Rattle.fb_mirror.proofs.Writing.{AreServed, free_within}

-- ---- decisions

-- each begins when the one before it has ended, and is over by its end
abbrev pub AreInTurn : ℕ → List Decision → Type 0
AreInTurn now [] = Unit {0}
AreInTurn now (decision ∷ decisions) = (now ≤ instant_of decision) × (instant_of decision ≤ quiet_until decision)
    × (quiet_until decision ≤ end_of decision) × AreInTurn (end_of decision) decisions

idle_in_turn : (head : Track) (now : ℕ) (instants : List ℕ) (decisions : List Decision) → AreInTurn (fold max now instants) decisions
    → AreInTurn now (idle_until head now instants ++ decisions)
idle_in_turn head now [] decisions turns = turns
idle_in_turn head now (x ∷ instants) decisions turns = elim (cases_Bool (nat_lt now x)) [
  | inl before ↦
      let less : now < x = grind (arith, nat_tests) in
      let on : max now x ≡ x = omega arith in
      rw before (
        omega arith,
        omega arith,
        omega arith,
        idle_in_turn head x instants decisions (subst (λ at. AreInTurn (fold max at instants) decisions) on turns),
      )
  | inr passed ↦
      let more : x ≤ now = grind (arith, nat_tests) in
      let on : max now x ≡ now = omega arith in
      rw passed (idle_in_turn head now instants decisions (subst (λ at. AreInTurn (fold max at instants) decisions) on turns))
]

last_in_turn : (head : Track) (now last until : ℕ) → now ≤ last → AreInTurn now (last_decision head last until ∷ [])
last_in_turn head now last until from = elim (cases_Bool (nat_lt last until)) [
  | inl before ↦ let less : last < until = grind (arith, nat_tests) in rw before (from, omega arith, omega arith, tt)
  | inr passed ↦ rw passed (from, omega arith, omega arith, tt)
]

greatest_by : (now bound : ℕ) (instants : List ℕ) → now ≤ bound → AllByRecursion (λ x. x ≤ bound) instants → fold max now instants ≤ bound
greatest_by now bound [] by all = by
greatest_by now bound (x ∷ instants) by all = greatest_by (max now x) bound instants (let here = all.0 in omega arith) all.1

pub decisions_in_turn : (disk : Disk) (instants : List ℕ) (until : ℕ) (head : Track) (now : ℕ) (replay : List Served)
    → AreServed disk now replay → AreInTurn now (decisions_from disk instants until head now replay)
unfolding decisions_from
decisions_in_turn disk instants until head now [] are = idle_in_turn head now instants (last_decision head (fold max now instants) until
    ∷ []) (last_in_turn head (fold max now instants) (fold max now instants) until (omega arith))
decisions_in_turn disk instants until head now (served ∷ later) are =
    let front = filter (λ instant. nat_le instant served.start) instants in
    let within = free_within disk served are.1 are.2 in
    idle_in_turn head now front (serves served ∷ decisions_from disk instants until (last_track disk served) (finish served) later) (
      greatest_by now served.start front are.0 (kept_by served.start instants),
      within.0,
      within.1,
      decisions_in_turn disk instants until (last_track disk served) (finish served) later are.3,
    )

-- ---- deliveries

-- none ends before the one before it
abbrev pub NoEarlier : ℕ → ℕ → Type 0
NoEarlier now end = now ≤ end

abbrev Ascend : ℕ → List DeliveryRow → Type 0
Ascend now rows = AreLinked NoEarlier now rows

abbrev EndBy : ℕ → List DeliveryRow → Type 0
EndBy bound rows = AllByRecursion (λ (row : DeliveryRow). row.end ≤ bound) rows

ascend_from : (a b : ℕ) (rows : List DeliveryRow) → a ≤ b → Ascend b rows → Ascend a rows
ascend_from a b [] less up = tt
ascend_from a b (row ∷ rows) less up = (omega (arith, less, up.0), up.1)

ascend_append : (a b : ℕ) (xs ys : List DeliveryRow) → Ascend a xs → EndBy b xs → a ≤ b → Ascend b ys → Ascend a (xs ++ ys)
ascend_append a b [] ys up by order next = ascend_from a b ys order next
ascend_append a b (x ∷ xs) ys up by order next = (up.0, ascend_append x.end b xs ys up.1 by.1 by.0 next)

-- rows of catches in the order of delivery
rows_ascend : (medium : Medium) (how : How) (a : ℕ) (found : List Catch) → AllByRecursion (λ (catch : Catch). a ≤ catch.end) found
    → AreRising found → Ascend a (map (delivery_row (contents_at medium) how) found)
rows_ascend medium how a [] from rising = tt
rows_ascend medium how a (catch ∷ found) from rising = (from.0, rows_ascend medium how catch.end found rising.0 rising.1)

caught_ascend : (medium : Medium) (how : How) (dwell : Dwell) (blocks : List Block) → AllByRecursion HasSector blocks
    → Ascend dwell.begin (caught_rows medium.disk (contents_at medium) how dwell blocks)
unfolding caught_of
caught_ascend medium how dwell blocks all = rows_ascend medium how dwell.begin (caught_of medium.disk dwell blocks)
    (all_caught medium.disk dwell (λ (catch : Catch). dwell.begin ≤ catch.end) HasSector
    (λ block some is. omega (arith, begins_later medium.disk block dwell.begin, ends_behind medium.disk block dwell.begin)) blocks all)
    (rising_in_order (map (catch_of medium.disk dwell) (filter (catches medium.disk dwell) blocks)))

caught_by : (medium : Medium) (how : How) (dwell : Dwell) (blocks : List Block) → AllByRecursion HasSector blocks
    → EndBy dwell.end (caught_rows medium.disk (contents_at medium) how dwell blocks)
caught_by medium how dwell blocks all =
    all_weaker (IsCaughtIn medium.disk (contents_at medium) how dwell HasSector) (λ (row : DeliveryRow). row.end ≤ dwell.end)
    (λ row is. let end = is.end in let in_time = ends_in_time medium.disk dwell row.block is.caught in omega (arith, end, in_time))
    (caught_rows medium.disk (contents_at medium) how dwell blocks)
    (caught_true medium.disk (contents_at medium) how dwell HasSector blocks all)

-- no sector of a service has passed before the service's media
sector_end : (disk : Disk) (source : Track) (now : ℕ) (write : Bool) (lbn n m x : ℕ)
    → lbn ≤ x → x < lbn + n → AllByRecursion (λ (p : Passage). m ≤ p.end) (passages disk source now write lbn n)
    → m ≤ end_at (passages disk source now write lbn n) x
unfolding passages
sector_end disk source now write lbn zero m x from to all = absurd (omega arith)
sector_end disk source now write lbn (suc n) m x from to all = elim (cases_Bool (lbn == x)) [
  | inl here ↦ rw here (all.0)
  | inr behind ↦ rw behind (sector_end disk (track_at disk.map lbn) (passage_from disk.map lbn (now
      + pos disk.mechanism source (track_at disk.map lbn) write)).end write (lbn + 1) n m x (grind (arith, nat_tests)) (omega arith) all.1)
]

ride_end : (disk : Disk) (served : Served) (block : Block) → IsServiceOf disk served → HasSector block → lies_in served.request block ≡ true
    → media served ≤ end_at served.passages (block.lbn + block.count - 1)
ride_end disk served block is some lies =
    let from : served.request.lbn ≤ block.lbn = grind (arith, nat_tests) in
    let to : block.lbn + block.count ≤ served.request.lbn + served.request.count = grind (arith, nat_tests) in
    let ps = passages disk served.source served.start served.request.write served.request.lbn served.request.count in
    subst (λ (s : Served). media_of s.passages ≤ end_at s.passages (block.lbn + block.count - 1)) (sym is)
    (sector_end disk served.source served.start served.request.write served.request.lbn served.request.count (media_of ps)
    (block.lbn + block.count - 1) (omega arith) (omega arith)
    (all_weaker _ _ (λ (p : Passage) h. omega (arith, h.0, h.1.1)) ps
    (all_both _ _ ps (begun_after disk served.source served.start served.request.write served.request.lbn served.request.count)
    (passed_between disk served.source served.start served.request.write served.request.lbn served.request.count).1)))

rides_ascend : (medium : Medium) (served : Served) (blocks : List Block) → IsServiceOf medium.disk served
    → AllByRecursion HasSector blocks → Ascend (media served) (carried_rows (contents_at medium) served blocks)
unfolding carried_of
rides_ascend medium served blocks is all = by served.request.write
  where
    by : (write : Bool) → Ascend (media served) (if write
        then [] else map (delivery_row (contents_at medium) ByRide) (carried_of served.passages served.request blocks))
    by true = tt
    by false = rows_ascend medium ByRide (media served) (carried_of served.passages served.request blocks)
        (all_carried served.passages served.request (λ (catch : Catch). media served ≤ catch.end) HasSector
        (λ block some lies. ride_end medium.disk served block is some lies) blocks all)
        (rising_in_order (map (ride_of served.passages) (filter (lies_in served.request) blocks)))

-- the early dwell, then the late one
dwells_in_turn : (disk : Disk) (served : Served) (plan : Plan) → IsPlan disk (gap_of disk served) plan
    → (served.start ≤ (early_dwell disk (gap_of disk served) plan).begin)
    × ((early_dwell disk (gap_of disk served) plan).begin ≤ (early_dwell disk (gap_of disk served) plan).end)
    × ((early_dwell disk (gap_of disk served) plan).end ≤ (late_dwell disk (gap_of disk served) plan).begin)
    × ((late_dwell disk (gap_of disk served) plan).begin ≤ media served) × ((late_dwell disk (gap_of disk served) plan).end ≡ media served)
dwells_in_turn disk served (Direct leave) is = let now = is.0 in let in_time = is.1 in
    (omega arith, omega arith, omega arith, omega arith, omega arith)
dwells_in_turn disk served (Detour track leave) is = let after = is.after_arrival in let in_time = is.in_time in
    (omega arith, omega arith, omega arith, omega arith, omega arith)

-- what is due at a decision is delivered one after another
pub due_ascends : (medium : Medium) (act : Act) (wanted : List Block) → IsOfDisk medium.disk (decision_of act) → HasPlan medium.disk act
    → AllByRecursion HasSector wanted
    → Ascend (instant_of (decision_of act)) (due medium.disk (contents_at medium) act wanted)
unfolding due
due_ascends medium (serving served plan) wanted of_disk is all =
    let early = early_dwell medium.disk (gap_of medium.disk served) plan in
    let late = late_dwell medium.disk (gap_of medium.disk served) plan in
    let left = missed medium.disk early wanted in
    let last = missed medium.disk late left in
    let left_all = all_filter HasSector (λ block. not (catches medium.disk early block)) wanted all in
    let last_all = all_filter HasSector (λ block. not (catches medium.disk late block)) left left_all in
    let turns = dwells_in_turn medium.disk served plan is in
    let first_by = caught_by medium ByGap early wanted all in
    let second_by = caught_by medium ByGap late left left_all in
    let first = ascend_from served.start early.begin (caught_rows medium.disk
    (contents_at medium) ByGap early wanted) turns.0 (caught_ascend medium ByGap early wanted all) in
    let second = ascend_from early.end late.begin (caught_rows medium.disk
    (contents_at medium) ByGap late left) turns.2 (caught_ascend medium ByGap late left left_all) in
    ascend_append served.start (media served) (caught_rows medium.disk (contents_at medium) ByGap early wanted
    ++ caught_rows medium.disk (contents_at medium) ByGap late left) (carried_rows (contents_at medium) served last)
    (ascend_append served.start early.end (caught_rows medium.disk (contents_at medium) ByGap early wanted)
    (caught_rows medium.disk (contents_at medium) ByGap late left) first first_by (omega (arith, turns.0, turns.1)) second)
    (all_append (λ (row : DeliveryRow). row.end ≤ media served) (caught_rows medium.disk (contents_at medium) ByGap early wanted)
    (caught_rows medium.disk (contents_at medium) ByGap late left)
    (all_weaker _ _ (λ (row : DeliveryRow) h. omega (arith, h, turns.2, turns.3))
    (caught_rows medium.disk (contents_at medium) ByGap early wanted) first_by)
    (all_weaker _ _ (λ (row : DeliveryRow) h. omega (arith, h, turns.4))
    (caught_rows medium.disk (contents_at medium) ByGap late left) second_by))
    (omega (arith, turns.0, turns.1, turns.2, turns.3))
    (rides_ascend medium served last of_disk.0 last_all)
due_ascends medium (idling dwell) wanted of_disk is all = caught_ascend medium _ dwell wanted all
due_ascends medium (ending now) wanted of_disk is all = tt
