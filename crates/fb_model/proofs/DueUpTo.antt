-- What is due lies within its decision, and is the same where the disk holds the same; of a dwell that is under way, what ends by then.
use Rattle.fb_model.proofs.Words.{◌≡◌, ℕ, ◌<◌, ◌≤◌, List, [], ◌∷◌, ◌++◌, map, refl, ap, ap₂, sym, ◌∙◌, arith, Bool, true, false, inl, inr}
use Rattle.fb_model.proofs.Words.{nat_le, filter, ◌&&◌, not, if◌then◌else◌, AllByRecursion, and-true, cases_Bool, nat_tests, all_filter}
use Rattle.fb_model.proofs.Words.{Track, same_track, by_is, all_any, all_map, all_pass, all_with, kept_map, Disk, begin_from, runs_of}
use Rattle.fb_model.proofs.Words.{bad_of, Block, Catch, Dwell, How, Plan, Direct, Detour, DeliveryRow, Served, media, finish, ContentsAt}
use Rattle.fb_model.proofs.Words.{IsPlan, block_begin, block_end, catches, early_dwell, late_dwell, Decision, serves, idles, ends}
use Rattle.fb_model.proofs.Words.{instant_of, end_of, Act, serving, idling, ending, decision_of, gap_of, due, delivery_row, in_order}
use Rattle.fb_model.proofs.Words.{catch_of, caught_of, caught_rows, missed, ride_of, carried_of, HasPlan}
use Rattle.fb_units.proofs.Alike.{map_same}
use Rattle.fb_rows.specs.declared.gap.How.TheVariants.{Gap as ByGap, Idle as ByIdle, Ride as ByRide}
use Rattle.fb_model.proofs.Placing.{AreRising, all_caught, all_carried, ends_by, kept_in_order, rising_in_order}
use Rattle.fb_model.proofs.Due.{IsCaughtIn, IsDueRow}
use Rattle.fb_model.proofs.Passages.{IsServiceOf, block_passes, media_by}
use Rattle.fb_model.proofs.DecisionsUpTo.{IsMade}
use Rattle.fb_model.proofs.HistoriesUpTo.{HasSector}
use Rattle.fb_model.proofs.RowsUpTo.{ends_by_then, RisingEnds}

-- ---- within the decision

pub begins_later : (disk : Disk) (block : Block) (t : ℕ) → t ≤ block_begin disk.map block t
unfolding begin_from
begins_later disk block t = omega arith

pub ends_behind : (disk : Disk) (block : Block) (t : ℕ) → block_begin disk.map block t ≤ block_end disk.map block t
ends_behind disk block t = omega arith

pub ends_in_time : (disk : Disk) (dwell : Dwell) (block : Block) → catches disk dwell block ≡ true
    → block_end disk.map block dwell.begin ≤ dwell.end
ends_in_time disk dwell block is_caught = grind (arith, nat_tests)

-- a delivery from one instant to another
pub record LiesBetween (from to : ℕ) (row : DeliveryRow) : Type 0 where
  pub begins : from ≤ row.begin
  pub in_turn : row.begin ≤ row.end
  pub ends : row.end ≤ to

dwell_plan : (disk : Disk) (served : Served) (plan : Plan) → IsPlan disk (gap_of disk served) plan
    → (served.start ≤ (early_dwell disk (gap_of disk served) plan).begin)
    × ((early_dwell disk (gap_of disk served) plan).end ≤ media served) × (served.start ≤ (late_dwell disk (gap_of disk served) plan).begin)
dwell_plan disk served (Direct leave) is = let now = is.0 in let in_time = is.1 in (omega arith, omega arith, omega arith)
dwell_plan disk served (Detour track leave) is = let after = is.after_arrival in let in_time = is.in_time in
    (omega arith, omega arith, omega arith)

late_end : (disk : Disk) (served : Served) (plan : Plan) → (late_dwell disk (gap_of disk served) plan).end ≡ media served
late_end disk served (Direct leave) = refl
late_end disk served (Detour track leave) = refl

caught_between : (disk : Disk) (contents : ContentsAt) (how : How) (dwell : Dwell) (Q : Block → Type 0) (from to : ℕ) (row : DeliveryRow)
    → from ≤ dwell.begin → dwell.end ≤ to → IsCaughtIn disk contents how dwell Q row → LiesBetween from to row
caught_between disk contents how dwell Q from to row after before is =
    let begin = is.begin in
    let end = is.end in
    let later = begins_later disk row.block dwell.begin in
    let behind = ends_behind disk row.block dwell.begin in
    let in_time = ends_in_time disk dwell row.block is.caught in
    record {
      begins = omega (arith, begin, later, after);
      in_turn = omega (arith, begin, end, behind);
      ends = omega (arith, end, in_time, before);
    }

-- the deliveries of a decision are over by then; those of a write are over with its gap
abbrev pub DeliversBy : ℕ → Decision → Type 0
DeliversBy to (serves served) = (media served ≤ to) × (served.request.write ≡ false → finish served ≤ to)
DeliversBy to (idles dwell) = dwell.end ≤ to
DeliversBy to (ends now) = Unit {0}

pub delivers_by : (disk : Disk) (decision : Decision) (to : ℕ) → IsMade disk decision → end_of decision ≤ to → DeliversBy to decision
delivers_by disk (serves served) to made over = (omega (arith, media_by disk served made, over), λ reads. over)
delivers_by disk (idles dwell) to made over = over
delivers_by disk (ends now) to made over = tt

pub due_between : (disk : Disk) (contents : ContentsAt) (act : Act) (Q : Block → Type 0) (to : ℕ)
    → IsMade disk (decision_of act) → HasPlan disk act → DeliversBy to (decision_of act) → (row : DeliveryRow)
    → HasSector row.block → IsDueRow disk contents act Q row → LiesBetween (instant_of (decision_of act)) to row
due_between disk contents (serving served plan) Q to made is over row some due_row =
    let first = early_dwell disk (gap_of disk served) plan in
    let last = late_dwell disk (gap_of disk served) plan in
    let dwell = dwell_plan disk served plan is in
    let media = over.0 in
    let by_last : last.end ≤ to = omega (arith, late_end disk served plan, media) in
    elim due_row [
      | inl early ↦ caught_between disk contents ByGap first Q served.start to row dwell.0 (omega (arith, dwell.1, media)) early
      | inr others ↦ elim others [
        | inl late ↦ caught_between disk contents ByGap last Q served.start to row dwell.2 by_last late
        | inr ride ↦
            let passes = block_passes disk served row.block made some ride.inside in
            let finishes = over.1 ride.read in
            record {
              begins = omega (arith, passes.0, ride.begin);
              in_turn = omega (arith, passes.1, ride.begin, ride.end);
              ends = omega (arith, passes.2, ride.end, finishes);
            }
      ]
    ]
due_between disk contents (idling dwell) Q to made is over row some due_row =
    caught_between disk contents ByIdle dwell Q dwell.begin to row (omega arith) over due_row
due_between disk contents (ending now) Q to made is over row some due_row = absurd due_row

-- ---- the same where sectors hold the same

-- they do between two instants
abbrev pub AgreeBetween : ℕ → ℕ → ContentsAt → ContentsAt → Type 0
AgreeBetween from to x y = (lbn n t : ℕ) → from ≤ t → t ≤ to → x lbn n t ≡ y lbn n t

module _ (disk : Disk) (x y : ContentsAt) (from to : ℕ) (same : AgreeBetween from to x y) where
  pub same_delivery : (how : How) (catch : Catch) → from ≤ catch.begin → catch.begin ≤ to
      → delivery_row x how catch ≡ delivery_row y how catch
  same_delivery how catch after before =
      ap (λ sectors. let runs = runs_of sectors in record {
        block = catch.block;
        begin = catch.begin;
        end = catch.end;
        how = how;
        bad = bad_of runs;
        content = runs;
      }) (same catch.block.lbn catch.block.count catch.begin after before)

  same_caught : (how : How) (dwell : Dwell) (blocks : List Block) → from ≤ dwell.begin → dwell.end ≤ to
      → caught_rows disk x how dwell blocks ≡ caught_rows disk y how dwell blocks
  same_caught how dwell blocks after before = map_same (delivery_row x how) (delivery_row y how) (caught_of disk dwell blocks)
      (all_caught disk dwell (λ catch. delivery_row x how catch ≡ delivery_row y how catch) (λ block. Unit {0}) (λ block any is.
      let later = begins_later disk block dwell.begin in
      same_delivery how (catch_of disk dwell block) (omega (arith, later, after))
      (omega (arith, ends_in_time disk dwell block is, ends_behind disk block dwell.begin, before))) blocks
      (all_any _ (λ block. tt) blocks))

  same_ride : (served : Served) (blocks : List Block) → IsServiceOf disk served → from ≤ served.start
      → finish served ≤ to → AllByRecursion HasSector blocks
      → map (delivery_row x ByRide) (carried_of served.passages served.request blocks)
      ≡ map (delivery_row y ByRide) (carried_of served.passages served.request blocks)
  same_ride served blocks made after before some =
      map_same (delivery_row x ByRide) (delivery_row y ByRide) (carried_of served.passages served.request blocks)
      (all_carried served.passages served.request (λ catch. delivery_row x ByRide catch ≡ delivery_row y ByRide catch) HasSector
      (λ block one lies.
      let passes = block_passes disk served block made one lies in
      same_delivery ByRide (ride_of served.passages block) (omega (arith, after, passes.0)) (omega (arith, passes.1, passes.2, before)))
      blocks some)

  pub same_due : (act : Act) (wanted : List Block) → IsMade disk (decision_of act)
      → HasPlan disk act → from ≤ instant_of (decision_of act) → DeliversBy to (decision_of act)
      → AllByRecursion HasSector wanted
      → due disk x act wanted ≡ due disk y act wanted
  unfolding due
  same_due (serving served plan) wanted made is after over some =
      let early = early_dwell disk (gap_of disk served) plan in
      let late = late_dwell disk (gap_of disk served) plan in
      let left = missed disk early wanted in
      let last = missed disk late left in
      let dwell = dwell_plan disk served plan is in
      let some_left = all_filter HasSector (λ block. not (catches disk early block)) wanted some in
      let some_last = all_filter HasSector (λ block. not (catches disk late block)) left some_left in
      ap₂ (λ before rest. before ++ rest)
      (ap₂ (λ before rest. before ++ rest)
      (same_caught ByGap early wanted (omega (arith, after, dwell.0)) (omega (arith, dwell.1, over.0)))
      (same_caught ByGap late left (omega (arith, after, dwell.2)) (omega (arith, late_end disk served plan, over.0))))
      (if_reads served.request.write (λ reads. same_ride served last made after (over.1 reads) some_last))
    where
      if_reads : (write : Bool) {rows others : List DeliveryRow} → (write ≡ false → rows ≡ others)
          → (if write then [] else rows) ≡ (if write then [] else others)
      if_reads true h = refl
      if_reads false h = h refl
  same_due (idling dwell) wanted made is after over some = same_caught ByIdle dwell wanted after over
  same_due (ending now) wanted made is after over some = refl

-- ---- in the order of their ends

rows_rise : (contents : ContentsAt) (how : How) (found : List Catch) → AreRising found → RisingEnds (map (delivery_row contents how) found)
rows_rise contents how [] rising = tt
rows_rise contents how (catch ∷ found) rising = (
  all_map (λ (later : DeliveryRow). catch.end ≤ later.end) (delivery_row contents how) found rising.0,
  rows_rise contents how found rising.1,
)

pub rising_caught : (disk : Disk) (contents : ContentsAt) (how : How) (dwell : Dwell) (blocks : List Block)
    → RisingEnds (caught_rows disk contents how dwell blocks)
unfolding caught_of
rising_caught disk contents how dwell blocks = rows_rise contents how (caught_of disk dwell blocks)
    (rising_in_order (map (catch_of disk dwell) (filter (catches disk dwell) blocks)))

-- ---- of a dwell that is under way

module _ (disk : Disk) (a b : ContentsAt) (t done : ℕ) (since : t ≤ done) (same : AgreeBetween 0 done a b)
    (how : How) (head : Track) (now until_a until_b : ℕ) (late_a : t < until_a) (late_b : t < until_b) where
  abbrev dwell_until : ℕ → Dwell
  dwell_until until = record { track = head; begin = now; end = until }

  -- a stay that isn't over catches all that passes whole on its track
  caught_by_then : (until : ℕ) (block : Block) → t < until → block_end disk.map block now ≤ t
      → catches disk (dwell_until until) block ≡ same_track head block.track
  caught_by_then until block late by =
      let in_time : nat_le (block_end disk.map block now) until ≡ true = by_is (block_end disk.map block now) until (omega arith) in
      ap (λ b. same_track head block.track && b) in_time ∙ and-true (same_track head block.track)

  -- by an instant both stays have caught the same
  same_catches : (blocks : List Block)
      → filter (ends_by t) (map (catch_of disk (dwell_until until_a)) (filter (catches disk (dwell_until until_a)) blocks))
      ≡ filter (ends_by t) (map (catch_of disk (dwell_until until_b)) (filter (catches disk (dwell_until until_b)) blocks))
  same_catches [] = refl
  same_catches (block ∷ blocks) = elim (cases_Bool (nat_le (block_end disk.map block now) t)) [
    | inl by ↦
        let in_time : block_end disk.map block now ≤ t = grind (arith, nat_tests) in
        rw (caught_by_then until_a block late_a in_time, caught_by_then until_b block late_b in_time)
        (elim (cases_Bool (same_track head block.track)) [
          | inl on ↦ rw (on, by) (ap (λ found. catch_of disk (dwell_until until_a) block ∷ found) (same_catches blocks))
          | inr off ↦ rw off (same_catches blocks)
        ])
    | inr late ↦ dropped until_a block blocks late ∙ (same_catches blocks ∙ sym (dropped until_b block blocks late))
  ]
    where
      dropped : (until : ℕ) (block : Block) (blocks : List Block) → nat_le (block_end disk.map block now) t ≡ false
          → filter (ends_by t) (map (catch_of disk (dwell_until until)) (filter (catches disk (dwell_until until)) (block ∷ blocks)))
          ≡ filter (ends_by t) (map (catch_of disk (dwell_until until)) (filter (catches disk (dwell_until until)) blocks))
      dropped until block blocks late = elim (cases_Bool (catches disk (dwell_until until) block)) [
        | inl is ↦ rw (is, late) refl
        | inr not ↦ rw not refl
      ]

  pub same_by_then : (blocks : List Block)
      → filter (ends_by_then t) (caught_rows disk a how (dwell_until until_a) blocks)
      ≡ filter (ends_by_then t) (caught_rows disk b how (dwell_until until_b) blocks)
  unfolding caught_of
  same_by_then blocks =
      let found_a = map (catch_of disk (dwell_until until_a)) (filter (catches disk (dwell_until until_a)) blocks) in
      let found_b = map (catch_of disk (dwell_until until_b)) (filter (catches disk (dwell_until until_b)) blocks) in
      let both : filter (ends_by t) (in_order found_a) ≡ filter (ends_by t) (in_order found_b) =
      kept_in_order t found_a ∙ (ap in_order (same_catches blocks) ∙ sym (kept_in_order t found_b)) in
      kept_map (ends_by_then t) (delivery_row a how) (in_order found_a)
      ∙ (map_same (delivery_row a how) (delivery_row b how) (filter (ends_by t) (in_order found_a))
      (all_with (λ catch. catch.begin ≤ catch.end) (λ catch. ends_by t catch ≡ true)
      (λ catch. delivery_row a how catch ≡ delivery_row b how catch)
      (λ catch turn by. let in_time : catch.end ≤ t = grind (arith, nat_tests) in
      same_delivery disk a b 0 done same how catch (omega arith) (omega (arith, in_time, turn, since)))
      (filter (ends_by t) (in_order found_a))
      (all_filter (λ (catch : Catch). catch.begin ≤ catch.end) (ends_by t) (in_order found_a)
      (all_caught disk (dwell_until until_a) (λ catch. catch.begin ≤ catch.end) (λ block. Unit {0})
      (λ block any is. ends_behind disk block now) blocks (all_any _ (λ block. tt) blocks)))
      (all_pass (ends_by t) (in_order found_a)))
      ∙ (ap (map (delivery_row b how)) both ∙ sym (kept_map (ends_by_then t) (delivery_row b how) (in_order found_b))))
