-- A table without faults can be looked up.
use Rattle.std.proofs.Common.{◌≡◌, ℕ, zero, suc, ◌+◌, ◌-◌, ◌*◌, ◌/◌, ◌^◌, ◌<◌, ◌≤◌, List, [], ◌∷◌, length, Bool, true, false, refl, ap, sym}
use Rattle.std.proofs.Common.{◌∙◌, arith, Option, Some, None, inl, inr, subst, add-one, ◌≢◌}
use Rattle.std.proofs.Math.Nat.{zero-div}
use Rattle.std.specs.Prelude.{nat_lt, nat_le, ◌==◌, ◌||◌}
use Rattle.std.specs.List.{slice_index_or, list_any}
use Rattle.std.proofs.lemmas.Bool.{cases_Bool, cases_lt}
use Rattle.std.proofs.lemmas.Bool.Decides.{nat_tests}
use Rattle.fb_seek.specs.declared.point.SeekPoint.{SeekPoint}
use Rattle.fb_seek.specs.declared.fault.SeekFault.{SeekFault}
use Rattle.fb_seek.specs.declared.fault.SeekFault.TheVariants.{FirstNotOne, DistanceNotRising, TimeFalls, TooShort, OutOfRange}
use Rattle.fb_seek.specs.Mechanics.{Mechanics}
use Rattle.fb_seek.specs.Faults.{first_bad, stays_near, falls, last_distance, is_bad_time, is_out_of_range, or_else, fault_at, fault_if}
use Rattle.fb_seek.specs.Faults.{fault_from, fault_among, first_fault}
use Rattle.fb_seek.specs.Table.{IsTable}
use Rattle.fb_seek.specs.Positioning.{seek_after, seek_along, seek}

-- if a search found no bad point, no point is bad after the one before it
adjacent : (is_bad : SeekPoint → SeekPoint → Bool) (index : ℕ) (before : SeekPoint) (points : List SeekPoint)
    → first_bad is_bad index before points ≡ None
    → (k : ℕ) (d : SeekPoint) → k < length points → is_bad (slice_index_or (before ∷ points) k d) (slice_index_or points k d) ≡ false
adjacent is_bad index before [] h k d l = absurd (omega arith)
adjacent is_bad index before (next ∷ points) h zero d l = elim (cases_Bool (is_bad before next)) [
  | inl bad ↦ absurd (let found : Some index ≡ None = rw bad at h in cc)
  | inr good ↦ good
]
adjacent is_bad index before (next ∷ points) h (suc k) d l = elim (cases_Bool (is_bad before next)) [
  | inl bad ↦ absurd (let found : Some index ≡ None = rw bad at h in cc)
  | inr good ↦ adjacent is_bad (index + 1) next points (rw good at h) k d (omega arith)
]

good_time : (points : List SeekPoint) → list_any is_bad_time points ≡ false → (k : ℕ) (d : SeekPoint) → k < length points
    → (slice_index_or points k d).time ≤ 10 ^ 9
good_time [] h k d l = absurd (omega arith)
good_time (point ∷ points) h zero d l = grind (arith, nat_tests)
good_time (point ∷ points) h (suc k) d l = elim (cases_Bool (is_bad_time point)) [
  | inl bad ↦ absurd (let found : true ≡ false = rw bad at h in cc)
  | inr good ↦ good_time points (rw good at h) k d (omega arith)
]

at_end : (point : SeekPoint) (points : List SeekPoint) (k : ℕ) (d : SeekPoint) → k ≡ length points
    → (slice_index_or (point ∷ points) k d).distance ≡ last_distance point points
at_end point [] zero d e = refl
at_end point [] (suc k) d e = absurd (omega arith)
at_end point (next ∷ points) zero d e = absurd (omega arith)
at_end point (next ∷ points) (suc k) d e = at_end next points k d (omega arith)

neither : (a b : Option SeekFault) → or_else a b ≡ None → (a ≡ None) × (b ≡ None)
neither None b h = (refl, h)
neither (Some f) b h = absurd cc

none_at : (fault : ℕ → SeekFault) (o : Option ℕ) → fault_at fault o ≡ None → o ≡ None
none_at fault None h = refl
none_at fault (Some i) h = absurd cc

none_if : (fault : SeekFault) (is_so : Bool) → fault_if fault is_so ≡ None → is_so ≡ false
none_if fault true h = absurd cc
none_if fault false h = refl

-- the numbers of a mechanism without a fault are in their ranges
record InRange (arm : Mechanics) : Type 0 where
  head_switch : arm.head_switch ≤ 10 ^ 9
  write_settle : arm.write_settle ≤ 10 ^ 9
  some_cylinders : 0 < arm.cylinders
  times : list_any is_bad_time arm.points ≡ false

in_range : (arm : Mechanics) → is_out_of_range arm ≡ false → InRange arm
in_range arm h = elim (cases_Bool (list_any is_bad_time arm.points)) [
  | inl bad ↦ absurd (let e : (nat_lt 4096 (length arm.points) || true || nat_lt (10 ^ 9) arm.head_switch || nat_lt
      (10 ^ 9) arm.write_settle || (arm.cylinders == 0) || nat_lt (10 ^ 6) arm.cylinders) ≡ false = rw bad at h in grind (arith, nat_tests))
  | inr good ↦ record {
    head_switch = grind (arith, nat_tests);
    write_settle = grind (arith, nat_tests);
    some_cylinders = grind (arith, nat_tests);
    times = good;
  }
]

from_first : (arm : Mechanics) (first : SeekPoint) (points : List SeekPoint) → arm.points ≡ first ∷ points
    → fault_from arm first points ≡ None → IsTable arm
unfolding fault_from
from_first arm first points e h = elim (cases_Bool (first.distance == 1)) [
  | inl one ↦
      let near = neither _ _ (rw one at h) in
      let slow = neither _ _ near.1 in
      let rest = neither _ _ slow.1 in
      let rises = adjacent stays_near 1 first points (none_at DistanceNotRising _ near.0) in
      let times = adjacent falls 1 first points (none_at TimeFalls _ slow.0) in
      let far = none_if TooShort _ rest.0 in
      let range = in_range arm (none_if OutOfRange _ rest.1) in
      record {
        some = omega (arith, ap length e);
        from_one = λ d. ap (λ (ps : List SeekPoint). (slice_index_or ps 0 d).distance) e ∙ grind (arith, nat_tests);
        rising = λ k d l. subst (λ (ps : List SeekPoint). (slice_index_or ps k d).distance < (slice_index_or ps (k + 1) d).distance) (sym e)
            (rw add-one (let rise = rises k d (omega (arith, ap length e)) in grind (arith, nat_tests)));
        slower = λ k d l. subst (λ (ps : List SeekPoint). (slice_index_or ps k d).time ≤ (slice_index_or ps (k + 1) d).time) (sym e)
            (rw add-one (let fall = times k d (omega (arith, ap length e)) in grind (arith, nat_tests)));
        short = good_time arm.points range.times;
        far = λ k d l. subst (λ (ps : List SeekPoint). arm.cylinders ≤ (slice_index_or ps k d).distance + 1) (sym e)
            (let last = at_end first points k d (omega (arith, ap length e)) in grind (arith, nat_tests));
        head_switch = range.head_switch;
        write_settle = range.write_settle;
        some_cylinders = range.some_cylinders;
      }
  | inr other ↦ absurd (let found : Some FirstNotOne ≡ None = rw other at h in cc)
]

from_points : (arm : Mechanics) (points : List SeekPoint) → arm.points ≡ points → fault_among arm points ≡ None → IsTable arm
from_points arm [] e h = absurd cc
from_points arm (first ∷ points) e h = from_first arm first points e h

pub table_of : (arm : Mechanics) → first_fault arm ≡ None → IsTable arm
table_of arm h = from_points arm arm.points refl h

-- the time of a distance between two neighbours
between : SeekPoint → SeekPoint → ℕ → ℕ
between before next distance = before.time + (distance - before.distance) * (next.time - before.time) / (next.distance - before.distance)

after_at : (before : SeekPoint) (points : List SeekPoint) (k distance : ℕ) (d : SeekPoint) → k < length points
    → ((i : ℕ) → i < k → (slice_index_or points i d).distance < distance) → distance ≤ (slice_index_or points k d).distance
    → seek_after before points distance ≡ between (slice_index_or (before ∷ points) k d) (slice_index_or points k d) distance
unfolding between
after_at before [] k distance d l passed reached = absurd (omega arith)
after_at before (next ∷ points) zero distance d l passed reached = grind (arith, nat_tests)
after_at before (next ∷ points) (suc k) distance d l passed reached =
    let first : next.distance < distance = passed 0 (omega arith) in
    let test : nat_le distance next.distance ≡ false = grind (arith, nat_tests) in
    rw test (after_at next points k distance d (omega arith) (λ i h. passed (suc i) (omega arith)) reached)

along_at : (points : List SeekPoint) (k distance : ℕ) (d : SeekPoint) → k + 1 < length points
    → ((i : ℕ) → i < k + 1 → (slice_index_or points i d).distance < distance) → distance ≤ (slice_index_or points (k + 1) d).distance
    → seek_along points distance ≡ between (slice_index_or points k d) (slice_index_or points (k + 1) d) distance
along_at [] k distance d l passed reached = absurd (omega arith)
along_at (first ∷ points) k distance d l passed reached =
    rw add-one (after_at first points k distance d (omega arith) (λ i h. passed (suc i) (omega arith)) (rw add-one at reached))

-- the time of a seek is that between the two neighbouring points around its distance
pub seek_from : (arm : Mechanics) (points : List SeekPoint) (k distance : ℕ) (d : SeekPoint) → points ≡ arm.points → distance ≢ 0 → k ≢ 0
    → k < length points
    → ((i : ℕ) (e : SeekPoint) → i < k → (slice_index_or points i e).distance < distance) → distance ≤ (slice_index_or points k d).distance
    → (slice_index_or points (k - 1) d).time
    + (distance - (slice_index_or points (k - 1) d).distance) * ((slice_index_or points k d).time - (slice_index_or points (k - 1) d).time)
    / ((slice_index_or points k d).distance - (slice_index_or points (k - 1) d).distance)
    ≡ seek arm distance
unfolding between
seek_from arm points k distance d same some later l passed reached =
    let moves : (distance == 0) ≡ false = grind (arith, nat_tests) in
    let next : k - 1 + 1 ≡ k = omega arith in
    rw moves (
    sym (along_at arm.points (k - 1) distance d
    (omega (arith, ap length same))
    (λ i h. subst (λ (ps : List SeekPoint). (slice_index_or ps i d).distance < distance) same (passed i d (omega arith)))
    (rw next (subst (λ (ps : List SeekPoint). distance ≤ (slice_index_or ps k d).distance) same reached))
    ∙ ap (λ (ps : List SeekPoint). between (slice_index_or ps (k - 1) d) (slice_index_or ps (k - 1 + 1) d) distance) (sym same)
    ∙ ap (λ n. between (slice_index_or points (k - 1) d) (slice_index_or points n d) distance) next))

no_way : (before next : SeekPoint) (distance : ℕ) → distance ≡ before.distance → between before next distance ≡ before.time
unfolding between
no_way before next distance e =
    let none : distance - before.distance ≡ 0 = omega arith in
    let nothing : (distance - before.distance) * (next.time - before.time) ≡ 0 = rw none (omega arith) in
    rw (nothing, zero-div) (omega arith)

at_first : (first : SeekPoint) (points : List SeekPoint) (distance : ℕ) → distance ≡ first.distance
    → ((d : SeekPoint) → 0 < length points → first.distance < (slice_index_or points 0 d).distance)
    → seek_after first points distance ≡ first.time
unfolding between
at_first first [] distance e rises = refl
at_first first (next ∷ points) distance e rises =
    let near : nat_le distance next.distance ≡ true = let rise = rises next (omega arith) in grind (arith, nat_tests) in
    rw near (no_way first next distance e)

along_one : (points : List SeekPoint) (distance : ℕ) (d : SeekPoint) → 0 < length points → distance ≡ (slice_index_or points 0 d).distance
    → ((e : SeekPoint) → 1 < length points → (slice_index_or points 0 e).distance < (slice_index_or points 1 e).distance)
    → (slice_index_or points 0 d).time ≡ seek_along points distance
along_one [] distance d l e rises = absurd (omega arith)
along_one (first ∷ points) distance d l e rises = sym (at_first first points distance e (λ d l. rises d (omega arith)))

-- the time of a seek over one cylinder is that of the first point
pub seek_one : (arm : Mechanics) (points : List SeekPoint) (distance : ℕ) (d : SeekPoint) → IsTable arm → points ≡ arm.points → distance ≢ 0
    → distance ≤ (slice_index_or points 0 d).distance
    → (slice_index_or points 0 d).time ≡ seek arm distance
seek_one arm points distance d table same some near =
    let moves : (distance == 0) ≡ false = grind (arith, nat_tests) in
    let one = table.from_one d in
    let here : (slice_index_or points 0 d).distance ≡ (slice_index_or arm.points 0 d).distance =
    ap (λ (ps : List SeekPoint). (slice_index_or ps 0 d).distance) same in
    rw moves (ap (λ (ps : List SeekPoint). (slice_index_or ps 0 d).time) same
    ∙ along_one arm.points distance d table.some (omega arith) (λ e l. table.rising 0 e (omega arith)))

-- a look-up of a distance on the disk doesn't go past the table
pub within_table : (arm : Mechanics) (points : List SeekPoint) (k distance : ℕ) → IsTable arm → points ≡ arm.points
    → distance < arm.cylinders → k ≤ length points
    → ((i : ℕ) (e : SeekPoint) → i < k → (slice_index_or points i e).distance < distance) → k < length points
within_table arm points k distance table same near le passed = elim (cases_lt k (length points)) [
  | inl less ↦ less
  | inr past ↦ absurd (
      let some : 0 < length points = omega (arith, ap length same, table.some) in
      let last = passed (length points - 1) (record { distance = 0; time = 0 }) (omega arith) in
      let far : arm.cylinders ≤ (slice_index_or points (length points - 1) (record { distance = 0; time = 0 })).distance + 1 =
      subst (λ (ps : List SeekPoint). arm.cylinders
      ≤ (slice_index_or ps (length points - 1) (record { distance = 0; time = 0 })).distance + 1) (sym same)
      (table.far (length points - 1) (record { distance = 0; time = 0 }) (omega (arith, ap length same))) in
      omega arith)
]
