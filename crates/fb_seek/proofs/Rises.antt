-- A seek over more cylinders takes no less time.
use Rattle.std.proofs.Common.{◌≡◌, ℕ, suc, ◌+◌, ◌-◌, ◌*◌, ◌/◌, ◌<◌, ◌≤◌, List, [], ◌∷◌, length, false, arith, inl, inr, add-one}
use Rattle.std.specs.Prelude.{nat_le, ◌==◌}
use Rattle.std.specs.List.{slice_index_or}
use Rattle.std.proofs.Math.Nat.{div-mul-le_self, div-le_of_le-mul, mul-le-mul_right}
use Rattle.std.proofs.lemmas.Nat.{le-div}
use Rattle.std.proofs.lemmas.Bool.{cases_Bool}
use Rattle.std.proofs.lemmas.Bool.Decides.{nat_tests}
use Rattle.fb_seek.specs.declared.point.SeekPoint.{SeekPoint}
use Rattle.fb_seek.specs.Mechanics.{Mechanics}
use Rattle.fb_seek.specs.Table.{IsTable}
use Rattle.fb_seek.specs.Positioning.{seek_after, seek_along}
use Rattle.fb_seek.specs.Rising.{SeeksRise}

-- points whose distances rise and whose times don't fall
abbrev AreSlower : SeekPoint → List SeekPoint → Type 0
AreSlower before [] = Unit {0}
AreSlower before (next ∷ points) = (before.distance < next.distance) × (before.time ≤ next.time) × AreSlower next points

are_slower : (before : SeekPoint) (points : List SeekPoint)
    → ((k : ℕ) (d : SeekPoint) → k < length points → (slice_index_or (before ∷ points) k d).distance < (slice_index_or points k d).distance)
    → ((k : ℕ) (d : SeekPoint) → k < length points → (slice_index_or (before ∷ points) k d).time ≤ (slice_index_or points k d).time)
    → AreSlower before points
are_slower before [] rising slower = tt
are_slower before (next ∷ points) rising slower = (
  rising 0 before (omega arith),
  slower 0 before (omega arith),
  are_slower next points (λ k d l. rising (suc k) d (omega arith)) (λ k d l. slower (suc k) d (omega arith)),
)

share_rises : (a b k : ℕ) → 0 < k → a ≤ b → a / k ≤ b / k
share_rises a b k some le = let part = div-mul-le_self a k in le-div (a / k) b k some (omega (arith, part, le))

part_rises : (a b t k : ℕ) → 0 < k → a ≤ b → a * t / k ≤ b * t / k
part_rises a b t k some le = share_rises (a * t) (b * t) k some (mul-le-mul_right t le)

whole_part : (a t k : ℕ) → a ≤ k → a * t / k ≤ t
whole_part a t k le = div-le_of_le-mul k (mul-le-mul_right t le)

-- no distance takes less time than the point before it
from_before : (before : SeekPoint) (points : List SeekPoint) (far : ℕ) → AreSlower before points
    → before.time ≤ seek_after before points far
from_before before [] far slower = omega arith
from_before before (next ∷ points) far slower = elim (cases_Bool (nat_le far next.distance)) [
  | inl here ↦ rw here (omega arith)
  | inr there ↦ rw there (let rest = from_before next points far slower.2 in let time = slower.1 in omega (arith, rest, time))
]

after_rises : (before : SeekPoint) (points : List SeekPoint) (near far : ℕ) → AreSlower before points → near ≤ far
    → seek_after before points near ≤ seek_after before points far
after_rises before [] near far slower le = omega arith
after_rises before (next ∷ points) near far slower le =
    let run : 0 < next.distance - before.distance = let rise = slower.0 in omega (arith, rise) in
    let time : before.time ≤ next.time = slower.1 in
    elim (cases_Bool (nat_le near next.distance)) [
      | inl here ↦ elim (cases_Bool (nat_le far next.distance)) [
        | inl both ↦ rw (here, both) (let part = part_rises (near - before.distance) (far - before.distance) (next.time - before.time)
            (next.distance - before.distance) run (omega arith) in omega (arith, part))
        | inr past ↦ let inside : near ≤ next.distance = grind (arith, nat_tests) in
            rw (here, past) (
            let part =
            whole_part (near - before.distance) (next.time - before.time) (next.distance - before.distance) (omega (arith, inside)) in
            let rest = from_before next points far slower.2 in omega (arith, part, rest, time))
      ]
      | inr there ↦ let past : nat_le far next.distance ≡ false = grind (arith, nat_tests) in
          rw (there, past) (after_rises next points near far slower.2 le)
    ]

along_rises : (points : List SeekPoint)
    → ((k : ℕ) (d : SeekPoint) → k + 1 < length points → (slice_index_or points k d).distance < (slice_index_or points (k + 1) d).distance)
    → ((k : ℕ) (d : SeekPoint) → k + 1 < length points → (slice_index_or points k d).time ≤ (slice_index_or points (k + 1) d).time)
    → (near far : ℕ) → near ≤ far → seek_along points near ≤ seek_along points far
along_rises [] rising slower near far le = omega arith
along_rises (first ∷ points) rising slower near far le =
    after_rises first points near far
    (are_slower first points (λ k d l. rw add-one at (rising k d (omega arith))) (λ k d l. rw add-one at (slower k d (omega arith)))) le

pub seeks_rise : (arm : Mechanics) → IsTable arm → SeeksRise arm
seeks_rise arm table = λ near far le. elim (cases_Bool (near == 0)) [
  | inl here ↦ rw here (omega arith)
  | inr moves ↦ let farther : (far == 0) ≡ false = grind (arith, nat_tests) in
      rw (moves, farther) (along_rises arm.points table.rising table.slower near far le)
]
