-- Pairs of a chunk and a task.
use Rattle.std.specs.BTreeMap.{is_at}
use Rattle.std.specs.Ordering.{is_gt}
use Rattle.fb_tasks.proofs.Words.{◌≡◌, ◌≤◌, ℕ, Bool, if◌then◌else◌, true, false, refl, arith, nat_tests, pair_cmp}

pub same_pair : (a b : ℕ × ℕ) → is_at (pair_cmp a) b ≡ true → b ≡ a
same_pair a b here =
    let first : b.0 ≡ a.0 = grind (arith, nat_tests) in
    let second : b.1 ≡ a.1 = grind (arith, nat_tests) in
    rw (first, second) refl

pub at_itself : (a : ℕ × ℕ) → is_at (pair_cmp a) a ≡ true
at_itself a = grind (arith, nat_tests)

pub from_pair : (chunk from j : ℕ) → from ≤ j → is_gt (pair_cmp (chunk, from) (chunk, j)) ≡ false
from_pair chunk from j h = grind (arith, nat_tests)

pub seconds_rise : (chunk other i j : ℕ) → is_gt (pair_cmp (other, i) (chunk, j)) ≡ false → other ≡ chunk → i ≤ j
seconds_rise chunk other i j h same = grind (arith, nat_tests)

pub first_stays : (chunk from other i j : ℕ) → is_gt (pair_cmp (chunk, from) (other, i)) ≡ false
    → is_gt (pair_cmp (other, i) (chunk, j)) ≡ false → other ≡ chunk
first_stays chunk from other i j up down = grind (arith, nat_tests)

-- what isn't there isn't there after something was taken out
pub stays_out : (gone there : Bool) → there ≡ false → (if gone then false else there) ≡ false
stays_out true there none = refl
stays_out false there none = none
