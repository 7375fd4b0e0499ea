-- What is noted of streaks: sets of keys, with one more or one less, and the order of keys.
use Rattle.fb_wanted.proofs.Words.{◌≡◌, ℕ, ◌⊎◌, inl, inr, Bool, true, false, if◌then◌else◌, refl, arith, is_at, is_gt, cases_lt, nat_tests}
use Rattle.fb_wanted.proofs.Words.{Streak, key_of, streak_cmp, IsUpTo}

pub still : (new old : Bool) → old ≡ true → (if new then true else old) ≡ true
still true old h = refl
still false old h = h

pub if_added : (new old : Bool) → (if new then true else old) ≡ true → (new ≡ true) ⊎ (old ≡ true)
if_added true old h = inl refl
if_added false old h = inr h

pub unless_taken : (gone old : Bool) → (if gone then false else old) ≡ true → old ≡ true
unless_taken true old h = grind arith
unless_taken false old h = h

pub if_taken : (gone old : Bool) → old ≡ true → (gone ≡ true) ⊎ ((if gone then false else old) ≡ true)
if_taken true old h = inl refl
if_taken false old h = inr h

pub same_key : (a b : ℕ × ℕ × ℕ) → is_at (streak_cmp a) b ≡ true → b ≡ a
same_key a b here =
    let x : b.0 ≡ a.0 = grind (arith, nat_tests) in
    let y : b.1 ≡ a.1 = grind (arith, nat_tests) in
    let z : b.2 ≡ a.2 = grind (arith, nat_tests) in rw (x, y, z) refl

-- the order of the streaks of one task
pub from_key : (task : ℕ) (from other : Streak) → IsUpTo from other → is_gt (streak_cmp (key_of task from) (key_of task other)) ≡ false
from_key task from other (inl less) = grind (arith, nat_tests)
from_key task from other (inr same) = grind (arith, nat_tests)

pub up_to : (task region number : ℕ) (other : Streak) → is_gt (streak_cmp (task, region, number) (key_of task other)) ≡ false
    → IsUpTo (record { region = region; number = number }) other
up_to task region number other h = elim (cases_lt region other.region) [
  | inl less ↦ inl less
  | inr most ↦ inr (grind (arith, nat_tests), grind (arith, nat_tests))
]

pub from_up_to : (task region number : ℕ) (from : Streak) → is_gt (streak_cmp (key_of task from) (task, region, number)) ≡ false
    → IsUpTo from (record { region = region; number = number })
from_up_to task region number from h = elim (cases_lt from.region region) [
  | inl less ↦ inl less
  | inr most ↦ inr (grind (arith, nat_tests), grind (arith, nat_tests))
]

pub between : (task other region number : ℕ) (from streak : Streak) → is_gt (streak_cmp (key_of task from) (other, region, number)) ≡ false
    → is_gt (streak_cmp (other, region, number) (key_of task streak)) ≡ false → other ≡ task
between task other region number from streak up down = grind (arith, nat_tests)
