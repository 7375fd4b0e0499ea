-- Keys of a spot and a number.
use Rattle.fb_fastq.proofs.Words.{◌≡◌, ◌≢◌, ℕ, ◌<◌, ◌≤◌, arith, true, false, ◌&&◌, not, nat_cmp, ordering_then, is_gt, is_lt, is_le, is_eq}
use Rattle.fb_fastq.proofs.Words.{Less, Equal, nat_tests, inl, inr, cases_lt, IsNoLater}

pub at_spot : (a c d : ℕ) → a ≤ c → is_gt (ordering_then (nat_cmp a c) (nat_cmp 0 d)) ≡ false
at_spot a c d h = grind (arith, nat_tests)

pub spots_rise : (a b c d : ℕ) → is_gt (ordering_then (nat_cmp a c) (nat_cmp b d)) ≡ false → a ≤ c
spots_rise a b c d h = grind (arith, nat_tests)

pub same_number : (a b c d : ℕ) → ordering_then (nat_cmp a c) (nat_cmp b d) ≡ Equal → b ≡ d
same_number a b c d h = grind (arith, nat_tests)

pub here_equal : (a b : ℕ) → is_eq (ordering_then (nat_cmp a a) (nat_cmp b b)) ≡ true
here_equal a b = grind (arith, nat_tests)

pub same_key : (a b c d : ℕ) → b ≢ d → is_eq (ordering_then (nat_cmp a c) (nat_cmp b d)) ≡ false
same_key a b c d h = grind (arith, nat_tests)

pub equal_keys : (a b c d : ℕ) → is_eq (ordering_then (nat_cmp a c) (nat_cmp b d)) ≡ true → (a ≡ c) × (b ≡ d)
equal_keys a b c d h = (grind (arith, nat_tests), grind (arith, nat_tests))

pub before_spot : (a c d : ℕ) → a < c → ordering_then (nat_cmp a c) (nat_cmp d 0) ≡ Less
before_spot a c d h = grind (arith, nat_tests)

pub spots_fall : (a b c d : ℕ) → is_lt (ordering_then (nat_cmp a c) (nat_cmp b d)) ≡ false → c ≤ a
spots_fall a b c d h = grind (arith, nat_tests)

pub follows : (a b c d : ℕ) → ordering_then (nat_cmp a c) (nat_cmp b d) ≡ Less → a ≤ c
follows a b c d h = grind (arith, nat_tests)

pub not_at : (a b c d : ℕ) → ordering_then (nat_cmp a c) (nat_cmp b d) ≡ Less → is_eq (ordering_then (nat_cmp c a) (nat_cmp d b)) ≡ false
not_at a b c d h = grind (arith, nat_tests)

-- keys from the first one of a spot on
pub is_from : (a c d : ℕ) → (is_le (ordering_then (nat_cmp a c) (nat_cmp 0 d)) && true) ≡ true → a ≤ c
is_from a c d h = grind (arith, nat_tests)

pub from_is : (a c d : ℕ) → a ≤ c → (is_le (ordering_then (nat_cmp a c) (nat_cmp 0 d)) && true) ≡ true
from_is a c d h = grind (arith, nat_tests)

-- keys before it
pub is_before : (a c d : ℕ) → (true && not (is_le (ordering_then (nat_cmp a c) (nat_cmp 0 d)))) ≡ true → c < a
is_before a c d h = grind (arith, nat_tests)

pub before_is : (a c d : ℕ) → c < a → (true && not (is_le (ordering_then (nat_cmp a c) (nat_cmp 0 d)))) ≡ true
before_is a c d h = grind (arith, nat_tests)

-- numbers from a first one on and before an end
pub is_within : (a b k : ℕ) → (is_le (nat_cmp a k) && not (is_le (nat_cmp b k))) ≡ true → (a ≤ k) × (k < b)
is_within a b k h = (grind (arith, nat_tests), grind (arith, nat_tests))

pub within_is : (a b k : ℕ) → a ≤ k → k < b → (is_le (nat_cmp a k) && not (is_le (nat_cmp b k))) ≡ true
within_is a b k from below = grind (arith, nat_tests)

pub is_under : (b k : ℕ) → (true && not (is_le (nat_cmp b k))) ≡ true → k < b
is_under b k h = grind (arith, nat_tests)

pub under_is : (b k : ℕ) → k < b → (true && not (is_le (nat_cmp b k))) ≡ true
under_is b k h = grind (arith, nat_tests)

pub number_follows : (a b : ℕ) → nat_cmp a b ≡ Less → a ≤ b
number_follows a b h = grind (arith, nat_tests)

-- the order of keys, as a request that joined later comes later
pub no_later_is : (a b c d : ℕ) → IsNoLater a b c d → is_gt (ordering_then (nat_cmp a c) (nat_cmp b d)) ≡ false
no_later_is a b c d (inl less) = grind (arith, nat_tests)
no_later_is a b c d (inr tied) = let same = tied.0 in let le = tied.1 in grind (arith, nat_tests)

pub is_no_later : (a b c d : ℕ) → is_gt (ordering_then (nat_cmp a c) (nat_cmp b d)) ≡ false → IsNoLater a b c d
is_no_later a b c d h = elim (cases_lt a c) [
  | inl less ↦ inl less
  | inr ge ↦ inr (grind (arith, nat_tests), grind (arith, nat_tests))
]
