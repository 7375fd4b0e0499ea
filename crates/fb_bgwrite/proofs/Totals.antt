-- Ranges within one that share no sector have no more sectors than it.
use Rattle.std.proofs.lemmas.List.FromFn.{length-range_with_len}
use Rattle.fb_bgwrite.proofs.Words.{◌≡◌, ◌⊎◌, ℕ, zero, suc, ◌+◌, ◌-◌, ◌<◌, ◌≤◌, List, [], ◌∷◌, Bool, true, false, ◌&&◌, max, min}
use Rattle.fb_bgwrite.proofs.Words.{map, refl, ap, arith, inl, inr, if◌then◌else◌, nat_le, nat_lt, AllByRecursion, count_by}
use Rattle.fb_bgwrite.proofs.Words.{list_any, range_with_len, sum_by, cases_Bool, cases_lt, and_parts, leb-true, ltb-true}
use Rattle.fb_bgwrite.proofs.Words.{nat_tests, count_by-le-length, sum_by-cons, all_weaker, Put, SectorRange, lies_in, share}
use Rattle.fb_bgwrite.proofs.Words.{AreApart, Accepted, range_of, ArePuts, IsPutOf, ArePutsOn, is_shares, none_any}

-- the sector is in the range
abbrev pub has : SectorRange → ℕ → Bool
has range lbn = nat_le range.first lbn && nat_lt lbn (range.first + range.count)

not_in : (range : SectorRange) (lbn : ℕ) → has range lbn ≡ false → (lbn < range.first) ⊎ (range.first + range.count ≤ lbn)
not_in range lbn outside = elim (cases_lt lbn range.first) [
  | inl before ↦ inl before
  | inr from ↦ elim (cases_lt lbn (range.first + range.count)) [
    | inl inside ↦ absurd (grind (arith, nat_tests))
    | inr behind ↦ inr behind
  ]
]

abbrev ones : Bool → ℕ
ones b = if b then 1 else 0

one_if : (b : Bool) → b ≡ true → ones b ≡ 1
one_if b is = ap ones is

none_if : (b : Bool) → b ≡ false → ones b ≡ 0
none_if b is = ap ones is

counted : (p : ℕ → Bool) (x : ℕ) (xs : List ℕ) → count_by p (x ∷ xs) ≡ ones (p x) + count_by p xs
counted p x xs = sum_by-cons (λ y. ones (p y)) x xs

-- how many of the sectors from one on are in the range
in_range : (range : SectorRange) (first n : ℕ)
    → count_by (has range) (range_with_len first n) ≡ min (range.first + range.count) (first + n) - max range.first first
in_range range first zero = omega arith
in_range range first (suc n) = elim (cases_Bool (has range first)) [
  | inl inside ↦
      let both = and_parts (nat_le range.first first) (nat_lt first (range.first + range.count)) inside in
      let low : range.first ≤ first = leb-true range.first first both.0 in
      let high : first < range.first + range.count = ltb-true first (range.first + range.count) both.1 in
      let here = one_if (has range first) inside in
      omega (arith, counted (has range) first (range_with_len (first + 1) n), here, in_range range (first + 1) n)
  | inr outside ↦
      let here = none_if (has range first) outside in
      let off = not_in range first outside in
      elim off [
        | inl before ↦ omega (arith, counted (has range) first (range_with_len (first + 1) n), here, in_range range (first + 1) n, before)
        | inr behind ↦ omega (arith, counted (has range) first (range_with_len (first + 1) n), here, in_range range (first + 1) n, behind)
      ]
]

-- a sector that is in a range isn't in one that shares none with it
pub in_no_other : (a b : SectorRange) (lbn : ℕ) → has a lbn ≡ true → share a b ≡ false → has b lbn ≡ false
in_no_other a b lbn inside apart = elim (cases_Bool (has b lbn)) [
  | inl there ↦
      let in_a = and_parts (nat_le a.first lbn) (nat_lt lbn (a.first + a.count)) inside in
      let in_b = and_parts (nat_le b.first lbn) (nat_lt lbn (b.first + b.count)) there in
      let low_a : a.first ≤ lbn = leb-true a.first lbn in_a.0 in
      let high_a : lbn < a.first + a.count = ltb-true lbn (a.first + a.count) in_a.1 in
      let low_b : b.first ≤ lbn = leb-true b.first lbn in_b.0 in
      let high_b : lbn < b.first + b.count = ltb-true lbn (b.first + b.count) in_b.1 in
      let on = is_shares a b (omega arith) (omega arith) (omega arith) (omega arith) in
      absurd (grind arith)
  | inr not' ↦ not'
]

abbrev covered : List SectorRange → ℕ → Bool
covered ranges lbn = list_any (λ range. has range lbn) ranges

-- the sectors of a range and those of others
both_counted : (range : SectorRange) (ranges : List SectorRange) → AllByRecursion (λ other. share range other ≡ false) ranges
    → (lbns : List ℕ)
    → count_by (covered (range ∷ ranges)) lbns ≡ count_by (has range) lbns + count_by (covered ranges) lbns
both_counted range ranges apart [] = refl
both_counted range ranges apart (lbn ∷ lbns) =
    let total = counted (covered (range ∷ ranges)) lbn lbns in
    let own = counted (has range) lbn lbns in
    let others = counted (covered ranges) lbn lbns in
    let rest = both_counted range ranges apart lbns in
    elim (cases_Bool (has range lbn)) [
      | inl inside ↦
          let none : covered ranges lbn ≡ false = none_any (λ other. has other lbn) ranges (all_weaker (λ other. share range other ≡ false)
          (λ other. has other lbn ≡ false) (λ other off. in_no_other range other lbn inside off) ranges apart) in
          let all : covered (range ∷ ranges) lbn ≡ true = rw inside refl in
          let here = one_if (has range lbn) inside in
          let there = none_if (covered ranges lbn) none in
          let whole = one_if (covered (range ∷ ranges) lbn) all in
          omega (arith, total, own, others, here, there, whole, rest)
      | inr outside ↦
          let all : covered (range ∷ ranges) lbn ≡ covered ranges lbn = rw outside refl in
          let here = none_if (has range lbn) outside in
          let whole = ap ones all in
          omega (arith, total, own, others, here, whole, rest)
    ]

abbrev LieIn : ℕ → ℕ → List SectorRange → Type 0
LieIn first end ranges = AllByRecursion (λ range. (first ≤ range.first) × (range.first + range.count ≤ end)) ranges

all_counted : (first n : ℕ) (ranges : List SectorRange) → LieIn first (first + n) ranges → AreApart ranges
    → sum_by (λ (range : SectorRange). range.count) ranges ≤ count_by (covered ranges) (range_with_len first n)
all_counted first n [] inside apart = omega arith
all_counted first n (range ∷ ranges) inside apart =
    omega (
      arith,
      sum_by-cons (λ (r : SectorRange). r.count) range ranges,
      both_counted range ranges apart.0 (range_with_len first n),
      in_range range first n,
      inside.0.0,
      inside.0.1,
      all_counted first n ranges inside.1 apart.1,
    )

pub no_more : (first n : ℕ) (ranges : List SectorRange) → LieIn first (first + n) ranges → AreApart ranges
    → sum_by (λ (range : SectorRange). range.count) ranges ≤ n
no_more first n ranges inside apart = omega (
  arith,
  all_counted first n ranges inside apart,
  count_by-le-length (covered ranges)
      (range_with_len first n),
  length-range_with_len first n,
)

-- ---- puts

sum_ranges : (puts : List Put) → sum_by (λ (put : Put). put.count) puts ≡ sum_by (λ (range : SectorRange). range.count) (map range_of puts)
sum_ranges [] = refl
sum_ranges (put ∷ puts) = omega (
  arith,
  sum_by-cons (λ (p : Put). p.count) put puts,
  sum_by-cons (λ (r : SectorRange). r.count) (range_of put) (map range_of puts),
  sum_ranges puts,
)

lies_is : (a b : SectorRange) → lies_in a b ≡ true → (b.first ≤ a.first) × (a.first + a.count ≤ b.first + b.count)
lies_is a b inside =
    let both = and_parts (nat_le b.first a.first) (nat_le (a.first + a.count) (b.first + b.count)) inside in
    (leb-true b.first a.first both.0, leb-true (a.first + a.count) (b.first + b.count) both.1)

all_lie : (reserve : SectorRange) (puts : List Put) → AllByRecursion (IsPutOf reserve) puts
    → LieIn reserve.first (reserve.first + reserve.count) (map range_of puts)
all_lie reserve [] all = tt
all_lie reserve (put ∷ puts) all = (lies_is (range_of put) reserve all.0.inside, all_lie reserve puts all.1)

pub puts_on : (sectors : ℕ) (accepted : Accepted) → ArePuts sectors accepted → ArePutsOn sectors accepted.puts
puts_on sectors accepted are = record {
  some = all_weaker (IsPutOf accepted.reserve) (λ (p : Put). 0 < p.count) (λ p is. is.some) accepted.puts are.each;
  on_disk = all_weaker (IsPutOf accepted.reserve) (λ (p : Put). p.first + p.count ≤ sectors)
      (λ p is. let inside = lies_is (range_of p) accepted.reserve is.inside in omega (arith, inside.1, are.on_disk)) accepted.puts are.each;
  rising = are.rising;
  apart = are.apart;
  few = are.few;
  few_sectors = omega (
    arith,
    sum_ranges accepted.puts,
    no_more accepted.reserve.first accepted.reserve.count (map range_of accepted.puts)
        (all_lie accepted.reserve accepted.puts are.each) are.apart,
    are.few_sectors,
  );
}
