-- Ranges that share no sector, in another order.
use Rattle.fb_units.proofs.Lists.{all_from_index}
use Rattle.fb_puts.proofs.Words.{all_get, ◌≡◌, ℕ, ◌+◌, ◌≤◌, List, [], ◌∷◌, false, max, inl, inr, sym}
use Rattle.fb_puts.proofs.Words.{◌∙◌, arith, IsPermutation, AllByRecursion, sum_by, cases_Bool, true≢false, sum_by-cons, all_weaker}
use Rattle.fb_puts.proofs.Words.{SectorRange, share, AreApart}
use Rattle.std.proofs.lemmas.List.Sorted.{sum_by-IsPermutation}
use Rattle.fb_puts.proofs.{Sharing.as_many, Sharing.has, Sharing.has_it, Sharing.not_share, Sharing.once, Sharing.one_more}
use Rattle.fb_puts.proofs.{Sharing.sector}

all_off : (lbn : ℕ) (ranges : List SectorRange) → sum_by (has lbn) ranges ≡ 0
    → AllByRecursion (λ range. share (sector lbn) range ≡ false) ranges
all_off lbn [] none = tt
all_off lbn (range ∷ ranges) none = elim (cases_Bool (share (sector lbn) range)) [
  | inl its ↦ let more = one_more lbn range ranges its in absurd (omega (arith, none, more))
  | inr off ↦ (off, all_off lbn ranges (sym (as_many lbn range ranges off) ∙ none))
]

-- a range that has a sector with another one has the one where the later of them begins
off_others : (range : SectorRange) (ranges : List SectorRange) → ((lbn : ℕ) → sum_by (has lbn) (range ∷ ranges) ≤ 1)
    → AllByRecursion (λ other. share range other ≡ false) ranges
off_others range ranges few = all_from_index (λ other. share range other ≡ false) ranges (λ k other at. not_share range other (λ shares.
    let lbn = max range.first other.first in
    let more = one_more lbn range ranges (has_it lbn range (omega arith) (omega (arith, shares.behind, shares.some))) in
    let one = few lbn in
    let off = all_get (λ other. share (sector lbn) other ≡ false) ranges k other (all_off lbn ranges (omega (arith, more, one))) at in
    true≢false (sym (has_it lbn other (omega arith) (omega (arith, shares.before, shares.some_other))) ∙ off)))

apart_if_once : (ranges : List SectorRange) → ((lbn : ℕ) → sum_by (has lbn) ranges ≤ 1) → AreApart ranges
apart_if_once [] few = tt
apart_if_once (range ∷ ranges) few = (
  off_others range ranges few,
  apart_if_once ranges (λ lbn.
      let one = few lbn in
      let sum = sum_by-cons (has lbn) range ranges in
      omega (arith, one, sum)),
)

-- in another order they are apart too
pub apart_shuffled : (xs ys : List SectorRange) → IsPermutation xs ys → AreApart ys → AreApart xs
apart_shuffled xs ys moved apart = apart_if_once xs (λ lbn.
    let same = sum_by-IsPermutation (has lbn) xs ys moved in
    let few = once lbn ys apart in
    omega (arith, same, few))

-- the first of the ranges begins behind this one, and each other one behind the one before it
abbrev pub AreBehind : SectorRange → List SectorRange → Type 0
AreBehind last [] = Unit {0}
AreBehind last (range ∷ ranges) = (last.first + last.count ≤ range.first) × AreBehind range ranges

all_behind : (end : ℕ) (last : SectorRange) (ranges : List SectorRange) → end ≤ last.first + last.count → AreBehind last ranges
    → AllByRecursion (λ range. end ≤ range.first) ranges
all_behind end last [] upto behind = tt
all_behind end last (range ∷ ranges) upto behind = let first = behind.0 in
    (omega (arith, upto, first), all_behind end range ranges (omega (arith, upto, first)) behind.1)

-- so they are apart
pub behind_apart : (last : SectorRange) (ranges : List SectorRange) → AreBehind last ranges → AreApart ranges
behind_apart last [] behind = tt
behind_apart last (range ∷ ranges) behind = (
  all_weaker (λ (other : SectorRange). range.first + range.count ≤ other.first) (λ other. share range other ≡ false)
      (λ other later. not_share range other (λ shares. let over = shares.behind in omega (arith, later, over)))
      ranges (all_behind (range.first + range.count) range ranges (omega arith) behind.1),
  behind_apart range ranges behind.1,
)
