-- A range shares a sector with one of those that are kept by their ends just if the first of them to end behind its begin does.
use Rattle.std.proofs.lemmas.Option.{same_Some}
use Rattle.fb_units.proofs.Among.{among-any}
use Rattle.fb_units.proofs.Lists.{all_from_index, any_of_none}
use Rattle.fb_puts.proofs.Words.{all_get, ◌≡◌, ℕ, zero, suc, ◌+◌, ◌-◌, ◌<◌, ◌≤◌, List, [], ◌∷◌, true, false, Some, slice_get}
use Rattle.fb_puts.proofs.Words.{inl, inr, sym, ap, ◌∙◌, arith, nat_lt, list_any, nat_cmp, BTreeMap, get, ContainsKey}
use Rattle.fb_puts.proofs.Words.{cases_lt, SectorRange, share, AreApart, AreTaken}
use Rattle.fb_puts.proofs.Options.{some_there}
use Rattle.fb_puts.proofs.{Sharing.is_shares, Sharing.lt-false, Sharing.lt-true, Sharing.not_share, Sharing.Shares}

-- ranges of the list that share a sector are the same
pub one_of_apart : (ranges : List SectorRange) (i j : ℕ) (a b : SectorRange) → AreApart ranges → slice_get ranges i ≡ Some a
    → slice_get ranges j ≡ Some b → Shares a b → a ≡ b
one_of_apart [] i j a b apart at_i at_j shares = absurd (grind arith)
one_of_apart (r ∷ rs) zero zero a b apart at_i at_j shares = sym (same_Some r a at_i) ∙ same_Some r b at_j
one_of_apart (r ∷ rs) zero (suc j) a b apart at_i at_j shares =
    let off : share r b ≡ false = all_get (λ other. share r other ≡ false) rs j b apart.0 at_j in
    let on : share r b ≡ true = ap (λ x. share x b) (same_Some r a at_i) ∙ is_shares a b shares.before shares.behind
    shares.some shares.some_other in
    absurd (grind arith)
one_of_apart (r ∷ rs) (suc i) zero a b apart at_i at_j shares =
    let off : share r a ≡ false = all_get (λ other. share r other ≡ false) rs i a apart.0 at_i in
    let on : share r a ≡ true = ap (λ x. share x a) (same_Some r b at_j) ∙ is_shares b a shares.behind shares.before
    shares.some_other shares.some in
    absurd (grind arith)
one_of_apart (r ∷ rs) (suc i) (suc j) a b apart at_i at_j shares = one_of_apart rs i j a b apart.1 at_i at_j shares

module _ (ends : BTreeMap ℕ ℕ) (ranges : List SectorRange) (range : SectorRange) (taken : AreTaken ends ranges)
    (some : 0 < range.count) where
  has_end : (k : ℕ) (other : SectorRange) → slice_get ranges k ≡ Some other → ContainsKey nat_cmp ends (other.first + other.count)
  has_end k other at = some_there (get nat_cmp ends (other.first + other.count)) other.first
      (all_get (λ r. get nat_cmp ends (r.first + r.count) ≡ Some r.first) ranges k other taken.each at)

  -- none of them ends behind the begin of the range
  pub none_taken : ((other : ℕ) → ContainsKey nat_cmp ends other → other ≤ range.first) → false ≡ list_any (share range) ranges
  none_taken before = sym (any_of_none (share range) ranges (all_from_index (λ other. share range other ≡ false) ranges (λ k other at.
      not_share range other (λ shares. let end = before (other.first + other.count) (has_end k other at) in
      omega (arith, end, shares.before)))))

  -- the first that does begins before the range ends, or not
  pub first_taken : (end first : ℕ) → get nat_cmp ends end ≡ Some first → range.first < end → ((other : ℕ) → ContainsKey nat_cmp ends other
      → range.first < other → end ≤ other)
      → nat_lt first (range.first + range.count) ≡ list_any (share range) ranges
  first_taken end first has behind least =
      let its = taken.only end first has in
      let own : SectorRange = record { first = first; count = end - first } in
      elim (cases_lt first (range.first + range.count)) [
        | inl less ↦ lt-true first (range.first + range.count) less
            ∙ sym (among-any (share range) ranges own (its.0, its.1) (is_shares range own (omega (arith, its.2)) less
            some (omega (arith, its.2))))
        | inr more ↦ lt-false first (range.first + range.count) more
            ∙ sym (any_of_none (share range) ranges (all_from_index (λ other. share range other ≡ false) ranges (λ k other at.
            not_share range other (λ shares.
            let later = least (other.first + other.count) (has_end k other at) shares.before in
            let same = one_of_apart ranges k its.0 other own taken.apart at its.1
            (record {
              before = omega (arith, shares.behind, its.2);
              behind = omega (arith, later, its.2, shares.behind);
              some = shares.some_other;
              some_other = omega (arith, its.2);
            }) in
            let firsts : other.first ≡ first = ap (λ (r : SectorRange). r.first) same in
            omega (arith, firsts, shares.behind)))))
      ]
