-- Ranges that share a sector, and those that share none.
use Rattle.fb_puts.proofs.Words.{AllByRecursion, AreApart, List, SectorRange, [], ap, arith, cases_Bool, false, if◌then◌else◌, inl, inr}
use Rattle.fb_puts.proofs.Words.{ltb-true, max, min, nat_lt, nat_tests, refl, share, sum_by, sum_by-cons, sym, true, true≢false, ℕ, ◌+◌}
use Rattle.fb_puts.proofs.Words.{◌<◌, ◌∙◌, ◌∷◌, ◌≡◌, ◌≤◌}

pub lt-true : (a b : ℕ) → a < b → nat_lt a b ≡ true
lt-true a b less = grind (arith, nat_tests)

pub lt-false : (a b : ℕ) → b ≤ a → nat_lt a b ≡ false
lt-false a b le = grind (arith, nat_tests)

-- what it means to share a sector
pub record Shares (a b : SectorRange) : Type 0 where
  pub before : a.first < b.first + b.count
  pub behind : b.first < a.first + a.count
  pub some : 0 < a.count
  pub some_other : 0 < b.count

pub shares_is : (a b : SectorRange) → share a b ≡ true → Shares a b
shares_is a b is = let less = ltb-true (max a.first b.first) (min (a.first + a.count) (b.first + b.count)) is in record {
  before = omega (arith, less);
  behind = omega (arith, less);
  some = omega (arith, less);
  some_other = omega (arith, less);
}

pub is_shares : (a b : SectorRange) → a.first < b.first + b.count → b.first < a.first + a.count → 0 < a.count
    → 0 < b.count → share a b ≡ true
is_shares a b before behind some some_other = lt-true (max a.first b.first) (min (a.first + a.count) (b.first + b.count)) (omega arith)

pub not_share : (a b : SectorRange) → (Shares a b → ⊥) → share a b ≡ false
not_share a b never = elim (cases_Bool (share a b)) [
  | inl is ↦ absurd (never (shares_is a b is))
  | inr not' ↦ not'
]

pub share_either : (a b : SectorRange) → share a b ≡ false → share b a ≡ false
share_either a b apart = grind (arith, nat_tests)

abbrev pub sector : ℕ → SectorRange
sector lbn = record { first = lbn; count = 1 }

-- 1 for a range that has the sector
abbrev pub has : ℕ → SectorRange → ℕ
has lbn range = if share (sector lbn) range then 1 else 0

pub has_it : (lbn : ℕ) (range : SectorRange) → range.first ≤ lbn → lbn < range.first + range.count → share (sector lbn) range ≡ true
has_it lbn range from before = is_shares (sector lbn) range before (omega arith) (omega arith) (omega arith)

pub one_more : (lbn : ℕ) (range : SectorRange) (others : List SectorRange) → share (sector lbn) range ≡ true
    → sum_by (has lbn) (range ∷ others) ≡ 1 + sum_by (has lbn) others
one_more lbn range others its = sum_by-cons (has lbn) range others ∙ ap (λ b. (if b then 1 else 0) + sum_by (has lbn) others) its

pub as_many : (lbn : ℕ) (range : SectorRange) (others : List SectorRange) → share (sector lbn) range ≡ false
    → sum_by (has lbn) (range ∷ others) ≡ sum_by (has lbn) others
as_many lbn range others off =
    let none : sum_by (has lbn) (range ∷ others) ≡ 0 + sum_by (has lbn) others = sum_by-cons (has lbn) range others
    ∙ ap (λ b. (if b then 1 else 0) + sum_by (has lbn) others) off in
    omega (arith, none)

-- the others don't have a sector of a range that shares none with them
none_has : (lbn : ℕ) (range : SectorRange) (others : List SectorRange) → share (sector lbn) range ≡ true
    → AllByRecursion (λ other. share range other ≡ false) others
    → sum_by (has lbn) others ≡ 0
none_has lbn range [] its apart = refl
none_has lbn range (other ∷ others) its apart =
    let is = shares_is (sector lbn) range its in
    as_many lbn other others (not_share (sector lbn) other (λ has.
    let both = is_shares range other (omega (arith, is.behind, has.before)) (omega (arith, has.behind, is.before))
    is.some_other has.some_other in
    true≢false (sym both ∙ apart.0)))
    ∙ none_has lbn range others its apart.1

-- no sector is in two of them
pub once : (lbn : ℕ) (ranges : List SectorRange) → AreApart ranges → sum_by (has lbn) ranges ≤ 1
once lbn [] apart = omega arith
once lbn (range ∷ ranges) apart = elim (cases_Bool (share (sector lbn) range)) [
  | inl its ↦ let none = none_has lbn range ranges its apart.0 in let more = one_more lbn range ranges its in omega (arith, none, more)
  | inr off ↦ let same = as_many lbn range ranges off in let few = once lbn ranges apart.1 in omega (arith, same, few)
]
