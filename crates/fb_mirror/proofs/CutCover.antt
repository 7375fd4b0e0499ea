-- The blocks that are cut from a range are the range.
use Rattle.fb_mirror.proofs.Words.{◌≡◌, ℕ, zero, suc, ◌+◌, ◌<◌, ◌≤◌, List, [], ◌∷◌, Bool, true, false, refl, arith, inl, inr, subst}
use Rattle.fb_mirror.proofs.Words.{if◌then◌else◌, AllByRecursion, cases_lt, Shape, Cut, cutting}
use Rattle.fb_sectormap.specs.Cutting.{cut_of, is_cut_before, with_sector}

abbrev BeginsAt : ℕ → List Cut → Type 0
BeginsAt lbn [] = Unit {0}
BeginsAt lbn (cut ∷ cuts) = cut.lbn ≡ lbn

with_begins : (disk : Shape) (block lbn : ℕ) (cuts : List Cut) → BeginsAt lbn (with_sector disk block lbn cuts)
with_begins disk block lbn [] = refl
with_begins disk block lbn (cut ∷ cuts) = by (is_cut_before disk block (lbn + 1))
  where
    by : (b : Bool) → BeginsAt lbn (if b then cut_of disk lbn 1 ∷ cut ∷ cuts else cut_of disk lbn (cut.count + 1) ∷ cuts)
    by true = refl
    by false = refl

begins : (disk : Shape) (block lbn n : ℕ) → BeginsAt lbn (cutting disk block lbn n)
unfolding cutting
begins disk block lbn zero = tt
begins disk block lbn (suc n) = with_begins disk block lbn (cutting disk block (lbn + 1) n)

-- ---- none ends behind the range

abbrev pub EndsBy : ℕ → Cut → Type 0
EndsBy end cut = cut.lbn + cut.count ≤ end

with_ends : (disk : Shape) (block lbn end : ℕ) (cuts : List Cut) → lbn < end → BeginsAt (lbn + 1) cuts → AllByRecursion (EndsBy end) cuts
    → AllByRecursion (EndsBy end) (with_sector disk block lbn cuts)
with_ends disk block lbn end [] less begins all = (omega arith, tt)
with_ends disk block lbn end (cut ∷ cuts) less begins all = by (is_cut_before disk block (lbn + 1))
  where
    by : (b : Bool) → AllByRecursion (EndsBy end) (if b then cut_of disk lbn 1 ∷ cut ∷ cuts else cut_of disk lbn (cut.count + 1) ∷ cuts)
    by true = (omega arith, all)
    by false = (omega (arith, all.0, begins), all.1)

pub cuts_end : (disk : Shape) (block lbn n end : ℕ) → lbn + n ≤ end → AllByRecursion (EndsBy end) (cutting disk block lbn n)
unfolding cutting
cuts_end disk block lbn zero end within = tt
cuts_end disk block lbn (suc n) end within = with_ends disk block lbn end (cutting disk block (lbn + 1) n) (omega arith) (begins disk block
    (lbn + 1) n) (cuts_end disk block (lbn + 1) n end (omega arith))

-- ---- what holds of the sectors of each holds of all sectors of the range

module _ (Q : ℕ → Type 0) where
  abbrev pub HoldsIn : Cut → Type 0
  HoldsIn cut = (x : ℕ) → cut.lbn ≤ x → x < cut.lbn + cut.count → Q x

  with_holds : (disk : Shape) (block lbn : ℕ) (cuts : List Cut) → BeginsAt (lbn + 1) cuts
      → AllByRecursion HoldsIn (with_sector disk block lbn cuts) → Q lbn × AllByRecursion HoldsIn cuts
  with_holds disk block lbn [] begins all = (all.0 lbn (omega arith) (omega arith), tt)
  with_holds disk block lbn (cut ∷ cuts) begins all = by (is_cut_before disk block (lbn + 1)) all
    where
      by : (b : Bool) → AllByRecursion HoldsIn (if b then cut_of disk lbn 1 ∷ cut ∷ cuts else cut_of disk lbn (cut.count + 1) ∷ cuts)
          → Q lbn × AllByRecursion HoldsIn (cut ∷ cuts)
      by true all = (all.0 lbn (omega arith) (omega arith), all.1)
      by false all =
          (all.0 lbn (omega arith) (omega arith), (λ x from to. all.0 x (omega (arith, from, begins)) (omega (arith, to, begins)), all.1))

  pub cuts_hold : (disk : Shape) (block lbn n : ℕ) → AllByRecursion HoldsIn (cutting disk block lbn n) → (x : ℕ) → lbn ≤ x → x < lbn + n
      → Q x
  unfolding cutting
  cuts_hold disk block lbn zero all x from to = absurd (omega arith)
  cuts_hold disk block lbn (suc n) all x from to =
      let both = with_holds disk block lbn (cutting disk block (lbn + 1) n) (begins disk block (lbn + 1) n) all in
      elim (cases_lt lbn x) [
        | inl behind ↦ cuts_hold disk block (lbn + 1) n both.1 x (omega arith) (omega arith)
        | inr here ↦ subst Q (let same : lbn ≡ x = omega arith in same) both.0
      ]
