-- No block is longer than the block size.
use Rattle.std.proofs.Common.{◌≡◌, ℕ, zero, suc, ◌+◌, ◌*◌, ◌/◌, ◌%◌, ◌<◌, ◌≤◌, List, [], ◌∷◌, length, inl, inr, sym, ap, ◌∙◌, arith}
use Rattle.std.proofs.Math.Nat.{mod-add-mod, mod-lt, mod-eq_of_lt, mod_self, div-le_of_le-mul}
use Rattle.std.proofs.lemmas.Bool.{cases_Bool, cases_lt}
use Rattle.std.proofs.lemmas.Bool.Decides.{nat_tests}
use Rattle.fb_geometry.specs.Shape.{Shape}
use Rattle.fb_sectormap.specs.declared.cut.Cut.{Cut}
use Rattle.fb_sectormap.specs.Cutting.{is_cut_before, with_sector, cutting}

module _ (disk : Shape) (block : ℕ) (some : 0 < block) where
  -- a sector that isn't at a multiple of the block size is one further behind the last multiple
  next_rest : (lbn : ℕ) → ((lbn + 1) % block ≡ 0 → ⊥) → lbn % block + 1 ≤ (lbn + 1) % block
  next_rest lbn no_multiple = elim (cases_lt (lbn % block + 1) block) [
    | inl less ↦ let same = sym (mod-add-mod lbn block 1) ∙ mod-eq_of_lt less in omega arith
    | inr more ↦
        let whole : lbn % block + 1 ≡ block = let rest = mod-lt lbn some in omega arith in
        absurd (no_multiple (sym (mod-add-mod lbn block 1) ∙ ap (λ n. n % block) whole ∙ mod_self block))
  ]

  -- a sector before blocks that hold so many sectors
  one_more : (lbn n : ℕ) (cuts : List Cut) → n + (lbn + 1) % block ≤ block * length cuts
      → suc n + lbn % block ≤ block * length (with_sector disk block lbn cuts)
  one_more lbn n [] held = let rest = mod-lt lbn some in omega arith
  one_more lbn n (cut ∷ cuts) held = elim (cases_Bool (is_cut_before disk block (lbn + 1))) [
    | inl here ↦ rw here (let rest = mod-lt lbn some in let next = mod-lt (lbn + 1) some in
        let more : block * (1 + length (cut ∷ cuts)) ≡ block + block * length (cut ∷ cuts) = omega arith in omega arith)
    | inr goes_on ↦ rw goes_on (let step = next_rest lbn (λ multiple. absurd (grind (arith, nat_tests))) in omega arith)
  ]

  -- the blocks of a range hold its sectors, and those before it up to a multiple
  hold : (n lbn : ℕ) → suc n + lbn % block ≤ block * length (cutting disk block lbn (suc n))
  unfolding cutting
  hold zero lbn = let rest = mod-lt lbn some in omega arith
  hold (suc n) lbn = one_more lbn (suc n) (cutting disk block (lbn + 1) (suc n)) (hold n (lbn + 1))

  -- a range is cut into at least as many blocks as it has whole block sizes
  pub at_least : (lbn n : ℕ) → n / block ≤ length (cutting disk block lbn n)
  unfolding cutting
  at_least lbn zero = div-le_of_le-mul block (omega arith)
  at_least lbn (suc n) = div-le_of_le-mul block (let h = hold n lbn in omega arith)
