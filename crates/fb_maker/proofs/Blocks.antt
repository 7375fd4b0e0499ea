-- Into how many blocks the first sectors of a disk are cut.
use Rattle.fb_maker.proofs.Words.{◌≡◌, ℕ, zero, suc, ◌+◌, ◌-◌, ◌*◌, ◌%◌, ◌<◌, ◌≤◌, List, [], ◌∷◌, length, take, drop, true, false, refl, ap}
use Rattle.fb_maker.proofs.Words.{◌∙◌, arith, inl, inr, ◌==◌, cases_Bool, nat_tests, Place, Shape, places, is_later, is_cut_before}
use Rattle.fb_maker.proofs.Words.{with_sector, cutting}
use Rattle.fb_sectormap.specs.declared.cut.Cut.{Cut}
use Rattle.fb_sectormap.specs.LookUp.{place_at}
use Rattle.fb_maker.proofs.{Left.left_first, Left.left_rest, Breaks.breaks_from, Breaks.IsSpread}

module _ (disk : Shape) where
  -- the place at the front of what is left
  at_front : (lbn : ℕ) (a : Place) (xs : List Place) → drop lbn (places disk) ≡ a ∷ xs → place_at disk lbn ≡ a
  unfolding place_at
  at_front lbn a xs left = left_first (places disk) lbn a xs left _

  some_blocks : (lbn : ℕ) (cuts : List Cut) → 0 < length (with_sector disk 16 lbn cuts)
  some_blocks lbn [] = omega arith
  some_blocks lbn (cut ∷ cuts) = elim (cases_Bool (is_cut_before disk 16 (lbn + 1))) [
    | inl here ↦ rw here (omega arith)
    | inr on ↦ rw on (omega arith)
  ]

  one_more : (lbn : ℕ) (cuts : List Cut) → 0 < length cuts → length (with_sector disk 16 lbn cuts) ≤ 1 + length cuts
  one_more lbn [] some = absurd (omega arith)
  one_more lbn (cut ∷ cuts) some = elim (cases_Bool (is_cut_before disk 16 (lbn + 1))) [
    | inl here ↦ rw here (omega arith)
    | inr on ↦ rw on (omega arith)
  ]

  no_more : (lbn : ℕ) (cuts : List Cut) → 0 < length cuts → is_cut_before disk 16 (lbn + 1) ≡ false
      → length (with_sector disk 16 lbn cuts) ≤ length cuts
  no_more lbn [] some on = absurd (omega arith)
  no_more lbn (cut ∷ cuts) some on = rw on (omega arith)

  goes_on : (lbn : ℕ) (a b : Place) → place_at disk lbn ≡ a → place_at disk (lbn + 1) ≡ b → ((lbn + 1) % 16 == 0) ≡ false
      → is_later disk a b ≡ true → is_cut_before disk 16 (lbn + 1) ≡ false
  goes_on lbn a b at next no_multiple later =
      let same : lbn + 1 - 1 ≡ lbn = omega arith in
      let held : is_later disk (place_at disk (lbn + 1 - 1)) (place_at disk (lbn + 1)) ≡ true =
      ap (λ n. is_later disk (place_at disk n) (place_at disk (lbn + 1))) same ∙ ap (λ p. is_later disk p (place_at disk (lbn + 1))) at
      ∙ ap (is_later disk a) next ∙ later in
      rw (no_multiple, held) refl

  -- a block begins at each multiple of sixteen, and at each break
  counted : (k lbn : ℕ) (a : Place) (xs : List Place) → drop lbn (places disk) ≡ a ∷ xs → k ≤ length xs
      → 16 * length (cutting disk 16 lbn (suc k)) ≤ 16 + k + lbn % 16 + 16 * breaks_from (is_later disk) a (take k xs)
  unfolding cutting
  counted zero lbn a xs left within = omega arith
  counted (suc k) lbn a [] left within = absurd (omega arith)
  counted (suc k) lbn a (b ∷ xs) left within =
      let rest = left_rest (places disk) lbn a (b ∷ xs) left in
      let cuts = cutting disk 16 (lbn + 1) (suc k) in
      let some = some_blocks (lbn + 1) (cutting disk 16 (lbn + 1 + 1) k) in
      let fewer = counted k (lbn + 1) b xs rest (omega arith) in
      let more = one_more lbn cuts some in
      elim (cases_Bool ((lbn + 1) % 16 == 0)) [
        | inl multiple ↦
            let whole : (lbn + 1) % 16 ≡ 0 = grind (arith, nat_tests) in
            omega arith
        | inr no_multiple ↦
            let part : ((lbn + 1) % 16 ≡ 0 → ⊥) = λ e. absurd (grind (arith, nat_tests)) in
            elim (cases_Bool (is_later disk a b)) [
              | inl later ↦ rw later (let same = no_more lbn cuts some (goes_on lbn a b (at_front lbn a (b ∷ xs) left)
                  (at_front (lbn + 1) b xs rest) no_multiple later) in omega arith)
              | inr breaks ↦ rw breaks (omega arith)
            ]
      ]

  few_of : (n : ℕ) (all : List Place) → places disk ≡ all → IsSpread (is_later disk) all → n ≤ length all
      → 16 * length (cutting disk 16 0 n) ≤ 2 * n + 30
  unfolding cutting
  few_of zero all is spread within = omega arith
  few_of (suc k) [] is spread within = absurd (omega arith)
  few_of (suc k) (a ∷ xs) is spread within = let most = counted k 0 a xs is (omega arith) in let few = spread a (suc k) in omega arith

  -- with at least sixteen sectors a track, n sectors are cut into at most (2 n + 30) / 16 blocks
  pub few_blocks : (n : ℕ) → IsSpread (is_later disk) (places disk) → n ≤ length (places disk)
      → 16 * length (cutting disk 16 0 n) ≤ 2 * n + 30
  few_blocks n spread within = few_of n (places disk) refl spread within

  add_one : (lbn : ℕ) (cuts : List Cut) → length (with_sector disk 16 lbn cuts) ≤ 1 + length cuts
  add_one lbn [] = omega arith
  add_one lbn (cut ∷ cuts) = one_more lbn (cut ∷ cuts) (omega arith)

  -- on any disk there are no more blocks than sectors
  pub no_more_blocks : (n lbn : ℕ) → length (cutting disk 16 lbn n) ≤ n
  unfolding cutting
  no_more_blocks zero lbn = omega arith
  no_more_blocks (suc n) lbn = let rest = no_more_blocks n (lbn + 1) in let more = add_one lbn (cutting disk 16 (lbn + 1) n) in omega arith
