-- What is left of a list begins with this element.
use Rattle.fb_maker.proofs.Words.{◌≡◌, ℕ, ◌+◌, ◌<◌, List, ◌∷◌, length, drop, get_or, sym, ap, ◌∙◌, arith, Some, slice_get, length-drop}
use Rattle.fb_maker.proofs.Words.{drop_more, get_or-drop, slice_get-get_or}

module _ {A : Type 0} (all : List A) (i : ℕ) (a : A) (rest : List A) (left : drop i all ≡ a ∷ rest) where
  left_inside : i < length all
  left_inside = omega (arith, length-drop i all, ap length left)

  pub left_first : (d : A) → get_or all i d ≡ a
  left_first d = let same : i ≡ i + 0 = omega arith in
      ap (λ n. get_or all n d) same ∙ sym (get_or-drop i all 0 d) ∙ ap (λ l. get_or l 0 d) left

  pub left_get : slice_get all i ≡ Some a
  left_get = slice_get-get_or all i a left_inside ∙ ap Some (left_first a)

  pub left_rest : drop (i + 1) all ≡ rest
  left_rest = ap (drop 1) (sym (drop_more all i a left_inside) ∙ left)
