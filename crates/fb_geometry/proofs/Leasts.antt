-- Orders of places and tracks, and the least of a list.
use Rattle.fb_units.proofs.Among.{Among, among-tail}
use Rattle.fb_units.proofs.Lists.{all_get}
use Rattle.fb_units.proofs.Tracks.{same_tracks}
use Rattle.fb_geometry.proofs.Words.{Bool, IsStrictWeakOrder, List, None, Option, Pairwise, Some, [], ap, arith, false, inl, inr}
use Rattle.fb_geometry.proofs.Words.{is_mark_before, is_place_before, is_track_before, least, lesser, nat_lt, nat_tests, none-some, refl}
use Rattle.fb_geometry.proofs.Words.{same_Some, slice_get, suc, sym, zero, ◌∙◌, ◌∷◌, ◌≡◌, ◌⊎◌}
use Rattle.fb_geometry.proofs.{Laws.same_places}

-- what a test of an order keeps
pub record IsOrder {A : Type 0} (before : A → A → Bool) : Type 0 where
  pub apart : (a : A) → before a a ≡ false
  pub total : (a b : A) → before a b ≡ false → before b a ≡ false → a ≡ b

pub track_order : IsOrder is_track_before
track_order = record { apart = λ a. grind (arith, nat_tests); total = λ a b h k. same_tracks a b (grind (arith, nat_tests)) }

pub place_order : IsOrder is_place_before
place_order = record { apart = λ a. grind (arith, nat_tests); total = λ a b h k. same_places a b (grind (arith, nat_tests)) }

pub number_order : IsOrder nat_lt
number_order = record { apart = λ a. grind (arith, nat_tests); total = λ a b h k. grind (arith, nat_tests) }

pub places_rank : IsStrictWeakOrder is_place_before
places_rank = record { one_way = λ a b h. grind (arith, nat_tests); chain = λ a b c h k. grind (arith, nat_tests) }

pub marks_rank : IsStrictWeakOrder is_mark_before
marks_rank = record { one_way = λ a b h. grind (arith, nat_tests); chain = λ a b c h k. grind (arith, nat_tests) }

-- ---- elements

lesser_is : {A : Type 0} (before : A → A → Bool) → IsOrder before → (y x : A) (o : Option A) → ((z : A) → o ≡ Some z → before z x ≡ false)
    → before y x ≡ false → (y ≡ x) ⊎ (o ≡ Some x) → lesser before y o ≡ Some x
lesser_is before order y x None all not_before (inl same) = ap Some same
lesser_is before order y x None all not_before (inr at) = absurd (none-some x at)
lesser_is before order y x (Some z) all not_before (inl same) = rw (ap (before z) same ∙ all z refl) (ap Some same)
lesser_is before order y x (Some z) all not_before (inr at) = grind (arith, order.total y x not_before)

lesser_from : {A : Type 0} (before : A → A → Bool) (y z : A) (o : Option A) → lesser before y o ≡ Some z → (y ≡ z) ⊎ (o ≡ Some z)
lesser_from before y z None e = inl (same_Some y z e)
lesser_from before y z (Some x) e = grind arith

least_among : {A : Type 0} (before : A → A → Bool) (xs : List A) (z : A) → least before xs ≡ Some z → Among xs z
least_among before [] z e = absurd (none-some z e)
least_among before (y ∷ xs) z e = elim (lesser_from before y z (least before xs) e) [
  | inl here ↦ (0, ap Some here)
  | inr later ↦ among-tail y z xs (least_among before xs z later)
]

-- none is before one that is the least
least-is : {A : Type 0} (before : A → A → Bool) → IsOrder before → (xs : List A) (x : A) → Among xs x
    → ((y : A) → Among xs y → before y x ≡ false) → least before xs ≡ Some x
least-is before order [] x at first = absurd (none-some x at.1)
least-is before order (y ∷ xs) x (zero, at) first =
    lesser_is before order y x (least before xs) (λ z e. first z (among-tail y z xs (least_among before xs z e)))
    (first y (0, refl)) (inl (same_Some y x at))
least-is before order (y ∷ xs) x (suc k, at) first =
    lesser_is before order y x (least before xs) (λ z e. first z (among-tail y z xs (least_among before xs z e))) (first y (0, refl))
    (inr (least-is before order xs x (k, at) (λ z one. first z (among-tail y z xs one))))

-- the least of a list is the head of one that has the same elements in order
pub least-head : {A : Type 0} (before : A → A → Bool) → IsOrder before → (xs ys : List A) → ((x : A) → Among xs x → Among ys x)
    → ((x : A) → Among ys x → Among xs x)
    → Pairwise (λ x later. before later x ≡ false) ys → least before xs ≡ slice_get ys 0
least-head before order [] [] to from up = refl
least-head before order (x ∷ xs) [] to from up = absurd (none-some x (to x (0, refl)).1)
least-head {A = A} before order xs (y ∷ ys) to from up = least-is before order xs y (from y (0, refl)) (λ z one. behind z (to z one))
  where
    behind : (z : A) → Among (y ∷ ys) z → before z y ≡ false
    behind z (zero, at) = ap (λ z. before z y) (sym (same_Some y z at)) ∙ order.apart y
    behind z (suc k, at) = all_get (λ later. before later y ≡ false) ys k z up.0 at

-- ---- what is among a list that is made of others
