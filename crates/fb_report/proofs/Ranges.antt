-- Going over a list or a range part by part.
use Rattle.std.proofs.lemmas.List.Concat.{flat_map-append}
use Rattle.fb_units.proofs.Comparing.{zero_add}
use Rattle.fb_units.proofs.Lists.{take_at}
use Rattle.fb_report.proofs.Words.{◌≡◌, ℕ, zero, suc, ◌+◌, List, [], ◌∷◌, ◌++◌, sym, ap, ◌∙◌, arith, append_assoc}
use Rattle.fb_report.proofs.Words.{append-nil, take, Some, slice_get, flat_map, range_with_len, sum_by, sum_by-append}

range_push : (a n : ℕ) → range_with_len a (suc n) ≡ range_with_len a n ++ (a + n) ∷ []
range_push a zero = ap (λ x. x ∷ []) (omega arith)
range_push a (suc n) = ap (λ xs. a ∷ xs) (range_push (a + 1) n ∙ ap (λ x. range_with_len (a + 1) n ++ x ∷ []) (omega arith))

next : (i : ℕ) → i + 1 ≡ suc i
next i = omega arith

joined : {X : Type 0} (f : X → List ℕ) (before part : List ℕ) (xs ys : List X) (x : X) → ys ≡ xs ++ x ∷ [] → part ≡ f x
    → (before ++ flat_map f xs) ++ part ≡ before ++ flat_map f ys
joined f before part xs ys x more is =
    append_assoc before (flat_map f xs) part
    ∙ ap (λ p. before ++ (flat_map f xs ++ p)) (is ∙ sym (append-nil (f x)))
    ∙ ap (λ p. before ++ p) (sym (ap (flat_map f) more ∙ flat_map-append f xs (x ∷ [])))

-- the part of one number more
pub counted : (f : ℕ → List ℕ) (before part : List ℕ) (i : ℕ) → part ≡ f i
    → (before ++ flat_map f (range_with_len 0 i)) ++ part ≡ before ++ flat_map f (range_with_len 0 (i + 1))
counted f before part i is = joined f before part (range_with_len 0 i) (range_with_len 0 (i + 1)) i (ap (range_with_len 0) (next i)
    ∙ (range_push 0 i ∙ ap (λ x. range_with_len 0 i ++ x ∷ []) (zero_add i))) is

-- the part of one element more
pub taken : {X : Type 0} (f : X → List ℕ) (before part : List ℕ) (xs : List X) (i : ℕ) (x : X) → slice_get xs i ≡ Some x → part ≡ f x
    → (before ++ flat_map f (take i xs)) ++ part ≡ before ++ flat_map f (take (i + 1) xs)
taken f before part xs i x at is =
    joined f before part (take i xs) (take (i + 1) xs) x (take_at xs i x at) is

-- the sum with one element more
pub sum_more : {X : Type 0} (f : X → ℕ) (xs : List X) (i : ℕ) (x : X) → slice_get xs i ≡ Some x
    → sum_by f (take (i + 1) xs) ≡ sum_by f (take i xs) + f x
sum_more f xs i x at = ap (sum_by f) (take_at xs i x at) ∙ sum_by-append f (take i xs) (x ∷ []) ∙ omega arith
