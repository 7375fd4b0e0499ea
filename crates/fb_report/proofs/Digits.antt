-- Hexadecimal digits of bytes one after another.
use Rattle.fb_report.proofs.Words.{◌≡◌, ℕ, ◌+◌, ◌<◌, List, [], ◌∷◌, ◌++◌, length, refl, sym, ap, ◌∙◌, append_assoc, drop, get_or, drop_more}
use Rattle.fb_report.proofs.Words.{encode_lower, encode_with}

with-append : (t xs ys : List ℕ) → encode_with t (xs ++ ys) ≡ encode_with t xs ++ encode_with t ys
unfolding encode_with
with-append t [] ys = refl
with-append t (x ∷ xs) ys = rw (with-append t xs ys) refl

pub lower-append : (xs ys : List ℕ) → encode_lower (xs ++ ys) ≡ encode_lower xs ++ encode_lower ys
lower-append xs ys = with-append _ xs ys

-- the digits of one byte more
pub digits_more : (bytes before now : List ℕ) (i byte d : ℕ) (whole : List ℕ) → i < length bytes → byte ≡ get_or bytes i d
    → before ++ encode_lower (drop i bytes) ≡ whole → now ≡ before ++ encode_lower (byte ∷ [])
    → now ++ encode_lower (drop (i + 1) bytes) ≡ whole
digits_more bytes before now i byte d whole within is so_far more =
    ap (λ xs. xs ++ encode_lower (drop (i + 1) bytes)) more
    ∙ append_assoc before (encode_lower (byte ∷ [])) (encode_lower (drop (i + 1) bytes))
    ∙ ap (λ xs. before ++ xs) (sym (lower-append (byte ∷ []) (drop (i + 1) bytes)) ∙ ap (λ x. encode_lower (x ∷ drop (i + 1) bytes)) is
    ∙ ap encode_lower (sym (drop_more bytes i d within)))
    ∙ so_far

pub no_digits : (text : List ℕ) → text ≡ [] → text ≡ encode_lower []
unfolding encode_with
no_digits text e = e
