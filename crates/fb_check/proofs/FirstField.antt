-- The first field in which two lines differ.
use Rattle.fb_check.proofs.Words.{◌≡◌, ◌≢◌, ℕ, suc, ◌+◌, ◌≤◌, List, [], ◌∷◌, length, true≢false, refl, ap, sym, subst, ◌∙◌, arith, inl}
use Rattle.fb_check.proofs.Words.{inr, zip, join_with_byte, bytes_eq, cases_Bool, join_with_byte-slice_split, bytes_eq-Decides, LineFields}
use Rattle.fb_check.proofs.Words.{report_fields}
use Rattle.std.specs.List.{prefix_len}
use Rattle.fb_check.specs.Verdict.{DifferFirstAt}

-- how many fields at the front are the same
abbrev pub agreeing : List (List ℕ) → List (List ℕ) → ℕ
agreeing xs ys = prefix_len (λ p. bytes_eq p.0 p.1) (zip xs ys)

differ_behind : (n : ℕ) (x y : List ℕ) (xs ys : List (List ℕ)) → x ≡ y → DifferFirstAt n xs ys → DifferFirstAt (1 + n) (x ∷ xs) (y ∷ ys)
differ_behind n x y xs ys same h = let next : suc n ≡ 1 + n = omega arith in
    subst (λ m. DifferFirstAt m (x ∷ xs) (y ∷ ys)) next (record { before = let front = h.before in cc; there = h.there })

pub differ_at : (xs ys : List (List ℕ)) → xs ≢ ys → DifferFirstAt (agreeing xs ys) xs ys
differ_at [] [] differ = absurd (differ refl)
differ_at [] (y ∷ ys) differ = record { before = refl; there = λ e. cc }
differ_at (x ∷ xs) [] differ = record { before = refl; there = λ e. cc }
differ_at (x ∷ xs) (y ∷ ys) differ = elim (cases_Bool (bytes_eq x y)) [
  | inl same ↦ rw same (differ_behind _ x y xs ys ((bytes_eq-Decides x y).0 same)
      (differ_at xs ys (λ e. differ (let one = (bytes_eq-Decides x y).0 same in cc))))
  | inr other ↦ rw other (record {
    before = refl;
    there = λ e. true≢false (sym ((bytes_eq-Decides x y).1 (let same : x ≡ y = cc e in same)) ∙ other);
  })
]

pub few_agree : (xs ys : List (List ℕ)) → agreeing xs ys ≤ length ys
few_agree [] ys = omega arith
few_agree (x ∷ xs) [] = omega arith
few_agree (x ∷ xs) (y ∷ ys) = elim (cases_Bool (bytes_eq x y)) [
  | inl same ↦ rw same (omega (arith, few_agree xs ys))
  | inr other ↦ rw other (omega arith)
]

-- the fields of a due line aren't printed ones that join to another line
pub fields_differ : (due : List ℕ) (printed : LineFields) → due ≢ join_with_byte 32 printed → report_fields due ≢ printed
fields_differ due printed other = λ same. other (sym (join_with_byte-slice_split 32 due) ∙ ap (join_with_byte 32) same)
