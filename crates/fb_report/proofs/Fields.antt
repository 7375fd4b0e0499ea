-- Lines of fields are split into their fields again.
use Rattle.fb_report.proofs.Words.{and_parts, ◌≡◌, ℕ, ◌≤◌, List, [], ◌∷◌, ◌++◌, Bool, true, false, refl, sym, ap, ◌∙◌, arith, append_assoc}
use Rattle.fb_report.proofs.Words.{append-nil, inl, inr, ◌&&◌, ◌==◌, nat_lt, not, AllByRecursion, flat_map, list_all, list_any, slice_split}
use Rattle.fb_report.proofs.Words.{nat_tests, or-true, list_any-append, line_of, with_fields, Grammar, Form, have_forms, report_fields}
use Rattle.fb_report.proofs.Words.{ended, AreFields, AreOneOf, IsLine, is_first, is_row, is_last}
use Rattle.fb_report.proofs.ReadBack.{split_at, split_none}

abbrev pub plain : ℕ → Bool
plain byte = nat_lt 32 byte

apart : (stop byte : ℕ) → stop ≤ 32 → plain byte ≡ true → (byte == stop) ≡ false
apart stop byte low is = grind (arith, nat_tests)

-- a field has neither spaces nor line feeds
pub none_in : (stop : ℕ) (field : List ℕ) → stop ≤ 32 → list_all plain field ≡ true → list_any (λ byte. byte == stop) field ≡ false
none_in stop [] low is = refl
none_in stop (byte ∷ bytes) low is = let both = and_parts (plain byte) (list_all plain bytes) is in
    rw (apart stop byte low both.0, none_in stop bytes low both.1) refl

-- the fields behind the first, each behind a space
abbrev spaced : List (List ℕ) → List ℕ
spaced fields = flat_map (λ field. 32 ∷ field) fields

with_spaced : (line : List ℕ) (fields : List (List ℕ)) → with_fields line fields ≡ line ++ spaced fields
with_spaced line [] = sym (append-nil line)
with_spaced line (field ∷ fields) = with_spaced (line ++ 32 ∷ field) fields ∙ append_assoc line (32 ∷ field) (spaced fields)

-- no field has anything up to the space in it
abbrev AreWhole : List (List ℕ) → Type 0
AreWhole fields = AllByRecursion (λ field. list_all plain field ≡ true) fields

split_fields : (first : List ℕ) (fields : List (List ℕ)) → AreWhole (first ∷ fields)
    → slice_split (λ byte. byte == 32) (first ++ spaced fields) ≡ first ∷ fields
split_fields first [] whole = ap (slice_split (λ byte. byte == 32)) (append-nil first)
    ∙ split_none (λ byte. byte == 32) first (none_in 32 first (omega arith) whole.0)
split_fields first (field ∷ fields) whole =
    split_at (λ byte. byte == 32) first 32 (field ++ spaced fields) (none_in 32 first (omega arith) whole.0) refl
    ∙ ap (λ parts. first ∷ parts) (split_fields field fields whole.1)

no_feed : (first : List ℕ) (fields : List (List ℕ)) → AreWhole (first ∷ fields)
    → list_any (λ byte. byte == 10) (first ++ spaced fields) ≡ false
no_feed first [] whole = ap (list_any (λ byte. byte == 10)) (append-nil first) ∙ none_in 10 first (omega arith) whole.0
no_feed first (field ∷ fields) whole =
    list_any-append (λ byte. byte == 10) first (spaced (field ∷ fields))
    ∙ rw (none_in 10 first (omega arith) whole.0, no_feed field fields whole.1) refl

-- a line of whole fields passes a test that its fields pass
in_line : (test : List ℕ → Bool) (passes : List (List ℕ) → Bool) → ((line : List ℕ) → test line ≡ passes (report_fields line))
    → (first : List ℕ) (fields : List (List ℕ)) → AreWhole (first ∷ fields)
    → passes (first ∷ fields) ≡ true → IsLine test (line_of first fields)
in_line test passes same first fields whole pass = record {
  part = first ++ spaced fields;
  is_ended = ap ended (with_spaced first fields);
  whole = no_feed first fields whole;
  passes = same (first ++ spaced fields) ∙ (ap passes (split_fields first fields whole) ∙ pass);
}

whole_fields : (forms : List Form) (fields : List (List ℕ)) → AreFields forms fields → AreWhole fields
whole_fields [] [] are = tt
whole_fields [] (field ∷ fields) are = absurd are
whole_fields (form ∷ forms) [] are = absurd are
whole_fields (form ∷ forms) (field ∷ fields) are = (are.0.whole, whole_fields forms fields are.1)

have : (forms : List Form) (fields : List (List ℕ)) → AreFields forms fields → have_forms forms fields ≡ true
have [] [] are = refl
have [] (field ∷ fields) are = absurd are
have (form ∷ forms) [] are = absurd are
have (form ∷ forms) (field ∷ fields) are = rw (are.0.fits, have forms fields are.1) refl

whole_one : (rows : List (List Form)) (fields : List (List ℕ)) → AreOneOf rows fields → AreWhole fields
whole_one [] fields are = absurd are
whole_one (forms ∷ rows) fields (inl are) = whole_fields forms fields are
whole_one (forms ∷ rows) fields (inr are) = whole_one rows fields are

one_of : (rows : List (List Form)) (fields : List (List ℕ)) → AreOneOf rows fields → list_any (λ forms. have_forms forms fields) rows ≡ true
one_of [] fields are = absurd are
one_of (forms ∷ rows) fields (inl are) = rw (have forms fields are) refl
one_of (forms ∷ rows) fields (inr are) = rw (one_of rows fields are) (or-true (have_forms forms fields))

module _ (grammar : Grammar) (first : List ℕ) (fields : List (List ℕ)) where
  pub in_first : AreFields grammar.first (first ∷ fields) → IsLine (is_first grammar) (line_of first fields)
  in_first are = in_line (is_first grammar) (have_forms grammar.first) (λ line. refl) first fields (whole_fields grammar.first
      (first ∷ fields) are) (have grammar.first (first ∷ fields) are)

  pub in_row : AreOneOf grammar.rows (first ∷ fields) → IsLine (is_row grammar) (line_of first fields)
  in_row are = in_line (is_row grammar) (λ parts. list_any (λ forms. have_forms forms parts) grammar.rows) (λ line. refl) first fields
      (whole_one grammar.rows (first ∷ fields) are) (one_of grammar.rows (first ∷ fields) are)

  -- a last line whose fields are those of no row
  pub in_last : AreFields grammar.last (first ∷ fields) → list_any (λ forms. have_forms forms (first ∷ fields)) grammar.rows ≡ false
      → IsLine (is_last grammar) (line_of first fields)
  in_last are none = in_line (is_last grammar)
      (λ parts. have_forms grammar.last parts && not (list_any (λ forms. have_forms forms parts) grammar.rows)) (λ line. refl) first fields
      (whole_fields grammar.last (first ∷ fields) are) (rw (have grammar.last (first ∷ fields) are, none) refl)
