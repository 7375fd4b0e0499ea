-- A text is cut at the first byte that passes a test.
use Rattle.fb_report.proofs.Words.{◌≡◌, ℕ, ◌+◌, ◌-◌, ◌<◌, ◌≤◌, List, [], ◌∷◌, Bool, length, take, drop, arith, length-drop, sym, ap, ◌∙◌}
use Rattle.fb_report.proofs.Words.{slice_split, position_or_len, take_all, slice_split_first, slice_split_none}
use Rattle.fb_report.proofs.Words.{fails_before_first, onto_first, ◌==◌, true, false, refl, report_fields, length-slice_split}
use Rattle.fb_report.proofs.Words.{slice_split-cons_no, slice_split-cons_yes, ◌≢◌, nat_tests, Option, Some, None, LineFields, listed}
use Rattle.fb_report.specs.declared.grammar.Fields.{Fields}

module _ (p : ℕ → Bool) (text : List ℕ) (index : ℕ) (at : index ≡ position_or_len p text) where
  -- the part before that byte, and the parts behind it
  pub cut_at : index < length text
      → slice_split p text ≡ take index text ∷ slice_split p (take (length text - (index + 1)) (drop (index + 1) text))
  cut_at inside =
      let whole : take (length text - (index + 1)) (drop (index + 1) text) ≡ drop (index + 1) text =
      take_all (length text - (index + 1)) (drop (index + 1) text) (omega (arith, length-drop (index + 1) text)) in
      slice_split_first p text 0 (omega arith)
      ∙ ap (λ i. take i text ∷ slice_split p (drop (i + 1) text)) (sym at)
      ∙ ap (λ rest. take index text ∷ slice_split p rest) (sym whole)

  -- there is no such byte
  pub cut_nowhere : length text ≤ index → slice_split p text ≡ text ∷ []
  cut_nowhere past = slice_split_none p text (λ k d low. fails_before_first p text k d (omega arith))

-- how many fields a line has with one byte more at the front
module _ (byte : ℕ) (rest : List ℕ) where
  pub space_more : byte ≡ 32 → length (report_fields (byte ∷ rest)) ≡ length (report_fields rest) + 1
  space_more is = let space : (byte == 32) ≡ true = grind (arith, nat_tests) in
      ap length (slice_split-cons_yes (λ byte. byte == 32) byte rest space) ∙ omega arith

  onto_length : (parts : List (List ℕ)) → 0 < length parts → length (onto_first byte parts) ≡ length parts
  onto_length [] some = absurd (omega arith)
  onto_length (part ∷ parts) some = refl

  pub other_more : byte ≢ 32 → length (report_fields (byte ∷ rest)) ≡ length (report_fields rest)
  other_more is = let other : (byte == 32) ≡ false = grind (arith, nat_tests) in
      ap length (slice_split-cons_no (λ byte. byte == 32) byte rest other)
      ∙ onto_length (report_fields rest) (omega (arith, length-slice_split (λ byte. byte == 32) rest))

-- the fields that are left
abbrev pub listed_left : Option Fields → LineFields
listed_left None = []
listed_left (Some fields) = listed fields
