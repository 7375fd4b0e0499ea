-- What a report that was read says of its text and of its lines.
use Rattle.fb_report.proofs.Words.{◌≡◌, ℕ, ◌+◌, ◌<◌, List, [], ◌∷◌, ◌++◌, ◌⊎◌, inl, inr, length, true, refl, sym, ap, ◌∙◌, arith}
use Rattle.fb_report.proofs.Words.{append_assoc, append-nil, Result, Ok, Err, IfOk, ◌==◌, slice_split, flat_map, join_with_byte, cases_Bool}
use Rattle.fb_report.proofs.Words.{join_with_byte-slice_split, Input, ReportsFault, ReadError, AnswersReport, Grammar, LineFields}
use Rattle.fb_report.proofs.Words.{may_follow, may_end, report_fields, spelled}
use Rattle.fb_report.proofs.Words.{ended_with, lines_behind, report_of}
use Rattle.std.proofs.lemmas.Grind.{flat_map-append}
use Rattle.fb_report.proofs.Behind.{row_read, end_read, fault_read, spelled_again}

-- only an empty rest ends a report
ended_whole : (lines : List LineFields) (line : LineFields) (next : List ℕ) (parts : List (List ℕ)) (all : List LineFields)
    → ended_with lines line (next ∷ parts) ≡ Ok all → (next ∷ parts ≡ [] ∷ []) × (all ≡ lines ++ line ∷ [])
ended_whole lines line [] [] all h = (refl, cc)
ended_whole lines line [] (other ∷ parts) all h = absurd (cc)
ended_whole lines line (byte ∷ bytes) [] all h = absurd (cc)
ended_whole lines line (byte ∷ bytes) (other ∷ parts) all h = absurd (cc)

-- a line that was read is a row, with the others behind it, or the end
pub record IsRow (grammar : Grammar) (lines : List LineFields) (line : List ℕ) (parts : List (List ℕ))
    (all : List LineFields) : Type 0 where
  pub follows : may_follow grammar lines (report_fields line) ≡ true
  pub others : lines_behind grammar (lines ++ report_fields line ∷ []) parts ≡ Ok all

pub record IsEnd (grammar : Grammar) (lines : List LineFields) (line : List ℕ) (parts : List (List ℕ))
    (all : List LineFields) : Type 0 where
  pub ends : may_end grammar lines (report_fields line) ≡ true
  pub nothing : parts ≡ [] ∷ []
  pub whole : all ≡ lines ++ report_fields line ∷ []

pub row_or_end : (grammar : Grammar) (lines : List LineFields) (line next : List ℕ) (parts : List (List ℕ)) (all : List LineFields)
    → lines_behind grammar lines (line ∷ next ∷ parts) ≡ Ok all
    → IsRow grammar lines line (next ∷ parts) all ⊎ IsEnd grammar lines line (next ∷ parts) all
row_or_end grammar lines line next parts all h =
    let some : 0 < length (next ∷ parts) = omega arith in
    elim (cases_Bool (may_follow grammar lines (report_fields line))) [
      | inl follows ↦ inl (record { follows = follows; others = sym (row_read grammar lines line (next ∷ parts) some follows) ∙ h })
      | inr other ↦ elim (cases_Bool (may_end grammar lines (report_fields line))) [
        | inl ends ↦
            let last = ended_whole lines (report_fields line) next parts all
            (sym (end_read grammar lines line (next ∷ parts) some other ends) ∙ h) in
            inr (record { ends = ends; nothing = last.0; whole = last.1 })
        | inr unended ↦ let wrong : Err (length lines + 1) ≡ Ok all = sym (fault_read grammar lines line (next ∷ parts) other unended)
            ∙ h in absurd (cc)
      ]
    ]

-- a line more of the text
line_more : (before line rest : List ℕ) → (before ++ (spelled (report_fields line) ++ [])) ++ rest ≡ before ++ (line ++ 10 ∷ rest)
line_more before line rest = rw (spelled_again line) (simp (append_assoc, append-nil))

-- the lines with their line feeds are the text
text_of : (grammar : Grammar) (lines : List LineFields) (parts : List (List ℕ)) (all : List LineFields)
    → lines_behind grammar lines parts ≡ Ok all → flat_map spelled all ≡ flat_map spelled lines ++ join_with_byte 10 parts
unfolding lines_behind
text_of grammar lines [] all h = absurd (cc)
text_of grammar lines (rest ∷ []) all h = absurd (cc)
text_of grammar lines (line ∷ next ∷ parts) all h = elim (row_or_end grammar lines line next parts all h) [
  | inl row ↦ text_of grammar (lines ++ report_fields line ∷ []) (next ∷ parts) all row.others
      ∙ ap (λ text. text ++ join_with_byte 10 (next ∷ parts)) (flat_map-append spelled lines (report_fields line ∷ []))
      ∙ line_more (flat_map spelled lines) line (join_with_byte 10 (next ∷ parts))
  | inr end ↦ ap (flat_map spelled) end.whole
      ∙ flat_map-append spelled lines (report_fields line ∷ [])
      ∙ ap (λ text. flat_map spelled lines ++ text) (append-nil (spelled (report_fields line)) ∙ spelled_again line)
      ∙ sym (ap (λ parts. flat_map spelled lines ++ (line ++ 10 ∷ join_with_byte 10 parts)) end.nothing)
]

pub whole_text : (grammar : Grammar) (report : Input) (text : List ℕ) (answer : Result (List LineFields) (ReadError ReportsFault))
    → AnswersReport report answer (report_of grammar text)
    → IfOk answer (λ lines. flat_map spelled lines ≡ text)
whole_text grammar report text (Ok lines) h =
    text_of grammar [] (slice_split (λ byte. byte == 10) text) lines h ∙ join_with_byte-slice_split 10 text
whole_text grammar report text (Err error) h = tt
