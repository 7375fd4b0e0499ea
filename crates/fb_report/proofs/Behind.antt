-- The lines behind those that were read.
use Rattle.fb_report.proofs.Words.{◌≡◌, ℕ, ◌+◌, ◌<◌, List, [], ◌∷◌, ◌++◌, length, Bool, true, false, refl, sym, ap, ◌∙◌, arith, subst}
use Rattle.fb_report.proofs.Words.{Result, Err, slice_split, length-slice_split, join_with_byte-slice_split, Input, ReportsFault, ReadError}
use Rattle.fb_report.proofs.Words.{AnswersReport, Grammar, LineFields, may_follow, may_end, ended, ended_with, lines_behind}
use Rattle.fb_report.proofs.Words.{report_fields, spelled}
use Rattle.fb_units.specs.declared.read_error.ReadError.TheVariants.{Fault}

-- a text has a first part at least
pub some_part : (p : ℕ → Bool) (text : List ℕ) → 0 < length (slice_split p text)
some_part p text = omega (arith, length-slice_split p text)

-- a line stands behind the end line
pub ended_early : (lines : List LineFields) (line : LineFields) (next : List ℕ) (parts : List (List ℕ)) → 0 < length parts
    → ended_with lines line (next ∷ parts) ≡ Err (length lines + 1)
ended_early lines line next [] some = absurd (omega arith)
ended_early lines line [] (other ∷ parts) some = refl
ended_early lines line (byte ∷ bytes) (other ∷ parts) some = refl

-- the fields of a line, as a line again
pub spelled_again : (line : List ℕ) → spelled (report_fields line) ≡ ended line
spelled_again line = ap ended (join_with_byte-slice_split 32 line)

module _ (grammar : Grammar) (lines : List LineFields) (line : List ℕ) where
  pub row_read : (parts : List (List ℕ)) → 0 < length parts → may_follow grammar lines (report_fields line) ≡ true
      → lines_behind grammar lines (line ∷ parts) ≡ lines_behind grammar (lines ++ report_fields line ∷ []) parts
  unfolding lines_behind
  row_read [] some follows = absurd (omega arith)
  row_read (next ∷ parts) some follows = rw follows refl

  pub end_read : (parts : List (List ℕ)) → 0 < length parts → may_follow grammar lines (report_fields line) ≡ false
      → may_end grammar lines (report_fields line) ≡ true
      → lines_behind grammar lines (line ∷ parts) ≡ ended_with lines (report_fields line) parts
  unfolding lines_behind
  end_read [] some other ends = absurd (omega arith)
  end_read (next ∷ parts) some other ends = rw (other, ends) refl

  pub fault_read : (parts : List (List ℕ)) → may_follow grammar lines (report_fields line) ≡ false
      → may_end grammar lines (report_fields line) ≡ false
      → lines_behind grammar lines (line ∷ parts) ≡ Err (length lines + 1)
  unfolding lines_behind
  fault_read [] other unended = refl
  fault_read (next ∷ parts) other unended = rw (other, unended) refl

  pub rest_read : lines_behind grammar lines (line ∷ []) ≡ Err (length lines + 1)
  unfolding lines_behind
  rest_read = refl

-- the fault that a verdict names: the line behind these
pub names_fault : (report : Input) (error : ReadError ReportsFault) (lines : List LineFields) (count : ℕ)
    (verdict : Result (List LineFields) ℕ)
    → error ≡ Fault (record { input = report; line = count + 1 }) → count ≡ length lines → verdict ≡ Err (length lines + 1)
    → AnswersReport report (Err error) verdict
names_fault report error lines count verdict e all f =
    let P : ReadError ReportsFault → Type 0 = λ error. AnswersReport report (Err error) verdict in
    subst P (sym e) (refl, f ∙ ap (λ n. Err (n + 1)) (sym all))

-- what a test by a grammar says of the same grammar
pub tested : (test : Grammar → Bool) (grammar other : Grammar) (result answer : Bool)
    → result ≡ test grammar → result ≡ answer → grammar ≡ other → test other ≡ answer
tested test grammar other result answer is was g = sym (is ∙ ap test g) ∙ was
