-- What a check read and wrote, told of the desk at the start.
use Rattle.fb_top.proofs.Words.{◌≡◌, ℕ, List, Option, arith, refl, subst, inl, inr, IfSome, Grammar, LineFields, back_grammar}
use Rattle.fb_top.proofs.Words.{fore_grammar, Verdict, DeskView, BackReport, CheckTerms, check_asks, check_names, KeepsOutputs, AreReadAs}
use Rattle.fb_top.proofs.Words.{StopsInputs, Files, ReadsReport, InputsError, and_then, StopsTexts, WritesAll, TextsError, stops_texts}
use Rattle.fb_top.proofs.Words.{writes_all, CheckHasCause, IsVerdictOf, check_texts, unread, unwritten, TakesCheck}
use Rattle.fb_streams.specs.Called.{Stream}
use Rattle.fb_inputs.specs.Account.{Account}
use Rattle.fb_inputs.specs.declared.error.InputsError.TheVariants as inputs
use Rattle.fb_texts.specs.declared.error.TextsError.TheVariants as faults
use Rattle.fb_top.specs.Checked.{IsChecked, IsVerdictCut, JudgesBy}

-- why the inputs were not accepted
pub check_stopped : (terms : CheckTerms) (old new : DeskView) (error : InputsError) → StopsInputs (check_names terms) old new error
    → CheckHasCause terms old new (unread error)
check_stopped terms old new inputs.NoMemory h = inl h
check_stopped terms old new error h = (error, refl, h)

-- the files were read, and then the reports
module _ (terms : CheckTerms) (old mid : DeskView) (held : (name : List ℕ) → mid.held name ≡ old.held name) where
  pub report_before : (name : List ℕ) (grammar : Grammar) (lines : List LineFields) → ReadsReport mid name grammar lines
      → ReadsReport old name grammar lines
  report_before name grammar lines reads = record {
    bytes = reads.bytes;
    held = subst (λ (told : Option (List ℕ)). IfSome told (λ here. reads.bytes ≡ here)) (held name) reads.held;
    within = reads.within;
    spells = reads.spells;
    whole = reads.whole;
  }

  -- the verdict on what was read
  pub judges_before : (files : Files) (verdict : Verdict) → JudgesBy mid terms files verdict → JudgesBy old terms files verdict
  judges_before files verdict judges = record {
    fore = judges.fore;
    fore_read = report_before terms.fore fore_grammar judges.fore judges.fore_read;
    judges_back = record {
      back = judges.judges_back.back;
      back_read = report_before terms.back back_grammar judges.judges_back.back judges.judges_back.back_read;
      verdict_is = judges.judges_back.verdict_is;
    };
  }

-- the files were read, and then the reports
pub read_then : {terms : CheckTerms} {files : Files} {first old new : DeskView} {failed : Option Stream} → TakesCheck terms files first old
    → Account (check_asks terms) BackReport failed old new → AreReadAs (check_asks terms).inputs first new
read_then takes account = (and_then takes.account (omega arith) account).inputs

-- the verdict by files that were taken
abbrev pub verdict_taken : {terms : CheckTerms} {files : Files} {old mid : DeskView} → TakesCheck terms files old mid → (verdict : Verdict)
    → JudgesBy mid terms files verdict → IsVerdictOf old terms verdict
verdict_taken {terms} {files} {old} {mid} takes verdict judges = record {
  files = files;
  accepts = takes.accepts;
  sound = takes.sound;
  accepted = takes.fit;
  judges = judges_before terms old mid takes.account.held files verdict judges;
}

-- and then the line was written
module _ (terms : CheckTerms) (old mid new : DeskView) (verdict : Verdict) (is_verdict : IsVerdictOf old terms verdict)
    (outputs : KeepsOutputs old mid) where
  pub line_written : WritesAll (check_texts verdict) mid new → IsChecked old new terms verdict
  line_written wrote = record {
    is_verdict = is_verdict;
    texts = writes_all old mid new outputs (check_texts verdict) wrote;
  }

  cut : (error : TextsError) → StopsTexts (check_texts verdict) mid new error → IsVerdictCut old new terms error
  cut error stops = record {
    verdict = verdict;
    is_verdict = is_verdict;
    stops = stops_texts old mid new outputs (check_texts verdict) error stops;
  }

  -- or not
  pub line_stopped : (error : TextsError) → StopsTexts (check_texts verdict) mid new error → CheckHasCause terms old new (unwritten error)
  line_stopped (faults.WriteFault output) h = cut (faults.WriteFault output) h
  line_stopped faults.NoMemory h = inr (cut faults.NoMemory h)
