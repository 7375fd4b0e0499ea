-- What a check has written.
use Rattle.std.specs.Prelude.{List, codes}
use Rattle.fb_geometry.specs.Sound.{IsSound}
use Rattle.fb_model.specs.Accepted.{IsAccepted}
use Rattle.fb_report.specs.Grammar.{LineFields, fore_grammar, back_grammar}
use Rattle.fb_check.specs.Verdict.{IsVerdict}
use Rattle.fb_check.specs.declared.verdict.Verdict.{Verdict}
use Rattle.fb_desk.specs.View.{DeskView}
use Rattle.fb_desk.specs.declared.desk.Output.TheVariants.{Fore}
use Rattle.fb_words.specs.Command.{CheckTerms}
use Rattle.fb_texts.specs.declared.error.TextsError.{TextsError}
use Rattle.fb_inputs.specs.Read.{Files, Accepts, ReadsReport, inputs_of_files, key_of}
use Rattle.fb_streams.specs.Names.{check_file_names}
use Rattle.fb_texts.specs.Written.{StopsTexts, Text, WritesAll, one_text}
use Rattle.fb_top.specs.Verdicts.{verdict_line}

-- the lines of the background report under its name, and the verdict on them and on foreground lines by these files
pub record JudgesBack (desk : DeskView) (terms : CheckTerms) (files : Files) (fore : List LineFields) (verdict : Verdict) : Type 0 where
  pub back : List LineFields
  pub back_read : ReadsReport desk terms.back back_grammar back
  pub verdict_is : IsVerdict (inputs_of_files files (key_of terms.policy) terms.until)
      (record { names = files.script.names; bytes = terms.bytes; fore = fore; back = back }) verdict

-- the lines of both reports under the names that the words give, and the verdict on them by these files
pub record JudgesBy (desk : DeskView) (terms : CheckTerms) (files : Files) (verdict : Verdict) : Type 0 where
  pub fore : List LineFields
  pub fore_read : ReadsReport desk terms.fore fore_grammar fore
  pub judges_back : JudgesBack desk terms files fore verdict

-- the verdict by the accepted files; their disk has no fault, and they keep the rules that laws of full runs ask of inputs
pub record IsVerdictOf (desk : DeskView) (terms : CheckTerms) (verdict : Verdict) : Type 0 where
  pub files : Files
  pub accepts : Accepts desk (check_file_names terms) files
  pub sound : IsSound files.disk.map
  pub accepted : IsAccepted (inputs_of_files files (key_of terms.policy) terms.until)
  pub judges : JudgesBy desk terms files verdict

-- what a check writes: the line that tells the verdict, under the name `-`
abbrev pub check_texts : Verdict → List Text
check_texts verdict = one_text Fore (codes "-") (verdict_line verdict)

-- the verdict's line is written, and nothing else was written
pub record IsChecked (old new : DeskView) (terms : CheckTerms) (verdict : Verdict) : Type 0 where
  pub is_verdict : IsVerdictOf old terms verdict
  pub texts : WritesAll (check_texts verdict) old new

-- there is such a verdict, and its line was not written whole
pub record IsVerdictCut (old new : DeskView) (terms : CheckTerms) (error : TextsError) : Type 0 where
  pub verdict : Verdict
  pub is_verdict : IsVerdictOf old terms verdict
  pub stops : StopsTexts (check_texts verdict) old new error
