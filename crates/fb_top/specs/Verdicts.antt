-- The line that tells a verdict.
use Rattle.std.specs.Prelude.{ℕ, List, ◌∷◌, [], ◌++◌, decimal, codes}
use Rattle.fb_check.specs.declared.verdict.Mismatch.{Mismatch}
use Rattle.fb_check.specs.declared.verdict.Rule.{Rule}
use Rattle.fb_check.specs.declared.verdict.Rule.TheVariants as rules
use Rattle.fb_check.specs.declared.verdict.Verdict.{Verdict}
use Rattle.fb_check.specs.declared.verdict.Verdict.TheVariants.{Yes, No}
use Rattle.fb_desk.specs.declared.desk.Input.{Input}
use Rattle.fb_desk.specs.declared.desk.Input.TheVariants.{ForeReport}

-- what a report is called, of the foreground or else of the background
abbrev pub report_word : Input → List ℕ
report_word ForeReport = codes "fore"
report_word (_) = codes "back"

-- what a rule is called
abbrev pub rule_word : Rule → List ℕ
rule_word rules.Foreground = codes "Foreground"
rule_word rules.Timeline = codes "Timeline"
rule_word rules.Plan = codes "Plan"
rule_word rules.Delivery = codes "Delivery"
rule_word rules.Event = codes "Event"
rule_word rules.Tasks = codes "Tasks"
rule_word rules.End = codes "End"

-- what is wrong first: the report, the line and the field in it, from 1, and the rule
abbrev pub mismatch_text : Mismatch → List ℕ
mismatch_text mismatch =
    report_word mismatch.input ++ 32 ∷ decimal mismatch.line ++ 32 ∷ decimal mismatch.field ++ 32 ∷ rule_word mismatch.rule

abbrev pub verdict_text : Verdict → List ℕ
verdict_text Yes = codes "yes"
verdict_text (No mismatch) = codes "no " ++ mismatch_text mismatch

-- the line that tells a verdict
abbrev pub verdict_line : Verdict → List ℕ
verdict_line verdict = codes "freeblock check " ++ verdict_text verdict ++ 10 ∷ []
