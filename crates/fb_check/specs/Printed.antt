-- The lines of printed reports, with the names of the tasks.
use Rattle.std.specs.Prelude.{List}
use Rattle.fb_decide.specs.declared.run_inputs.RunInputs.{RunInputs}
use Rattle.fb_report.specs.Grammar.{LineFields}
use Rattle.fb_check.specs.declared.judging.Printed.{Printed}
use Rattle.fb_check.specs.declared.lines.PrintedLines.{PrintedLines}
use Rattle.fb_check.specs.declared.lines.PrintedLines.TheVariants.{Fields, Text}
use Rattle.fb_check.specs.Verdict.{Reports}

-- the lines, each as its fields
abbrev pub lines_of : PrintedLines → List LineFields
lines_of (Fields lines) = lines.now
lines_of (Text lines) = lines.now

-- what is judged: the printed lines, the names that the script gives its tasks, and how bytes are shown
abbrev pub reports_of : RunInputs → Printed → Reports
reports_of inputs printed =
    record { names = inputs.calls.now.names; bytes = printed.bytes; fore = lines_of printed.fore; back = lines_of printed.back }
