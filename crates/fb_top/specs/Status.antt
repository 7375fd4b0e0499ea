-- The exit status of each outcome.
use Rattle.std.specs.Prelude.{ℕ}
use Rattle.fb_check.specs.declared.verdict.Verdict.TheVariants.{Yes, No}
use Rattle.fb_top.specs.declared.outcome.Outcome.{Outcome}
use Rattle.fb_top.specs.declared.outcome.Outcome.TheVariants.{Done, Made, Checked, Arrayed, Spilled, Usage, Params, Trace, Calls, Puts}
use Rattle.fb_top.specs.declared.outcome.Outcome.TheVariants.{Reports, TooLong, ReadFault, WriteFault, NoMemory}

abbrev pub status_of : Outcome → ℕ
status_of (Done run) = 0
status_of (Made n) = 0
status_of (Checked Yes) = 0
status_of (Checked (No mismatch)) = 1
status_of (Arrayed runs copy) = 0
status_of (Spilled run spill) = 0
status_of (Usage fault) = 2
status_of (Params fault) = 3
status_of (Trace fault) = 4
status_of (Calls fault) = 5
status_of (ReadFault input) = 6
status_of (WriteFault output) = 7
status_of NoMemory = 8
status_of (TooLong input) = 9
status_of (Reports fault) = 10
status_of (Puts fault) = 11
