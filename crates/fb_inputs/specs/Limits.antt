-- How long an input may be.
use Rattle.std.specs.Prelude.{ℕ, ◌^◌}
use Rattle.fb_desk.specs.declared.desk.Input.{Input}
use Rattle.fb_desk.specs.declared.desk.Input.TheVariants.{Params, Trace, Calls, Puts, ForeReport, BackReport}

-- how many bytes a report may have, of the foreground as of the background
abbrev pub report_limit : ℕ
report_limit = 2 ^ 28

-- how many bytes an input may have
abbrev pub limit_of : Input → ℕ
limit_of Params = 2 ^ 20
limit_of Trace = 2 ^ 28
limit_of Calls = 2 ^ 26
limit_of Puts = 2 ^ 26
limit_of ForeReport = report_limit
limit_of BackReport = report_limit
