-- One value for each input, and one for each output.
use Rattle.std.specs.Borrow.{Lends, Fml, RattleType, MutBor}
use Rattle.fb_desk.specs.declared.desk.Input.{Input}
use Rattle.fb_desk.specs.declared.desk.Input.TheVariants as input
use Rattle.fb_desk.specs.declared.desk.Output.{Output}
use Rattle.fb_desk.specs.declared.desk.Output.TheVariants as output
use Rattle.fb_desk.specs.declared.each.EachInput.{EachInput}
use Rattle.fb_desk.specs.declared.each.EachOutput.{EachOutput}
use Rattle.fb_desk.specs.contracts.each.EachInput.{the_row as inputs-row}
use Rattle.fb_desk.specs.contracts.each.EachOutput.{the_row as outputs-row}

-- the value of an input
abbrev pub of_input : {T : Type 0} → EachInput T → Input → T
of_input each input.Params = each.params
of_input each input.Trace = each.trace
of_input each input.Calls = each.calls
of_input each input.Puts = each.puts
of_input each input.ForeReport = each.fore_report
of_input each input.BackReport = each.back_report

-- the same with another value for this input
abbrev pub with_input : {T : Type 0} → EachInput T → Input → T → EachInput T
with_input each input.Params thing = record each { params = thing }
with_input each input.Trace thing = record each { trace = thing }
with_input each input.Calls thing = record each { calls = thing }
with_input each input.Puts thing = record each { puts = thing }
with_input each input.ForeReport thing = record each { fore_report = thing }
with_input each input.BackReport thing = record each { back_report = thing }

-- the value of an output
abbrev pub of_output : {T : Type 0} → EachOutput T → Output → T
of_output each output.Fore = each.fore
of_output each output.Back = each.back
of_output each output.Spill = each.spill
of_output each output.Note = each.note
of_output each output.MadeTrace = each.made_trace
of_output each output.MadeCalls = each.made_calls
of_output each output.Copied = each.copied

-- the same with another value for this output
abbrev pub with_output : {T : Type 0} → EachOutput T → Output → T → EachOutput T
with_output each output.Fore thing = record each { fore = thing }
with_output each output.Back thing = record each { back = thing }
with_output each output.Spill thing = record each { spill = thing }
with_output each output.Note thing = record each { note = thing }
with_output each output.MadeTrace thing = record each { made_trace = thing }
with_output each output.MadeCalls thing = record each { made_calls = thing }
with_output each output.Copied thing = record each { copied = thing }

-- the reference lends the value of this input: what is behind it at its end is then the input's value
abbrev pub lends_input : (T : RattleType) → MutBor (EachInput T.Denot) → Input → MutBor T.Denot → Fml
lends_input T each which r = Lends (inputs-row T) T each r (with_input each.now which)

-- the reference lends the value of this output: what is behind it at its end is then the output's value
abbrev pub lends_output : (T : RattleType) → MutBor (EachOutput T.Denot) → Output → MutBor T.Denot → Fml
lends_output T each which r = Lends (outputs-row T) T each r (with_output each.now which)
