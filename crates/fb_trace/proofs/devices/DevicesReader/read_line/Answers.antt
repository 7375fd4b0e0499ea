use Rattle.std.proofs.Common.{ap, ◌∙◌, map, sym, Ok}
use Rattle.std.specs.Prelude.{nat_lt, if◌then◌else◌, Some}
use Rattle.std.proofs.lemmas.List.{length-map}
use Rattle.fb_trace.specs.Reading.{fault_at}
use Rattle.fb_trace.proofs.DevicesRead.{blank_read, fault_read}
use Rattle.fb_trace.proofs.devices.DevicesReader.read_line.Goals as goal

pub returns-in-Ok-None-clause-rest : goal.returns-in-Ok-None-clause-rest
returns-in-Ok-None-clause-rest c = λ lines. blank_read c.args.self.now c.args.self.now c.args.number c.args.line.now lines
    c.requires.counted (sym c.in-Ok-None.ensures.value ∙ ap Ok c.in-Ok-None.field-0-is)

pub returns-in-Err-clause-rest : goal.returns-in-Err-clause-rest
returns-in-Err-clause-rest c = λ lines.
    let old = c.args.self.now in
    let fault = fault_at c.args.number c.in-Err.reason in
    fault_read old c.refuse_from.new.self c.args.number c.args.line.now lines c.in-Err.reason (sym c.in-Err.ensures.value)
    (ap (map (λ trace. trace.requests.items)) c.refuse_from.ensures.traces)
    (c.refuse_from.ensures.fault
    ∙ ap (λ n. if nat_lt 0 n then Some fault else old.fault) (sym (length-map old.traces.items (λ trace. trace.requests.items))))
