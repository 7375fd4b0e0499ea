use Rattle.std.proofs.Common.{◌+◌, sym, ◌∙◌, subst, map, arith}
use Rattle.fb_units.specs.Lines.{lines_of}
use Rattle.fb_trace.specs.Devices.{traces_of}
use Rattle.fb_trace.specs.Verdict.{Answers, accepted}
use Rattle.fb_trace.proofs.DevicesRead.{nothing_read, all_read, each_trace, fit_traces, all_counted}
use Rattle.fb_trace.proofs.devices.read_traces.Goals as goal

pub loop-line-init : goal.loop-line-init
loop-line-init c =
    let reader = c.in_ok-reader.reader in
    let new = c.in_ok-reader.ensures in
    record {
      read = nothing_read reader c.args.devices c.args.sectors c.args.bytes.now new.requests new.others.0 new.others.1 new.others.2
          new.others.3;
      number = omega arith;
      requests = omega (arith, new.others.2);
      counted = all_counted reader c.args.devices new.requests;
    }

abbrev whole : (c : goal.After-into_traces)
    → Answers (λ traces. map accepted traces.items) c.into_traces.result (traces_of c.args.devices c.args.sectors c.args.bytes.now)
whole c =
    let l = c.loop-line in
    subst (Answers (λ traces. map accepted traces.items) c.into_traces.result)
    (sym (all_read l.reader (l.number + 1) (lines_of l.rest.now) c.in_default.ensures.line) ∙ l.invariant.read) c.into_traces.ensures

pub returns-clause-answer : goal.returns-clause-answer
returns-clause-answer c = whole c

pub returns-clause-fit : goal.returns-clause-fit
returns-clause-fit c = fit_traces c.args.devices c.args.sectors c.args.bytes.now c.into_traces.result (whole c)

pub returns-clause-each : goal.returns-clause-each
returns-clause-each c = each_trace c.args.devices c.args.sectors c.args.bytes.now c.into_traces.result (whole c)
