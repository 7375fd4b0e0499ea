use Rattle.std.proofs.Common.{◌+◌, ap, ◌∙◌, arith}
use Rattle.std.proofs.lemmas.Result.{err_from_is_err_and}
use Rattle.fb_units.specs.Lines.{lines_of}
use Rattle.fb_trace.specs.Reading.{lines_from, trace_of}
use Rattle.fb_trace.specs.Progress.{progress}
use Rattle.fb_trace.specs.Verdict.{accepted}
use Rattle.fb_trace.proofs.Keeping.{fit_trace}
use Rattle.fb_trace.proofs.LinesRead.{read_more, read_error, read_end}
use Rattle.fb_trace.proofs.reader.read_trace.Goals as goal

pub returns-in_err-read_line-clause-answer : goal.returns-in_err-read_line-clause-answer
returns-in_err-read_line-clause-answer c =
    let l = c.loop-line in
    let p = err_from_is_err_and c.from_residual.result c.from_residual.ensures.1 in
    rw (p.1, p.2) (read_error l.reader.device l.reader.sectors (l.number + 1) (progress l.reader)
    (progress c.read_line.new.self) c.in-Some.line.now (lines_of l.rest.now) (lines_of c.in-Some.others.now)
    (trace_of c.args.device c.args.sectors c.args.bytes.now) c.in_err-read_line.field-0.0 c.in-Some.ensures.line
    c.in_err-read_line.ensures.answer l.invariant.read)

pub loop-line-preserved : goal.loop-line-preserved
loop-line-preserved c =
    let l = c.loop-line in
    let new = c.read_line.new.self in
    record {
      device = c.read_line.ensures.device ∙ l.invariant.device;
      sectors = c.read_line.ensures.sectors ∙ l.invariant.sectors;
      read =
          ap (λ x. lines_from x new.sectors (l.number + 1 + 1) (progress new) (lines_of c.in-Some.others.now)) c.read_line.ensures.device
          ∙ ap (λ x. lines_from l.reader.device x (l.number + 1 + 1) (progress new) (lines_of c.in-Some.others.now))
          c.read_line.ensures.sectors
          ∙ read_more l.reader.device l.reader.sectors (l.number + 1) (progress l.reader) (progress new) c.in-Some.line.now
          (lines_of l.rest.now) (lines_of c.in-Some.others.now)
          (trace_of c.args.device c.args.sectors c.args.bytes.now) c.in-Some.ensures.line c.in_ok-read_line.ensures.answer l.invariant.read;
      number = omega (arith, c.in-Some.ensures.shorter);
      passed_over = omega (arith, c.in_ok-read_line.ensures.few);
    }

pub returns-clause-answer : goal.returns-clause-answer
returns-clause-answer c =
    let l = c.loop-line in
    read_end l.reader.device l.reader.sectors (l.number + 1) (progress l.reader) (lines_of l.rest.now)
    (trace_of c.args.device c.args.sectors c.args.bytes.now) c.in_default.ensures.line l.invariant.read

pub returns-clause-trace : goal.returns-clause-trace
returns-clause-trace c =
    let l = c.loop-line in
    fit_trace c.args.device c.args.sectors c.args.bytes.now (accepted l.reader.trace)
    (read_end l.reader.device l.reader.sectors (l.number + 1) (progress l.reader) (lines_of l.rest.now)
    (trace_of c.args.device c.args.sectors c.args.bytes.now) c.in_default.ensures.line l.invariant.read)
