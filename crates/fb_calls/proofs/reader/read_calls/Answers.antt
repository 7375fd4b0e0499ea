use Rattle.std.proofs.Common.{◌+◌, Ok, sym, ap, ◌∙◌, arith}
use Rattle.std.proofs.lemmas.Result.{err_from_is_err_and}
use Rattle.fb_units.specs.Lines.{lines_of}
use Rattle.fb_calls.specs.Reading.{calls_of}
use Rattle.fb_calls.specs.Reader.{progress}
use Rattle.fb_calls.specs.Verdict.{accepted}
use Rattle.fb_calls.proofs.Scripts.{script_allowed}
use Rattle.fb_calls.proofs.LinesRead.{read_more, read_error, read_end}
use Rattle.fb_calls.proofs.reader.read_calls.Goals as goal

pub returns-in_err-read_line-clause-answer : goal.returns-in_err-read_line-clause-answer
returns-in_err-read_line-clause-answer c =
    let l = c.loop-line in
    let p = err_from_is_err_and c.from_residual.result c.from_residual.ensures.1 in
    rw (p.1, p.2) (read_error c.args.map.now (l.number + 1) (progress l.reader) (lines_of l.rest.now)
    (calls_of c.args.map.now c.args.trace_count c.args.bytes.now)
    (progress c.read_line.new.self) c.in-Some.line.now
    (lines_of c.in-Some.others.now) c.in_err-read_line.field-0.0 c.in-Some.ensures.line c.in_err-read_line.ensures.answer l.invariant.read)

pub loop-line-preserved : goal.loop-line-preserved
loop-line-preserved c =
    let l = c.loop-line in
    record {
      read = read_more c.args.map.now (l.number
          + 1) (progress l.reader) (lines_of l.rest.now) (calls_of c.args.map.now c.args.trace_count c.args.bytes.now)
          (progress c.read_line.new.self) c.in-Some.line.now
          (lines_of c.in-Some.others.now) c.in-Some.ensures.line c.in_ok-read_line.ensures.answer l.invariant.read;
      number = omega (arith, c.in-Some.ensures.shorter);
      reader = c.in_ok-read_line.ensures.sound;
    }

pub returns-clause-answer : goal.returns-clause-answer
returns-clause-answer c =
    let l = c.loop-line in
    read_end c.args.map.now (l.number + 1) (progress l.reader) (lines_of l.rest.now)
    (calls_of c.args.map.now c.args.trace_count c.args.bytes.now) c.in_default.ensures.line l.invariant.read
    ∙ ap Ok (sym c.end.ensures)

pub returns-clause-script : goal.returns-clause-script
returns-clause-script c =
    (script_allowed c.args.map.now c.args.trace_count c.args.bytes.now (accepted c.end.result) (returns-clause-answer c)
    (rw (ap (λ a. a.calls) c.end.ensures) c.loop-line.invariant.reader.few_calls)).1

pub returns-clause-names : goal.returns-clause-names
returns-clause-names c =
    (script_allowed c.args.map.now c.args.trace_count c.args.bytes.now (accepted c.end.result) (returns-clause-answer c)
    (rw (ap (λ a. a.calls) c.end.ensures) c.loop-line.invariant.reader.few_calls)).0
