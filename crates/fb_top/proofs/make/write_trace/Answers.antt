use Rattle.fb_top.proofs.Words.{◌≡◌, ◌∙◌, ◌+◌, ap, arith, subst, sym, slice_get, string_bytes, err_from_is_err_and, MadeTrace, Making}
use Rattle.fb_top.proofs.Words.{line_made, made_lines, EndsLine, joined}
use Rattle.std.specs.Prelude.{Some}
use Rattle.fb_texts.proofs.Pieces.{all_lines, line_stops, next_line}
use Rattle.fb_texts.proofs.Texts.{wrote_one}
use Rattle.fb_top.proofs.LineEnds.{made_line_ends}
use Rattle.fb_top.proofs.Making.{line_at, lines_counted}
use Rattle.fb_top.proofs.make.write_trace.Given as given
use Rattle.fb_top.proofs.make.write_trace.Goals as goal
use Rattle.fb_top.proofs.make.write_trace.Goals.{After-write_more}

pub write_more-requires-clause-lines : goal.write_more-requires-clause-lines
write_more-requires-clause-lines g c = λ some.
    subst EndsLine (sym (c.as_slice.ensures.value ∙ c.in_ok-line.ensures.line)) (made_line_ends c.loop-index.maker)

-- what is written is the next line of the trace
line_here : (g : given.Over) (c : After-write_more g)
    → slice_get (made_lines c.args.words.now.number c.args.words.now.device c.args.sectors c.args.words.now.requests) c.loop-index.index
    ≡ Some c.as_slice.result.now
line_here g c =
    let words = c.args.words.now in
    line_at words.number words.device c.args.sectors words.requests c.loop-index.index c.loop-index-test.true
    ∙ ap Some (sym (c.as_slice.ensures.value ∙ c.in_ok-line.ensures.line ∙ ap line_made c.loop-index.invariant.maker))

pub returns-in_err-write_more-clause-texts : goal.returns-in_err-write_more-clause-texts
returns-in_err-write_more-clause-texts g c =
    let gives = err_from_is_err_and c.from_residual-in_err-write_more.result c.from_residual-in_err-write_more.ensures.1 in
    let words = c.args.words.now in
    let old = g.D.Desk.seen c.args.desk.now in
    rw (gives.1, gives.2) (line_stops MadeTrace (string_bytes words.trace) old (g.D.Desk.seen c.write_more.new.desk)
    (made_lines words.number words.device c.args.sectors words.requests) c.loop-index.index c.as_slice.result.now
    (line_here g (goal.at.returns-in_err-write_more-clause-texts g c).After-write_more) c.in_err-write_more.field-0.0
    (c.in_err-write_more.ensures.written old (string_bytes words.trace) _ c.loop-index.invariant.written))

pub loop-index-preserved : goal.loop-index-preserved
loop-index-preserved g c =
    let words = c.args.words.now in
    let old = g.D.Desk.seen c.args.desk.now in
    record {
      written = next_line MadeTrace (string_bytes words.trace) old (g.D.Desk.seen c.write_more.new.desk)
          (made_lines words.number words.device c.args.sectors words.requests) c.loop-index.index c.as_slice.result.now
          (line_here g (goal.at.loop-index-preserved g c).After-write_more)
          (c.in_ok-write_more.ensures.written old (string_bytes words.trace) _ c.loop-index.invariant.written);
      maker = c.in_ok-line.ensures.ok ∙ ap (λ (making : Making). record making { made = making.made + 1 }) c.loop-index.invariant.maker;
    }

pub returns-clause-texts : goal.returns-clause-texts
returns-clause-texts g c =
    let words = c.args.words.now in
    let old = g.D.Desk.seen c.args.desk.now in
    let new = g.D.Desk.seen c.loop-index.desk in
    let lines = made_lines words.number words.device c.args.sectors words.requests in
    let wrote = all_lines MadeTrace (string_bytes words.trace) old new lines c.loop-index.index
    (omega (arith, lines_counted words.number words.device c.args.sectors words.requests, c.loop-index-test.false))
    c.loop-index.invariant.written in
    wrote_one MadeTrace (string_bytes words.trace) (joined lines) old new wrote.only wrote.whole
