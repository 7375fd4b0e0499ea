use Rattle.fb_top.proofs.Words.{List, ℕ, Some, ap, arith, subst, sym, err_from_is_err_and, MadeTrace, script_text, some_sectors}
use Rattle.fb_top.proofs.Words.{make_terms, then_result, make_asks, failed_output, StopsTexts, WritesAll, WritesTexts, one_text}
use Rattle.fb_top.proofs.Words.{stopped_sooner, then_texts, text_ends}
use Rattle.fb_desk.specs.declared.desk.Output.TheVariants.{MadeCalls}
use Rattle.fb_maker.specs.Trace.{made_trace}
use Rattle.fb_top.specs.Make.{trace_text}
use Rattle.fb_top.proofs.LineEnds.{script_ends}
use Rattle.fb_top.proofs.make.write_both.Goals as goal

pub write_made-requires-clause-line : goal.write_made-requires-clause-line
write_made-requires-clause-line g c = let map = c.args.disk.now.map in
    text_ends c.made_calls-made.result (script_text map) (script_ends map) c.made_calls-made.ensures

pub write_trace-requires-clause-some : goal.write_trace-requires-clause-some
write_trace-requires-clause-some g c =
    omega (arith, some_sectors c.args.disk.now.map c.requires.sound, c.count.ensures.value)

pub returns-in_err-write_trace-clause-texts : goal.returns-in_err-write_trace-clause-texts
returns-in_err-write_trace-clause-texts g c =
    let old = g.D.Desk.seen c.args.desk.now in
    let new = g.D.Desk.seen c.write_trace.new.desk in
    let terms = make_terms c.args.words.now in
    let disk = c.args.disk.now in
    let error = c.in_err-write_trace.field-0.0 in
    let failed = err_from_is_err_and c.from_residual.result c.from_residual.ensures.1 in
    rw (failed.1, failed.2) (stopped_sooner (one_text MadeTrace terms.trace (trace_text terms disk))
    (one_text MadeCalls terms.calls (script_text disk.map)) old new error
    (subst (λ (n : ℕ). StopsTexts (one_text MadeTrace terms.trace (made_trace terms.number terms.device n terms.requests)) old new error)
    c.count.ensures.value c.in_err-write_trace.ensures.texts))

pub returns-clause-texts : goal.returns-clause-texts
returns-clause-texts g c =
    let old = g.D.Desk.seen c.args.desk.now in
    let mid = g.D.Desk.seen c.write_trace.new.desk in
    let new = g.D.Desk.seen c.write_made.new.desk in
    let terms = make_terms c.args.words.now in
    let disk = c.args.disk.now in
    then_texts (one_text MadeTrace terms.trace (trace_text terms disk)) (one_text MadeCalls terms.calls (script_text disk.map)) new
    (subst (λ (n : ℕ). WritesAll (one_text MadeTrace terms.trace (made_trace terms.number terms.device n terms.requests)) old mid)
    c.count.ensures.value c.in_ok-write_trace.ensures.texts)
    (((λ e. cc), tt), tt) c.write_made.result
    (subst (λ (name : List ℕ). WritesTexts (one_text MadeCalls name (script_text disk.map)) mid new c.write_made.result)
    c.as_str.ensures.value (c.write_made.ensures.texts (script_text disk.map) c.made_calls-made.ensures))

pub returns-clause-calls : goal.returns-clause-calls
returns-clause-calls g c =
    then_result failed_output c.write_made.result _ c.in_ok-write_trace.ensures.calls
    (c.write_made.ensures.calls (make_asks (make_terms c.args.words.now)) (ap Some (sym c.as_str.ensures.value)))
