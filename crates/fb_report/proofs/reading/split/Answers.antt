use Rattle.fb_report.proofs.Words.{◌≡◌, ◌∙◌, sym, ap, subst, true, false, Result, List, ℕ, ◌==◌, slice_split, grammar_of, lines_behind}
use Rattle.fb_report.proofs.Words.{may_follow, may_end, report_fields, AnswersReport, LineFields}
use Rattle.fb_report.proofs.Behind.{some_part, row_read, end_read, fault_read, rest_read, names_fault, tested}
use Rattle.fb_report.proofs.reading.split.Goals as goal

pub loop-line-preserved : goal.loop-line-preserved
loop-line-preserved c =
    let grammar = grammar_of c.args.report in
    let lines = c.loop-line.lines in
    let line = c.in-Some.line.now in
    let parts = slice_split (λ byte. byte == 10) c.in-Some.behind.now in
    let follows : may_follow grammar lines (report_fields line) ≡ true = tested (λ grammar. may_follow grammar lines (report_fields line))
    _ grammar _ true c.may_follow.ensures c.if-may_follow.true c.table_of-table.ensures in
    ap (λ lines. lines_behind grammar lines parts) c.in_ok-push.ensures
    ∙ sym (row_read grammar lines line parts (some_part (λ byte. byte == 10) c.in-Some.behind.now) follows)
    ∙ sym (ap (lines_behind grammar lines) c.in-Some.ensures.split)
    ∙ c.loop-line.invariant

pub returns-then-may_end : goal.returns-then-may_end
returns-then-may_end c =
    let grammar = grammar_of c.args.report in
    let lines = c.loop-line.lines in
    let line = c.in-Some.line.now in
    let parts = slice_split (λ byte. byte == 10) c.in-Some.behind.now in
    let other : may_follow grammar lines (report_fields line) ≡ false = tested (λ grammar. may_follow grammar lines (report_fields line))
    _ grammar _ false c.may_follow.ensures c.if-may_follow.false c.table_of-table.ensures in
    let ends : may_end grammar lines (report_fields line) ≡ true = tested (λ grammar. may_end grammar lines (report_fields line))
    _ grammar _ true c.may_end.ensures c.if-may_end.true c.table_of-table.ensures in
    let P : Result (List LineFields) ℕ → Type 0 = λ verdict. AnswersReport c.args.report c.end.result verdict in
    subst P
    (sym (end_read grammar lines line parts (some_part (λ byte. byte == 10) c.in-Some.behind.now) other ends)
    ∙ sym (ap (lines_behind grammar lines) c.in-Some.ensures.split)
    ∙ c.loop-line.invariant)
    c.end.ensures

pub returns-else-may_end : goal.returns-else-may_end
returns-else-may_end c =
    let grammar = grammar_of c.args.report in
    let lines = c.loop-line.lines in
    let line = c.in-Some.line.now in
    let parts = slice_split (λ byte. byte == 10) c.in-Some.behind.now in
    let other : may_follow grammar lines (report_fields line) ≡ false = tested (λ grammar. may_follow grammar lines (report_fields line))
    _ grammar _ false c.may_follow.ensures c.if-may_follow.false c.table_of-table.ensures in
    let unended : may_end grammar lines (report_fields line) ≡ false = tested (λ grammar. may_end grammar lines (report_fields line))
    _ grammar _ false c.may_end.ensures c.if-may_end.false c.table_of-table.ensures in
    names_fault c.args.report c.fault.result lines c.len.result _ c.fault.ensures c.len.ensures.value
    (sym c.loop-line.invariant
    ∙ ap (lines_behind grammar lines) c.in-Some.ensures.split
    ∙ fault_read grammar lines line parts other unended)

pub returns : goal.returns
returns c =
    let grammar = grammar_of c.args.report in
    let lines = c.loop-line.lines in
    names_fault c.args.report c.fault-2.result lines c.len-2.result _ c.fault-2.ensures c.len-2.ensures.value
    (sym c.loop-line.invariant
    ∙ ap (lines_behind grammar lines) c.in_default.ensures.split
    ∙ rest_read grammar lines c.loop-line.rest.now)
