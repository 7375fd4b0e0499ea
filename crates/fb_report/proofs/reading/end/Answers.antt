use Rattle.fb_report.proofs.Words.{◌∙◌, ap, ◌==◌, slice_split, ended_with, report_fields}
use Rattle.fb_report.proofs.Behind.{some_part, ended_early, names_fault}
use Rattle.fb_report.proofs.reading.end.Goals as goal

pub returns-in-Some : goal.returns-in-Some
returns-in-Some c =
    let line = report_fields c.args.line.now in
    let parts = slice_split (λ byte. byte == 10) c.in-Some.field-0.1.now in
    names_fault c.args.report c.fault.result c.args.lines c.len.result _ c.fault.ensures c.len.ensures.value
    (ap (ended_with c.args.lines line) c.in-Some.ensures.split
    ∙ ended_early c.args.lines line c.in-Some.field-0.0.now parts (some_part (λ byte. byte == 10) c.in-Some.field-0.1.now))
