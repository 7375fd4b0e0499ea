use Rattle.fb_units.proofs.Lists.{take_at}
use Rattle.fb_report.proofs.Words.{◌∙◌, ◌++◌, ◌∷◌, [], ap, sym, report_fields}
use Rattle.fb_report.proofs.text_lines.TextLines.copied.Goals as goal

pub loop-i-preserved : goal.loop-i-preserved
loop-i-preserved c =
    c.in_ok-push.ensures.ok
    ∙ ap (λ fields. c.loop-i.lines ++ fields ∷ []) c.in_ok-fields.ensures
    ∙ ap (λ lines. lines ++ report_fields c.get.result.now ∷ []) c.loop-i.invariant
    ∙ sym (take_at c.args.self.now c.loop-i.i (report_fields c.get.result.now) c.get.ensures)
