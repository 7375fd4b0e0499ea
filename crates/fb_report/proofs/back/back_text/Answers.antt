use Rattle.fb_report.proofs.Words.{◌∙◌, ◌++◌, ap, back_lines, back_text}
use Rattle.fb_report.proofs.Lines.{text_more}
use Rattle.fb_report.proofs.back.back_text.Goals as goal

pub loop-k-preserved : goal.loop-k-preserved
loop-k-preserved c =
    text_more (back_lines c.args.names.now c.args.sector_bytes c.args.bytes c.args.run.now) c.loop-k.k c.loop-k.text.items
    (back_text c.args.names.now c.args.sector_bytes c.args.bytes c.args.run.now) c.loop-k.invariant _ _ c.in_ok-line.ensures.value
    (c.in_ok-extend_from_slice.ensures.items ∙ ap (λ line. c.loop-k.text.items ++ line) c.as_slice.ensures.value)
