use Rattle.fb_bgwrite.proofs.Words.{◌+◌, sym, ap, ◌∙◌, drop, delivers, drop_got}
use Rattle.fb_bgwrite.proofs.spills.delivers.Goals as goal

pub returns-in-Some : goal.returns-in-Some
returns-in-Some c =
    sym (c.in-Some.ensures.some (drop (c.loop-i.i + 1) c.args.rows.now))
    ∙ sym (ap delivers (drop_got c.args.rows.now c.loop-i.i c.get.result.now c.get.ensures))
    ∙ sym c.loop-i.invariant

pub loop-i-preserved : goal.loop-i-preserved
loop-i-preserved c =
    c.loop-i.invariant
    ∙ ap delivers (drop_got c.args.rows.now c.loop-i.i c.get.result.now c.get.ensures)
    ∙ c.in_default.ensures.none (drop (c.loop-i.i + 1) c.args.rows.now)
