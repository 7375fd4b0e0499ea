use Rattle.fb_report.proofs.Words.{◌∙◌, ◌+◌, sym, get_or, drop, at_drop_more}
use Rattle.fb_report.proofs.Numbers.{stays_below, stays_below-not}
use Rattle.fb_report.proofs.forms.stays_small.Goals as goal

pub returns-in-None : goal.returns-in-None
returns-in-None c =
    sym (stays_below-not c.loop-byte.value (get_or c.args.text.now c.loop-byte.byte-index 0)
    (drop (c.loop-byte.byte-index + 1) c.args.text.now) c.in-None.ensures.none)
    ∙ sym (at_drop_more (stays_below c.loop-byte.value) c.args.text.now c.loop-byte.byte-index 0 c.loop-byte-test.true)
    ∙ c.loop-byte.invariant.rest
