use Rattle.fb_bgwrite.proofs.Words.{Some, sym, ap, ◌∙◌}
use Rattle.fb_bgwrite.proofs.Going.{busy_from, free_from, other_from}
use Rattle.fb_bgwrite.proofs.spills.free_gap.Goals as goal

pub returns-then-delivers-clause-none : goal.returns-then-delivers-clause-none
returns-then-delivers-clause-none c =
    busy_from c.args.rows.now c.args.i c.in-Gap.row (c.get.ensures ∙ ap Some c.in-Gap.is) (sym c.if-delivers.true ∙ c.delivers.ensures)

pub returns-else-delivers-clause-free : goal.returns-else-delivers-clause-free
returns-else-delivers-clause-free c =
    free_from c.args.rows.now c.args.i c.in-Gap.row (c.get.ensures ∙ ap Some c.in-Gap.is) (sym c.if-delivers.false ∙ c.delivers.ensures)

pub returns-in_default : goal.returns-in_default
returns-in_default c = record { free = tt; none = other_from c.args.rows.now c.args.i c.get.result.now c.get.ensures c.in_default.not-Gap }
