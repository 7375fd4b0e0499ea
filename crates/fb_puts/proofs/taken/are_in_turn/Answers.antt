use Rattle.fb_puts.proofs.Words.{subst, sym, drop_all, SectorRange}
use Rattle.fb_puts.proofs.Shuffled.{AreBehind, behind_apart}
use Rattle.fb_puts.proofs.taken.are_in_turn.Goals as goal

pub returns : goal.returns
returns c = λ yes.
    let l = c.loop-range in
    let start : SectorRange = record { first = 0; count = 0 } in
    behind_apart start c.args.ranges.now
    (l.invariant (subst (AreBehind l.last) (sym (drop_all l.range-index c.args.ranges.now c.loop-range-test.false)) tt))
