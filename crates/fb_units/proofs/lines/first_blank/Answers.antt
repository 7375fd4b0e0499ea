use Rattle.std.proofs.Common.{sym, arith, length}
use Rattle.std.proofs.lemmas.List.Sums.{position_or_len_is}
use Rattle.fb_units.specs.Lines.{is_blank}
use Rattle.fb_units.proofs.lines.first_blank.Goals as goal

pub returns-then-is_blank-clause-index : goal.returns-then-is_blank-clause-index
returns-then-is_blank-clause-index c =
    sym
    (position_or_len_is is_blank c.args.text.now c.loop-index.index 0 (omega arith) c.loop-index.invariant (λ h. sym c.if-is_blank.ensures))

pub returns-clause-index : goal.returns-clause-index
returns-clause-index c =
    sym (position_or_len_is is_blank c.args.text.now (length c.args.text.now) 0 (omega arith)
    (λ k h. c.loop-index.invariant k (omega arith)) (λ h. absurd (omega arith)))
