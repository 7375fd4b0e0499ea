use Rattle.std.proofs.Common.{sym, ap, ◌∙◌, arith, length, drop}
use Rattle.std.proofs.lemmas.List.{take_rest}
use Rattle.std.proofs.lemmas.List.Sums.{prefix_len_is}
use Rattle.fb_units.specs.Lines.{is_blank}
use Rattle.fb_units.proofs.lines.behind_blanks.Goals as goal

pub returns-then-not-is_blank : goal.returns-then-not-is_blank
returns-then-not-is_blank c =
    take_rest c.args.line.now c.loop-index.index
    ∙ ap (λ n. drop n c.args.line.now) (sym
    (prefix_len_is is_blank c.args.line.now c.loop-index.index 0 (omega arith) c.loop-index.invariant (λ h. sym c.if-not-is_blank.ensures)))

pub returns : goal.returns
returns c =
    take_rest c.args.line.now (length c.args.line.now)
    ∙ ap (λ n. drop n c.args.line.now) (sym (prefix_len_is is_blank c.args.line.now (length c.args.line.now) 0 (omega arith)
    (λ k h. c.loop-index.invariant k (omega arith)) (λ h. absurd (omega arith))))
