use Rattle.std.proofs.Common.{sym, ◌∙◌, ap, ◌∷◌, arith}
use Rattle.std.specs.List.{after_first}
use Rattle.std.specs.Prelude.{◌==◌}
use Rattle.std.specs.Str.Lines.{strip_carriage_return}
use Rattle.std.proofs.lemmas.Bool.Decides.{nat_tests}
use Rattle.fb_units.specs.Lines.{lines_of}
use Rattle.fb_units.proofs.Splitting.{lines_none, lines_first}
use Rattle.fb_units.proofs.lines.next_line.Goals as goal

pub returns-then-is_empty-clause-line : goal.returns-then-is_empty-clause-line
returns-then-is_empty-clause-line c = lines_none c.args.text.now (grind (arith, nat_tests))

pub returns-clause-line : goal.returns-clause-line
returns-clause-line c =
    lines_first c.args.text.now (grind (arith, nat_tests))
    ∙ ap (λ line. line ∷ lines_of (after_first (λ b. b == 10) c.args.text.now))
    (sym (c.without_return.ensures ∙ ap strip_carriage_return c.around_first.ensures.front))
    ∙ ap (λ rest. c.without_return.result.now ∷ lines_of rest) (sym c.around_first.ensures.back)
