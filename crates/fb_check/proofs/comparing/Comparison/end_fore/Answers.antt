use Rattle.fb_check.proofs.Words.{◌∙◌, ◌-◌, [], ◌∷◌, subst, codes, decimal, HasComparedOne, Foreground}
use Rattle.fb_check.proofs.Beginnings.{line_ended}
use Rattle.fb_check.proofs.comparing.Comparison.end_fore.Goals as goal

pub compare_line-requires-clause-whole : goal.compare_line-requires-clause-whole
compare_line-requires-clause-whole c =
    let line = line_ended (codes "end") (decimal (c.args.self.now.same - 1) ∷ decimal c.args.passed_over ∷ []) in
    (line.0, c.as_slice.ensures.value ∙ c.in_ok-due.ensures.value ∙ line.1)

pub returns : goal.returns
returns c = subst (λ due. HasComparedOne (λ field. Foreground) due c.args.self.now c.compare_line.new.self) (c.as_slice.ensures.value
    ∙ c.in_ok-due.ensures.value) c.compare_line.ensures.one
