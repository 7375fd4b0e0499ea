use Rattle.fb_check.proofs.Words.{◌∙◌, [], ◌∷◌, codes}
use Rattle.fb_check.proofs.Beginnings.{line_ended}
use Rattle.fb_check.proofs.Comparisons.{begun}
use Rattle.fb_check.proofs.comparing.Comparison.begin_fore.Goals as goal

pub compare_line-requires-clause-whole : goal.compare_line-requires-clause-whole
compare_line-requires-clause-whole c =
    let line = line_ended (codes "freeblock") (codes "fore" ∷ codes "1" ∷ []) in
    (line.0, c.as_slice.ensures.value ∙ c.in_ok-due.ensures.value ∙ line.1)

pub returns-clause-compared : goal.returns-clause-compared
returns-clause-compared c = λ size bytes. begun _ _ _ _ _ c.args.lines c.compare_line.new.self c.as_slice.result.now
    (c.as_slice.ensures.value ∙ c.in_ok-due.ensures.value) c.compare_line.ensures.one
