use Rattle.fb_check.proofs.Words.{◌∙◌, [], ◌∷◌, codes, decimal}
use Rattle.fb_check.proofs.Beginnings.{line_ended}
use Rattle.fb_check.proofs.comparing.Comparison.end_back.Goals as goal

pub compare_line-requires-clause-whole : goal.compare_line-requires-clause-whole
compare_line-requires-clause-whole c =
    let line = line_ended (codes "end") (decimal c.args.end ∷ []) in
    (line.0, c.as_slice.ensures.value ∙ c.in_ok-due.ensures.value ∙ line.1)
