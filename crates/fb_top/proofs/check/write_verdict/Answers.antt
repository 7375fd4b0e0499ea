use Rattle.fb_top.proofs.Words.{◌++◌, refl, codes, text_ends}
use Rattle.fb_top.specs.Verdicts.{verdict_line, verdict_text}
use Rattle.fb_top.proofs.check.write_verdict.Goals as goal

pub write_made-requires-clause-line : goal.write_made-requires-clause-line
write_made-requires-clause-line g c = let verdict = c.args.verdict.now in
    text_ends c.verdict_line.result (verdict_line verdict) (codes "freeblock check " ++ verdict_text verdict, refl) c.verdict_line.ensures
