use Rattle.fb_fastq.proofs.Words.{◌+◌, ◌∙◌, ap, sym, subst, pending_of, HaveOwnNumbers}
use Rattle.fb_fastq.proofs.OneMore.{insert_more, pending_more, numbers_more}
use Rattle.fb_fastq.proofs.by_spot.add.Goals as goal

pub returns-clause-ok : goal.returns-clause-ok
returns-clause-ok c = ap pending_of c.in_ok-insert.ensures.entries ∙
    pending_more _ _ _ (insert_more c.args.spot c.args.joined c.args.request c.args.waiting.now.entries c.requires.given) c.requires.given

pub returns-clause-numbers : goal.returns-clause-numbers
returns-clause-numbers c = subst (λ ws. HaveOwnNumbers ws (c.args.joined + 1)) (sym c.in_ok-insert.ensures.entries)
    (numbers_more _ _ _ (insert_more c.args.spot c.args.joined c.args.request c.args.waiting.now.entries c.requires.given) c.requires)
