use Rattle.fb_fastq.proofs.Words.{◌∙◌, ap, sym, subst, Some, pending_of, HaveOwnNumbers}
use Rattle.fb_fastq.proofs.Least.{first_listed, held_is_in}
use Rattle.fb_fastq.proofs.OneMore.{numbers_less, least_more, remove_more, taken_more}
use Rattle.fb_fastq.proofs.by_spot.take_out.Goals as goal

pub returns-clause-least : goal.returns-clause-least
returns-clause-least c = λ joined rank numbers first.
    let waiting = c.args.waiting.now in
    let held = sym c.in-Some.ensures.value in
    let there = held_is_in c.args.key.0 c.args.key.1 c.in-Some.request waiting.entries held in
    least_more _ _ _ (remove_more (c.args.key, c.in-Some.request) waiting.entries numbers.numbered there) rank numbers.numbered
    (first_listed rank c.args.key c.in-Some.request waiting numbers.numbered held first)
    ∙ ap (λ es. Some (c.in-Some.request, pending_of es)) (sym c.remove.ensures.entries)

pub returns-clause-numbers : goal.returns-clause-numbers
returns-clause-numbers c = λ joined numbers.
    let less = taken_more c.args.waiting.now.entries c.args.key numbers.numbered c.requires.has in
    subst (λ es. HaveOwnNumbers es joined) (sym c.remove.ensures.entries) (numbers_less _ _ _ less.1 joined numbers)
