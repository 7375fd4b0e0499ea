use Rattle.fb_plan.proofs.Words.{◌∙◌, slice_get, ap, sym, filter_from, same_track}
use Rattle.fb_plan.proofs.sides.blocks_on.Goals as goal

pub returns-clause-on_disk : goal.returns-clause-on_disk
returns-clause-on_disk c = λ disk fits i e at.
    let found = filter_from (λ x. same_track c.args.track x.block.track) c.args.wanted.now i e
    (ap (λ xs. slice_get xs i) (sym c.on.ensures) ∙ at) in
    fits found.0 e found.1
