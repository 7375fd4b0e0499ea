use Rattle.fb_wanted.proofs.Words.{◌∙◌, subst, filter, slice_get_within, is_of_task, AreInOrder, blocks_of}
use Rattle.fb_wanted.proofs.Numbers.{found}
use Rattle.fb_wanted.proofs.OfTask.{delivered_alone}
use Rattle.fb_wanted.proofs.wanted.Wanted.deliver.Goals as goal

pub change_block-requires : goal.change_block-requires
change_block-requires c =
    let in_order = subst (λ es. AreInOrder (blocks_of es)) c.self.view_is c.self.invariant.0.in_order in
    let it = c.requires in
    slice_get_within (filter (is_of_task c.args.task) c.args.self.now) c.args.index it.0
    (found c.args.self.now c.args.task c.args.index it.1 it.0 in_order it.2 it.3).1

pub returns : goal.returns
returns c = c.change_block.ensures ∙ delivered_alone c.args.task c.args.index c.args.self.now
    (subst (λ es. AreInOrder (blocks_of es)) c.self.view_is c.self.invariant.0.in_order)
