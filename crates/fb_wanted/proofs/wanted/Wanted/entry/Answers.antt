use Rattle.fb_wanted.proofs.Words.{◌∙◌, sym, subst, filter, same_Some, slice_get_within, is_of_task, AreInOrder, blocks_of}
use Rattle.fb_wanted.proofs.Numbers.{found}
use Rattle.fb_wanted.proofs.wanted.Wanted.entry.Goals as goal

pub entry_of-requires : goal.entry_of-requires
entry_of-requires c =
    let in_order = subst (λ es. AreInOrder (blocks_of es)) c.self.view_is c.self.invariant.0.in_order in
    let it = c.requires in
    let there = found c.args.self.now c.args.task c.args.index it.1 it.0 in_order it.2 it.3 in
    slice_get_within (filter (is_of_task c.args.task) c.args.self.now) c.args.index it.0 there.1

pub returns : goal.returns
returns c = λ e i at is.
    let in_order = subst (λ es. AreInOrder (blocks_of es)) c.self.view_is c.self.invariant.0.in_order in
    let there = found c.args.self.now c.args.task c.args.index i e in_order at is in
    same_Some e c.entry_of.result (sym there.1 ∙ c.entry_of.ensures)
