use Rattle.fb_wanted.proofs.Words.{◌∙◌, is_of_task}
use Rattle.fb_wanted.proofs.Standing.{at_index, index_within}
use Rattle.fb_wanted.proofs.wanted.Wanted.entry_of.Goals as goal

pub entry_at-requires : goal.entry_at-requires
entry_at-requires c = index_within (is_of_task c.args.task) c.args.self.now c.args.number c.index_of.result c.index_of.ensures

pub returns : goal.returns
returns c = at_index (is_of_task c.args.task) c.args.self.now c.args.number c.index_of.result c.index_of.ensures ∙ c.entry_at.ensures
