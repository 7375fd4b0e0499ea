use Rattle.fb_wanted.proofs.Lists.{taken_back, joined_counted}
use Rattle.fb_wanted.proofs.wanted.add_to_look_up.Goals as goal

pub returns-in-Err-clause-tasks_stay : goal.returns-in-Err-clause-tasks_stay
returns-in-Err-clause-tasks_stay c =
    taken_back c.args.tasks.now.items c.add_index.new.tasks.items c.take_index_back.new.tasks.items c.args.entry.block.task c.args.index
    c.in_ok-add_index.ensures.ok c.take_index_back.ensures

pub returns-in-Ok-clause-tasks : goal.returns-in-Ok-clause-tasks
returns-in-Ok-clause-tasks c =
    joined_counted c.args.tasks.now.items c.add_index.new.tasks.items c.recount.new.tasks.items c.args.index c.args.entry c.no_counts.result
    c.counts_of.result c.no_counts.ensures c.counts_of.ensures
    c.in_ok-add_index.ensures.ok c.recount.ensures
