use Rattle.fb_wanted.proofs.Words.{◌<◌, ◌∙◌, ap, sym, subst, length, filter, slice_get, arith, get_or_default, is_of_task, indexes_of}
use Rattle.fb_wanted.proofs.Words.{no_blocks}
use Rattle.fb_wanted.proofs.Reading.{task_there, task_index}
use Rattle.fb_wanted.proofs.wanted.Wanted.index_of.Goals as goal

pub index-requires : goal.index-requires
index-requires c =
    let room = subst (λ es. c.args.number < length (filter (is_of_task c.args.task) es)) (sym c.self.view_is) c.requires in
    let there = task_there c.self.inside.entries.items c.self.inside.tasks.items c.self.inside.tracks c.self.invariant.0 c.args.task
    c.args.number room in
    omega (arith, there, c.self.inside.tasks.ok.0)

pub get-requires : goal.get-requires
get-requires c =
    let room = subst (λ es. c.args.number < length (filter (is_of_task c.args.task) es)) (sym c.self.view_is) c.requires in
    let there = task_there c.self.inside.entries.items c.self.inside.tasks.items c.self.inside.tracks c.self.invariant.0 c.args.task
    c.args.number room in
    let at = c.index.ensures ∙ get_or_default c.self.inside.tasks.items c.args.task c.index.result.now no_blocks there in
    task_index c.self.inside.entries.items c.self.inside.tasks.items c.self.inside.tracks c.self.invariant.0 c.args.task c.args.number
    c.index.result.now at room

pub returns : goal.returns
returns c =
    let room = subst (λ es. c.args.number < length (filter (is_of_task c.args.task) es)) (sym c.self.view_is) c.requires in
    let there = task_there c.self.inside.entries.items c.self.inside.tasks.items c.self.inside.tracks c.self.invariant.0 c.args.task
    c.args.number room in
    let at = c.index.ensures ∙ get_or_default c.self.inside.tasks.items c.args.task c.index.result.now no_blocks there in
    ap (λ es. slice_get (indexes_of (is_of_task c.args.task) es) c.args.number) (sym c.self.view_is)
    ∙ (ap (λ blocks. slice_get blocks.indexes c.args.number) (sym (at ∙ c.self.invariant.0.look_up.by_task c.args.task)) ∙ c.get.ensures)
