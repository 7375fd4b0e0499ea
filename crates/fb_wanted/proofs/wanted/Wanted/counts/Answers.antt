use Rattle.fb_wanted.proofs.Words.{◌≤◌, ◌∙◌, ap, sym, get_or, length, arith, get_or_past, counts_of, no_blocks}
use Rattle.fb_wanted.proofs.Reading.{task_counts}
use Rattle.fb_wanted.proofs.wanted.Wanted.counts.Goals as goal

pub returns-in-Some : goal.returns-in-Some
returns-in-Some c =
    let at = c.in-Some.ensures.lookup.3.1 no_blocks ∙ ap (λ xs. get_or xs c.args.task no_blocks) c.deref.ensures.value in
    task_counts c.self.inside.entries.items c.self.inside.tasks.items c.self.inside.tracks c.self.invariant.0 c.args.task
    c.in-Some.blocks.now at ∙ ap (counts_of c.args.task) c.self.view_is

pub returns-in-None : goal.returns-in-None
returns-in-None c =
    let past : length c.self.inside.tasks.items ≤ c.args.task =
    omega (arith, c.in-None.ensures.lookup.3, ap length c.deref.ensures.value) in
    c.no_counts.ensures
    ∙ (task_counts c.self.inside.entries.items c.self.inside.tasks.items c.self.inside.tracks c.self.invariant.0 c.args.task no_blocks
    (sym (get_or_past c.self.inside.tasks.items c.args.task no_blocks past))
    ∙ ap (counts_of c.args.task) c.self.view_is)
