use Rattle.fb_plan.proofs.sides.sides_of.Goals as goal

pub returns-clause-early : goal.returns-clause-early
returns-clause-early c = c.blocks_on.ensures.on_disk c.args.disk.now c.requires.blocks

pub returns-clause-late : goal.returns-clause-late
returns-clause-late c = c.blocks_on-2.ensures.on_disk c.args.disk.now c.requires.blocks
