use Rattle.fb_detour.proofs.candidates.try_source.Goals as goal

pub stop_at-stop-requires-clause-on_disk : goal.stop_at-stop-requires-clause-on_disk
stop_at-stop-requires-clause-on_disk c = c.blocks_on-blocks.ensures.on_disk c.args.search.now.disk.now c.requires.search.blocks
