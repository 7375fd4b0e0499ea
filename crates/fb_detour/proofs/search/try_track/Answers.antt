use Rattle.fb_detour.proofs.search.try_track.Goals as goal

pub try_stop-requires-clause-on_disk : goal.try_stop-requires-clause-on_disk
try_stop-requires-clause-on_disk c = c.blocks_on-blocks.ensures.on_disk c.args.search.now.disk.now c.requires.search.blocks
