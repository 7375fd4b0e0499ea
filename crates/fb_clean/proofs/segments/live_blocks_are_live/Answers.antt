use Rattle.fb_clean.proofs.Live.{live_blocks-count}
use Rattle.fb_clean.proofs.segments.live_blocks_are_live.Goals as goal

pub returns : goal.returns
returns c = live_blocks-count
