use Rattle.fb_wanted.proofs.Words.{◌∙◌, ap, length, arith, filter-le, is_of_track}
use Rattle.fb_wanted.proofs.Standing.{length-indexes_of}
use Rattle.fb_wanted.proofs.track_blocks.TrackBlocks.len.Goals as goal

pub overflow_cast-result : goal.overflow_cast-result
overflow_cast-result c =
    let count = ap length c.self.invariant.0 ∙ length-indexes_of (is_of_track c.self.inside.track) c.self.inside.entries.now in
    omega (arith, count, filter-le (is_of_track c.self.inside.track) c.self.inside.entries.now, c.self.invariant.1)

pub returns-clause-count : goal.returns-clause-count
returns-clause-count c = ap length c.self.invariant.0
    ∙ (length-indexes_of (is_of_track c.self.inside.track) c.self.inside.entries.now ∙ ap length c.self.view_is)

pub returns-clause-few : goal.returns-clause-few
returns-clause-few c =
    let count = ap length c.self.invariant.0 ∙ length-indexes_of (is_of_track c.self.inside.track) c.self.inside.entries.now in
    omega (arith, count, filter-le (is_of_track c.self.inside.track) c.self.inside.entries.now, c.self.invariant.1)
