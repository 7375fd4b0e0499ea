use Rattle.fb_wanted.proofs.Following.{next_on_cylinder}
use Rattle.fb_wanted.proofs.tracks.Tracks.first_between.Goals as goal

pub returns-in-Some-clause-some : goal.returns-in-Some-clause-some
returns-in-Some-clause-some c =
    let found = c.in-Some.ensures.some in
    let at = c.loop-cylinder in (
      record { cylinder = at.cylinder; head = found.0 },
      found.1,
      next_on_cylinder c.args.self.now c.args.start at.cylinder found.0 at.auto.cylinder at.invariant found.2,
    )
