use Rattle.fb_wanted.proofs.Following.{next_here}
use Rattle.fb_wanted.proofs.next.next_track.Goals as goal

pub returns-in-Some-clause-some : goal.returns-in-Some-clause-some
returns-in-Some-clause-some c =
    let from = c.args.from in
    let found = c.in-Some.ensures.some in
    (record { cylinder = from.cylinder; head = found.0 }, found.1, next_here c.args.tracks.now from found.0 found.2)
