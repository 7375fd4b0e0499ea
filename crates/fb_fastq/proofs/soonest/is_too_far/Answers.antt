use Rattle.fb_fastq.proofs.Words.{◌≡◌, ◌<◌, arith, nat_tests, track_at, seek, distance_of}
use Rattle.fb_fastq.proofs.Far.{waits_for_arm}
use Rattle.fb_fastq.proofs.soonest.is_too_far.Goals as goal

pub returns : goal.returns
returns c = λ far now r farther.
    let arm = c.args.disk.now.mechanism in
    let head = c.args.from.track.cylinder in
    let visit = c.args.visit.now in
    let longer : c.args.wait < visit.seek = grind (arith, nat_tests) in
    let value : visit.seek ≡ seek arm (distance_of head visit.lane.track.cylinder) = c.requires.visit.seek_is in
    let rise = c.seeks_rise.ensures (distance_of head visit.lane.track.cylinder) (distance_of head
    (track_at c.args.disk.now.map r.lbn).cylinder) farther in
    let waits = waits_for_arm c.args.disk.now c.args.from.track now r in
    omega (arith, longer, value, rise, waits)
