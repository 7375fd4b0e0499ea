-- The wait for a first passage is no shorter than the way of the arm.
use Rattle.fb_seek.proofs.Far.{seek-pos}
use Rattle.fb_fastq.proofs.Words.{ℕ, ◌≤◌, arith, Track}
use Rattle.fb_fastq.proofs.Words.{Request, track_at, seek, distance_of, Disk, begin_from, sptf}

pub waits_for_arm : (disk : Disk) (head : Track) (now : ℕ) (r : Request)
    → seek disk.mechanism (distance_of head.cylinder (track_at disk.map r.lbn).cylinder) ≤ sptf disk head now r
unfolding begin_from
waits_for_arm disk head now r =
    let way = seek-pos disk.mechanism head (track_at disk.map r.lbn) r.write in
    omega (arith, way)
