-- The wait for a request of a lane that the head visits.
use Rattle.fb_fastq.proofs.Words.{◌≡◌, ℕ, ◌+◌, ◌-◌, ◌%◌, ◌^◌, ◌<◌, ◌≤◌, sym, ap, ◌∙◌, arith, Request, track_at, pos}
use Rattle.fb_fastq.proofs.Words.{Disk, Departure, sptf, Visit, turn, IsAlong, IsVisit}
use Rattle.fb_fastq.proofs.{Turns.ahead, Turns.round, OnLanes.on_lane, OnLanes.begins, OnLanes.waits_on_lane}

module _ (disk : Disk) (from : Departure) (visit : Visit) (is : IsVisit disk from visit) (r : Request) (spot : ℕ)
    (along : IsAlong disk r spot) (start : visit.lane.start ≤ spot) (end : spot < visit.lane.start + 2 ^ 30) where
  -- the request is one of the lane's
  pub is_there : visit.lane.track ≡ track_at disk.map r.lbn
  is_there = sym (on_lane disk r spot along visit.lane is.lane start end).0

  within : spot - visit.lane.start < disk.map.rotation
  within =
      let same = on_lane disk r spot along visit.lane is.lane start end in
      let inside = (begins disk r spot along visit.lane is.lane same.0 same.1).1 in
      omega (arith, inside, start)

  turns : sptf disk from.track from.instant r ≡ visit.way + turn disk.map.rotation visit.angle (spot - visit.lane.start)
  turns =
      let rotation = disk.map.rotation in
      let way = pos disk.mechanism from.track visit.lane.track visit.lane.write in
      let same = on_lane disk r spot along visit.lane is.lane start end in
      waits_on_lane disk r spot along visit.lane is.lane from.track from.instant same.0 same.1
      ∙ (ap (λ w. w + turn rotation ((from.instant + way) % rotation) (spot - visit.lane.start)) (sym is.way_is)
      ∙ ap (λ a. visit.way + turn rotation a (spot - visit.lane.start)) (sym is.angle_is))

  -- where the spot is still to come in this turn of the platter
  pub waits_ahead : visit.angle ≤ spot - visit.lane.start
      → visit.way + (spot - visit.lane.start - visit.angle) ≡ sptf disk from.track from.instant r
  waits_ahead le = ap (λ x. visit.way + x) (sym (ahead (spot - visit.lane.start) visit.angle disk.map.rotation le within)) ∙ sym turns

  -- where it comes in the next one
  pub waits_round : spot - visit.lane.start < visit.angle
      → visit.way + (disk.map.rotation - visit.angle + (spot - visit.lane.start)) ≡ sptf disk from.track from.instant r
  waits_round lt =
      let turned = is.turned in
      let sum : disk.map.rotation - visit.angle + (spot - visit.lane.start) ≡ spot - visit.lane.start + disk.map.rotation - visit.angle =
      omega arith in
      ap (λ x. visit.way + x) (sum ∙ sym (round (spot - visit.lane.start) visit.angle disk.map.rotation lt turned)) ∙ sym turns
