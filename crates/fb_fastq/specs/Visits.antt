-- The head leaves a track for a lane.
use Rattle.std.specs.Prelude.{◌≡◌, ◌+◌, ◌*◌, ◌%◌, ◌<◌, ◌≤◌, ◌^◌}
use Rattle.fb_seek.specs.Positioning.{seek, pos, distance_of}
use Rattle.fb_service.specs.declared.disk.Disk.{Disk}
use Rattle.fb_service.specs.declared.approach.Departure.{Departure}
use Rattle.fb_fastq.specs.declared.visit.Visit.{Visit}
use Rattle.fb_fastq.specs.Lanes.{IsLane}

-- the times are those from the departure to the lane, and the angle is that of the platter when the head has come there
pub record IsVisit (disk : Disk) (from : Departure) (visit : Visit) : Type 0 where
  pub lane : IsLane visit.lane
  pub seek_is : visit.seek ≡ seek disk.mechanism (distance_of from.track.cylinder visit.lane.track.cylinder)
  pub short_seek : visit.seek ≤ 10 ^ 9
  pub way_is : visit.way ≡ pos disk.mechanism from.track visit.lane.track visit.lane.write
  pub short_way : visit.way ≤ 2 * 10 ^ 9
  pub angle_is : visit.angle ≡ (from.instant + pos disk.mechanism from.track visit.lane.track visit.lane.write) % disk.map.rotation
  pub turned : visit.angle < disk.map.rotation
