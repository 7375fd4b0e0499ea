-- The head leaves a track for a cylinder.
use Rattle.std.specs.Prelude.{◌≡◌, ◌*◌, ◌%◌, ◌≤◌, ◌^◌}
use Rattle.fb_geometry.specs.Shape.{IsTrackOf}
use Rattle.fb_sectormap.specs.Runs.{IsRun}
use Rattle.fb_seek.specs.Positioning.{seek, distance_of}
use Rattle.fb_service.specs.declared.disk.Disk.{Disk}
use Rattle.fb_service.specs.declared.approach.Departure.{Departure}
use Rattle.fb_service.specs.declared.approach.Approach.{Approach}

-- the track is one of the disk's, and the angle is that of the platter at the instant
pub record IsDeparture (disk : Disk) (from : Departure) : Type 0 where
  pub track : IsTrackOf disk.map from.track
  pub early : from.instant ≤ 9 * 10 ^ 18
  pub angle : from.angle ≡ from.instant % disk.map.rotation

-- the run has all sectors of a cylinder, and the seek time is that from the departure to this cylinder
pub record IsApproach (disk : Disk) (from : Departure) (approach : Approach) : Type 0 where
  pub run : IsRun disk.map approach.run
  pub seek_is : approach.seek ≡ seek disk.mechanism (distance_of from.track.cylinder approach.run.on.number)
  pub short : approach.seek ≤ 10 ^ 9
