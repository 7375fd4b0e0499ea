-- The tracks laid end to end, each once for reads and once for writes.
use Rattle.std.specs.Prelude.{◌≡◌, ℕ, ◌+◌, ◌*◌, ◌<◌, ◌≤◌, ◌^◌, Bool, if◌then◌else◌}
use Rattle.fb_units.specs.declared.types.Track.{Track}
use Rattle.fb_units.specs.declared.types.Request.{Request}
use Rattle.fb_geometry.specs.Shape.{cylinders_of}
use Rattle.fb_sectormap.specs.LookUp.{place_at, track_at}
use Rattle.fb_service.specs.declared.disk.Disk.{Disk}
use Rattle.fb_service.specs.Passing.{begin_angle}
use Rattle.fb_fastq.specs.declared.lanes.Lane.{Lane}

-- where the lane of a track for reads or for writes starts: each has room for the longest rotation, and each cylinder for 64 heads
abbrev pub lane_start : Track → Bool → ℕ
lane_start track write = track.cylinder * 2 ^ 37 + track.head * 2 ^ 31 + (if write then 2 ^ 30 else 0)

-- the lane starts where that of its track does, and all lanes fit a machine's numbers
pub record IsLane (lane : Lane) : Type 0 where
  pub start : lane.start ≡ lane_start lane.track lane.write
  pub head : lane.track.head < 64
  pub few : lane.start ≤ 2 ^ 60

-- the spot is as far along the request's lane as the angle at which its first sector begins
pub record IsAlong (disk : Disk) (request : Request) (spot : ℕ) : Type 0 where
  pub value : spot ≡ lane_start (track_at disk.map request.lbn) request.write + begin_angle disk.map (place_at disk.map request.lbn)
  pub within : begin_angle disk.map (place_at disk.map request.lbn) < disk.map.rotation
  pub head : (track_at disk.map request.lbn).head < 64
  pub on_disk : spot < cylinders_of disk.map.zones * 2 ^ 37
