-- Where requests stand that are ordered by cylinder or by angle.
use Rattle.std.specs.Prelude.{◌≡◌, ℕ, ◌<◌}
use Rattle.fb_units.specs.declared.types.Request.{Request}
use Rattle.fb_geometry.specs.Shape.{cylinders_of}
use Rattle.fb_sectormap.specs.LookUp.{place_at, track_at}
use Rattle.fb_service.specs.Passing.{begin_angle}
use Rattle.fb_service.specs.declared.disk.Disk.{Disk}

-- the number is that of the cylinder of the request's first sector
pub record IsCylinderOf (disk : Disk) (request : Request) (number : ℕ) : Type 0 where
  pub value : number ≡ (track_at disk.map request.lbn).cylinder
  pub on_disk : number < cylinders_of disk.map.zones

-- the number is the angle at which the request's first sector begins
pub record IsAngleOf (disk : Disk) (request : Request) (angle : ℕ) : Type 0 where
  pub value : angle ≡ begin_angle disk.map (place_at disk.map request.lbn)
  pub turned : angle < disk.map.rotation
