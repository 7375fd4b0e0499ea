-- A seek table in which times can be looked up.
use Rattle.std.specs.Prelude.{◌≡◌, ℕ, ◌+◌, ◌^◌, ◌<◌, ◌≤◌, List, length}
use Rattle.std.specs.List.{slice_index_or}
use Rattle.fb_seek.specs.declared.point.SeekPoint.{SeekPoint}
use Rattle.fb_seek.specs.Mechanics.{Mechanics}
use Rattle.fb_seek.specs.Positioning.{seek}

-- distances rise from 1 to the greatest distance of two cylinders, times don't fall, and no time is over a second
pub record IsTable (arm : Mechanics) : Type 0 where
  pub some : 0 < length arm.points
  pub from_one : (d : SeekPoint) → (slice_index_or arm.points 0 d).distance ≡ 1
  pub rising : (k : ℕ) (d : SeekPoint) → k + 1 < length arm.points
      → (slice_index_or arm.points k d).distance < (slice_index_or arm.points (k + 1) d).distance
  pub slower : (k : ℕ) (d : SeekPoint) → k + 1 < length arm.points
      → (slice_index_or arm.points k d).time ≤ (slice_index_or arm.points (k + 1) d).time
  pub short : (k : ℕ) (d : SeekPoint) → k < length arm.points → (slice_index_or arm.points k d).time ≤ 10 ^ 9
  pub far : (k : ℕ) (d : SeekPoint) → k + 1 ≡ length arm.points → arm.cylinders ≤ (slice_index_or arm.points k d).distance + 1
  pub head_switch : arm.head_switch ≤ 10 ^ 9
  pub write_settle : arm.write_settle ≤ 10 ^ 9
  pub some_cylinders : 0 < arm.cylinders

-- the times of seeks over 0, 1, 2 and so on cylinders
abbrev pub AreTimes : Mechanics → List ℕ → Type 0
AreTimes arm times = (distance d : ℕ) → distance < length times
    → (slice_index_or times distance d ≡ seek arm distance) × (seek arm distance ≤ 10 ^ 9)

-- a seek table, with the times of some seeks
pub record IsArm (arm : Mechanics) (known : List ℕ) : Type 0 where
  pub table : IsTable arm
  pub times : AreTimes arm known
