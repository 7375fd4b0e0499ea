-- Some angles, as the platter turns to them.
use Rattle.std.specs.Prelude.{◌≡◌, ℕ, ◌+◌, ◌-◌, ◌%◌, ◌<◌, ◌≤◌}
use Rattle.fb_service.specs.declared.disk.Disk.{Disk}
use Rattle.fb_fastq.specs.declared.angles.Arc.{Arc}
use Rattle.fb_fastq.specs.Turns.{turn}

-- the platter turns from the instant to each angle of the arc in the time to the first one and as much more as the angle is behind it
pub record IsArc (disk : Disk) (now : ℕ) (arc : Arc) : Type 0 where
  pub inside : arc.end ≤ disk.map.rotation
  pub rises : arc.begin ≤ arc.end
  pub short : arc.ahead ≤ disk.map.rotation
  pub turns : (angle : ℕ) → arc.begin ≤ angle → angle < arc.end
      → arc.ahead + (angle - arc.begin) ≡ turn disk.map.rotation (now % disk.map.rotation) angle
