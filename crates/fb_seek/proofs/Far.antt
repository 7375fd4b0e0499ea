-- Positioning takes no less than the seek over the same cylinders.
use Rattle.std.proofs.Common.{◌≡◌, ◌≤◌, Bool, inl, inr, arith}
use Rattle.std.specs.Prelude.{◌==◌, if◌then◌else◌}
use Rattle.std.proofs.lemmas.Bool.{cases_Bool}
use Rattle.std.proofs.lemmas.Bool.Decides.{nat_tests}
use Rattle.fb_units.specs.declared.types.Track.{Track}
use Rattle.fb_units.specs.Tracks.{same_track}
use Rattle.fb_seek.specs.Mechanics.{Mechanics}
use Rattle.fb_seek.specs.Positioning.{seek, pos, distance_of}
use Rattle.std.proofs.Math.Nat.{le-max_left}

-- the arm moves as long as its seek at least
pub seek-pos : (arm : Mechanics) (a b : Track) (write : Bool) → seek arm (distance_of a.cylinder b.cylinder) ≤ pos arm a b write
unfolding pos
seek-pos arm a b write = elim (cases_Bool (same_track a b)) [
  | inl same ↦ let still : distance_of a.cylinder b.cylinder ≡ 0 = grind (arith, nat_tests) in rw (same, still) (omega arith)
  | inr apart ↦ rw apart (
      let most = le-max_left (seek arm (distance_of a.cylinder b.cylinder)) (if a.head == b.head then 0 else arm.head_switch) in
      omega (arith, most))
]
