-- How long a seek takes, and how long the way from one track to another; times are in nanoseconds.
use Rattle.std.specs.Prelude.{ℕ, ◌+◌, ◌-◌, ◌*◌, ◌/◌, List, [], ◌∷◌, Bool, ◌==◌, nat_le, max, if◌then◌else◌}
use Rattle.fb_units.specs.declared.types.Track.{Track}
use Rattle.fb_units.specs.Tracks.{same_track}
use Rattle.fb_seek.specs.declared.point.SeekPoint.{SeekPoint}
use Rattle.fb_seek.specs.Mechanics.{Mechanics}

-- the time of a distance that is above that of the point before these points
abbrev pub seek_after : SeekPoint → List SeekPoint → ℕ → ℕ
seek_after before [] distance = before.time
seek_after before (next ∷ points) distance = if nat_le distance next.distance
    then before.time + (distance - before.distance) * (next.time - before.time) / (next.distance - before.distance)
    else seek_after next points distance

-- the time of a distance that is not 0; the first point has distance 1
abbrev pub seek_along : List SeekPoint → ℕ → ℕ
seek_along [] distance = 0
seek_along (first ∷ points) distance = seek_after first points distance

-- the time of a seek over so many cylinders
abbrev pub seek : Mechanics → ℕ → ℕ
seek arm distance = if distance == 0 then 0 else seek_along arm.points distance

-- the distance of two cylinders
abbrev pub distance_of : ℕ → ℕ → ℕ
distance_of a b = (a - b) + (b - a)

-- the time from one track to another, and until the head has settled there if it is to write
unfoldable pub pos : Mechanics → Track → Track → Bool → ℕ
pos arm a b write = if same_track a b then 0 else
    max (seek arm (distance_of a.cylinder b.cylinder)) (if a.head == b.head then 0 else arm.head_switch)
    + (if write then arm.write_settle else 0)
