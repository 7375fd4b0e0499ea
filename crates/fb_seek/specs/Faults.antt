-- Why a seek table is refused: the first fault in a fixed order.
use Rattle.std.specs.Prelude.{◌≡◌, ℕ, ◌+◌, ◌-◌, ◌^◌, List, [], ◌∷◌, length, Bool, ◌||◌, ◌==◌, nat_lt, nat_le, Option, Some, None, Result}
use Rattle.std.specs.Prelude.{Ok, Err, if◌then◌else◌}
use Rattle.std.specs.List.{list_any}
use Rattle.fb_seek.specs.declared.point.SeekPoint.{SeekPoint}
use Rattle.fb_seek.specs.declared.fault.SeekFault.{SeekFault}
use Rattle.fb_seek.specs.declared.fault.SeekFault.TheVariants.{NoPoints, FirstNotOne, DistanceNotRising, TimeFalls, TooShort, OutOfRange}
use Rattle.fb_seek.specs.Mechanics.{Mechanics}

-- the distance doesn't rise from a point to the next one
abbrev pub stays_near : SeekPoint → SeekPoint → Bool
stays_near before next = nat_le next.distance before.distance

-- the time falls from a point to the next one
abbrev pub falls : SeekPoint → SeekPoint → Bool
falls before next = nat_lt next.time before.time

-- the index of the first of these points that is bad after the point before it; the first of them has the given index
abbrev pub first_bad : (SeekPoint → SeekPoint → Bool) → ℕ → SeekPoint → List SeekPoint → Option ℕ
first_bad is_bad index before [] = None
first_bad is_bad index before (next ∷ points) = if is_bad before next then Some index else first_bad is_bad (index + 1) next points

-- the distance of the last point
abbrev pub last_distance : SeekPoint → List SeekPoint → ℕ
last_distance point [] = point.distance
last_distance point (next ∷ points) = last_distance next points

-- the time of a point can't be that of a seek: it is 0 or more than a second
abbrev pub is_bad_time : SeekPoint → Bool
is_bad_time point = (point.time == 0) || nat_lt (10 ^ 9) point.time

-- a number of the mechanism is out of its range
abbrev pub is_out_of_range : Mechanics → Bool
is_out_of_range arm = nat_lt 4096 (length arm.points) || list_any is_bad_time arm.points
    || nat_lt (10 ^ 9) arm.head_switch || nat_lt (10 ^ 9) arm.write_settle
    || (arm.cylinders == 0) || nat_lt (10 ^ 6) arm.cylinders

-- the first of two faults, if there is any
abbrev pub or_else : Option SeekFault → Option SeekFault → Option SeekFault
or_else None other = other
or_else (Some fault) other = Some fault

-- the fault of an index, if there is one
abbrev pub fault_at : (ℕ → SeekFault) → Option ℕ → Option SeekFault
fault_at fault None = None
fault_at fault (Some index) = Some (fault index)

-- this fault, if the test holds
abbrev pub fault_if : SeekFault → Bool → Option SeekFault
fault_if fault is_so = if is_so then Some fault else None

-- the first fault of a table that begins with this point
unfoldable pub fault_from : Mechanics → SeekPoint → List SeekPoint → Option SeekFault
fault_from arm first points =
    if first.distance == 1 then
    or_else (fault_at DistanceNotRising (first_bad stays_near 1 first points))
    (or_else (fault_at TimeFalls (first_bad falls 1 first points))
    (or_else (fault_if TooShort (nat_lt (last_distance first points) (arm.cylinders - 1)))
    (fault_if OutOfRange (is_out_of_range arm))))
    else Some FirstNotOne

-- the first fault of a table with these points
abbrev pub fault_among : Mechanics → List SeekPoint → Option SeekFault
fault_among arm [] = Some NoPoints
fault_among arm (first ∷ points) = fault_from arm first points

-- the first fault of the mechanism
abbrev pub first_fault : Mechanics → Option SeekFault
first_fault arm = fault_among arm arm.points

-- the mechanism is the one asked for, which has no fault, or the fault returned is its first one
abbrev pub Judges : Mechanics → Result Mechanics SeekFault → Type 0
Judges arm (Ok mechanism) = (mechanism ≡ arm) × (first_fault arm ≡ None)
Judges arm (Err fault) = first_fault arm ≡ Some fault
