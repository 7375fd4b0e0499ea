-- How sectors that follow one another on a track pass under the head; angles and times are in nanoseconds.
use Rattle.std.specs.Prelude.{ℕ, ◌+◌, ◌-◌, ◌%◌}
use Rattle.fb_units.specs.declared.types.Place.{Place}
use Rattle.fb_units.specs.declared.types.Sweep.{Sweep}
use Rattle.fb_units.specs.Wait.{wait}
use Rattle.fb_geometry.specs.Shape.{Shape, slots_at}
use Rattle.fb_geometry.specs.Angles.{slot_begin}
use Rattle.fb_sectormap.specs.LookUp.{place_at}

-- the angle at which a slot begins
abbrev pub begin_angle : Shape → Place → ℕ
begin_angle disk place = slot_begin disk.rotation (slots_at disk.zones place.track.cylinder) place.slot

-- the angle at which a slot ends
abbrev pub end_angle : Shape → Place → ℕ
end_angle disk place = slot_begin disk.rotation (slots_at disk.zones place.track.cylinder) (place.slot + 1)

-- from the beginning of the first slot to the next end of the last one
abbrev pub swept : Shape → Place → Place → Sweep
swept disk first last = record {
  begin = begin_angle disk first;
  length = 1 + wait disk.rotation (end_angle disk last % disk.rotation) (begin_angle disk first + 1);
}

-- how `count` sectors from lbn on pass
unfoldable pub sweep_of : Shape → ℕ → ℕ → Sweep
sweep_of disk lbn count = swept disk (place_at disk lbn) (place_at disk (lbn + count - 1))
