-- How blocks pass from an instant on.
use Rattle.std.specs.Prelude.{◌≡◌, ℕ, ◌+◌, ◌*◌, ◌%◌, ◌<◌, ◌≤◌, ◌^◌, List, Bool, ◌||◌, nat_le, if◌then◌else◌}
use Rattle.std.specs.List.{All}
use Rattle.fb_units.specs.declared.types.Sweep.{Sweep}
use Rattle.fb_units.specs.declared.types.Track.{Track}
use Rattle.fb_units.specs.Wait.{wait}
use Rattle.fb_geometry.specs.Sound.{IsSound}
use Rattle.fb_service.specs.declared.disk.Disk.{Disk}
use Rattle.fb_wanted.specs.declared.block.Entry.{Entry}
use Rattle.fb_wanted.specs.declared.offer.Offer.{Offer}
use Rattle.fb_wanted.specs.States.{on_track}
use Rattle.fb_rows.specs.declared.gap.Dwell.{Dwell}
use Rattle.fb_rows.specs.declared.gap.Gap.{Gap}
use Rattle.fb_plan.specs.declared.way.Way.{Way}
use Rattle.fb_plan.specs.Ways.{early_track, arrival}
use Rattle.fb_plan.specs.declared.turning.Turning.{Turning}
use Rattle.fb_plan.specs.declared.sides.Sides.{Sides}

-- when a sweep next begins from an instant on
abbrev pub begin_of : ℕ → Sweep → ℕ → ℕ
begin_of rotation sweep t = t + wait rotation sweep.begin t

-- when that sweep ends
abbrev pub end_of : ℕ → Sweep → ℕ → ℕ
end_of rotation sweep t = begin_of rotation sweep t + sweep.length

-- the sweep begins at an angle of the rotation, and takes at most one
pub record IsInTurn (rotation : ℕ) (sweep : Sweep) : Type 0 where
  pub begin : sweep.begin < rotation
  pub length : sweep.length ≤ rotation

-- where a platter stands at an instant up to 9 * 10 ^ 18: `at` is its angle then, and a rotation takes at most a second
pub record Stands (turning : Turning) : Type 0 where
  pub early : turning.from ≤ 9 * 10 ^ 18
  pub short : turning.rotation ≤ 10 ^ 9
  pub at : turning.at ≡ turning.from % turning.rotation

-- where the platter of this disk, which is sound, stands at the instant
pub record IsTurning (disk : Disk) (turning : Turning) : Type 0 where
  pub stands : Stands turning
  pub rotation : turning.rotation ≡ disk.map.rotation
  pub sound : IsSound disk.map

-- the sides of a dwell are the registered blocks of its track, those of the target, and where the disk's platter stands as it begins
pub record AreSides (disk : Disk) (target : Track) (entries : List Entry) (dwell : Dwell) (sides : Sides) : Type 0 where
  pub early : sides.early ≡ on_track dwell.track entries
  pub late : sides.late ≡ on_track target entries
  pub turning : IsTurning disk sides.turning
  pub from : sides.turning.from ≡ dwell.begin

-- all of them begin at an angle of the rotation, and take at most one
abbrev pub AreInTurn : ℕ → List Offer → Type 0
AreInTurn rotation offers = All (λ (offer : Offer). IsInTurn rotation offer.sweep) offers

-- the sweep that begins next ends by the latest instant
abbrev pub passes_by : Turning → ℕ → Sweep → Bool
passes_by turning latest sweep = nat_le (end_of turning.rotation sweep turning.from) latest

-- it ends in either of two dwells, by the instants at which they end
abbrev pub passes_in_either : Turning → ℕ → Turning → ℕ → Sweep → Bool
passes_in_either early leave late deadline sweep = passes_by early leave sweep || passes_by late deadline sweep

-- what an offer adds, if its sweep passes
abbrev pub added : (Sweep → Bool) → Offer → ℕ
added passes offer = if passes offer.sweep then offer.worth else 0

-- the longest early dwell of a way: from the arrival to the deadline
abbrev pub longest_stay : Disk → Gap → Way → Dwell
longest_stay disk gap way = record { track = early_track gap way; begin = arrival disk gap way; end = gap.deadline }
