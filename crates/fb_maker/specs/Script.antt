-- A call script that is generated for a disk.
use Rattle.std.specs.Prelude.{ℕ, ◌-◌, min, List, [], ◌∷◌, ◌++◌, length, decimal, codes, Bool, false, nat_le, if◌then◌else◌}
use Rattle.std.specs.List.{flat_map, list_all}
use Rattle.fb_geometry.specs.declared.layout.Layout.{Layout}
use Rattle.fb_geometry.specs.declared.layout.Layout.TheVariants.{PerTrack, PerCylinder}
use Rattle.fb_geometry.specs.declared.zone.Zone.{Zone}
use Rattle.fb_script.specs.declared.call.Action.{Action}
use Rattle.fb_script.specs.declared.call.Action.TheVariants.{Open, Want}
use Rattle.fb_script.specs.declared.call.Call.{Call}
use Rattle.fb_script.specs.declared.call.Kind.TheVariants.{Scrub, Backup}
use Rattle.fb_geometry.specs.Shape.{Shape}
use Rattle.fb_geometry.specs.Places.{places, zone_places}

-- the number of sectors of the first zone
abbrev pub first_zone : Shape → List Zone → ℕ
first_zone disk [] = 0
first_zone disk (zone ∷ zones) = length (zone_places disk zone)

-- a track of the zone has at least 16 sectors for data, with spares at the end of each track
abbrev pub is_long : Zone → Bool
is_long zone = nat_le 16 (zone.sectors - zone.spares)

-- spares are at the end of each track, and no track is short
abbrev pub has_long_tracks : Layout → List Zone → Bool
has_long_tracks PerTrack zones = list_all is_long zones
has_long_tracks PerCylinder zones = false

-- the most sectors that a range of the script has, so that the limit on blocks is sure to allow them
abbrev pub most : Shape → ℕ
most disk = if has_long_tracks disk.layout disk.zones then 20000000 else 1000000

-- the line of a want that begins like this: `sectors` sectors from sector 0 on, or as many as the script may want
abbrev pub wanted : List ℕ → Shape → ℕ → List ℕ
wanted front disk sectors = front ++ decimal (min sectors (most disk)) ++ 10 ∷ []

-- the lines of a scrub of the disk and of a backup of its first zone
unfoldable pub script_lines : Shape → List (List ℕ)
script_lines disk =
    codes "0.000000 open scrub scrub 1 16\n"
    ∷ wanted (codes "0.000000 want scrub 0 ") disk (length (places disk))
    ∷ codes "0.000000 open backup backup 2 16\n"
    ∷ wanted (codes "0.000000 want backup 0 ") disk (first_zone disk disk.zones)
    ∷ []

-- the text of the script
abbrev pub script_text : Shape → List ℕ
script_text disk = flat_map (λ line. line) (script_lines disk)

-- a call at instant 0
abbrev pub call_at : ℕ → ℕ → Action → Call
call_at line task action = record { line = line; instant = 0; task = task; action = action }

-- the calls of the lines
abbrev pub script_calls : Shape → List Call
script_calls disk =
    call_at 1 0 (Open Scrub 1 16)
    ∷ call_at 2 0 (Want 0 (min (length (places disk)) (most disk)))
    ∷ call_at 3 1 (Open Backup 2 16)
    ∷ call_at 4 1 (Want 0 (min (first_zone disk disk.zones) (most disk)))
    ∷ []
