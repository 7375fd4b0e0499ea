-- A range is cut into blocks, each of which passes whole in one turn of a track.
use Rattle.std.specs.Prelude.{◌≡◌, ℕ, zero, suc, ◌+◌, ◌-◌, ◌%◌, ◌<◌, List, [], ◌∷◌, Bool, true, ◌&&◌, ◌||◌, not, ◌==◌, nat_lt}
use Rattle.std.specs.Prelude.{if◌then◌else◌}
use Rattle.fb_units.specs.declared.types.Place.{Place}
use Rattle.fb_units.specs.Tracks.{same_track}
use Rattle.fb_geometry.specs.Shape.{Shape, turn_position}
use Rattle.fb_sectormap.specs.declared.cut.Cut.{Cut}
use Rattle.fb_sectormap.specs.LookUp.{place_at, track_at}
use Rattle.fb_sectormap.specs.Sweeps.{sweep_of}

-- a place comes by later in the same turn of the same track
abbrev pub is_later : Shape → Place → Place → Bool
is_later disk before place = same_track before.track place.track && nat_lt (turn_position disk before) (turn_position disk place)

-- `count` sectors from lbn on come by one after another in one turn of a track
abbrev pub IsOneTurn : Shape → ℕ → ℕ → Type 0
IsOneTurn disk lbn count = (i : ℕ) → i + 1 < count → is_later disk (place_at disk (lbn + i)) (place_at disk (lbn + i + 1)) ≡ true

-- a block begins at lbn: it is a multiple of the block size, or its place isn't later in the same turn than that of the sector before
abbrev pub is_cut_before : Shape → ℕ → ℕ → Bool
is_cut_before disk block lbn = (lbn % block == 0) || not (is_later disk (place_at disk (lbn - 1)) (place_at disk lbn))

-- the block that has `count` sectors from lbn on
abbrev pub cut_of : Shape → ℕ → ℕ → Cut
cut_of disk lbn count = record { lbn = lbn; count = count; track = track_at disk lbn; sweep = sweep_of disk lbn count }

-- the blocks with the sector before them: it is a block of its own, or joins the first one
abbrev pub with_sector : Shape → ℕ → ℕ → List Cut → List Cut
with_sector disk block lbn [] = cut_of disk lbn 1 ∷ []
with_sector disk block lbn (cut ∷ cuts) = if is_cut_before disk block (lbn + 1)
    then cut_of disk lbn 1 ∷ cut ∷ cuts
    else cut_of disk lbn (cut.count + 1) ∷ cuts

-- the blocks into which n sectors from lbn on are cut
unfoldable pub cutting : Shape → ℕ → ℕ → ℕ → List Cut
cutting disk block lbn zero = []
cutting disk block lbn (suc n) = with_sector disk block lbn (cutting disk block (lbn + 1) n)
