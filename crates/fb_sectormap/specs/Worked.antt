-- Sectors of small disks, worked out by hand: four cylinders, two heads, twelve slots a track, and two spares to each track or cylinder.
use Rattle.std.specs.Prelude.{◌≡◌, ℕ, List, [], ◌∷◌}
use Rattle.fb_units.specs.declared.types.Place.{Place}
use Rattle.fb_units.specs.declared.types.Sweep.{Sweep}
use Rattle.fb_units.specs.declared.types.Track.{Track}
use Rattle.fb_geometry.specs.declared.layout.Layout.{Layout}
use Rattle.fb_geometry.specs.declared.layout.Layout.TheVariants.{PerTrack, PerCylinder}
use Rattle.fb_geometry.specs.Shape.{Shape}
use Rattle.fb_sectormap.specs.declared.cut.Cut.{Cut}
use Rattle.fb_sectormap.specs.LookUp.{IsAt}
use Rattle.fb_sectormap.specs.Cutting.{cutting}

-- such a disk, with a layout, spares per track and per cylinder, defects and grown defects
abbrev pub outline : Layout → ℕ → ℕ → List Place → List Place → Shape
outline layout spares cylinder_spares defects grown = record {
  layout = layout;
  rotation = 1200;
  heads = 2;
  zones = record {
    first = 0;
    last = 3;
    sectors = 12;
    track_skew = 0;
    cylinder_skew = 0;
    spares = spares;
    cylinder_spares = cylinder_spares;
  } ∷ [];
  defects = defects;
  grown = grown;
}

abbrev pub track : ℕ → ℕ → Track
track cylinder head = record { cylinder = cylinder; head = head }

abbrev pub place : ℕ → ℕ → ℕ → Place
place cylinder head slot = record { track = track cylinder head; slot = slot }

-- spares per track, and slot 3 of track 0.0 is bad
abbrev pub slipping : Shape
slipping = outline PerTrack 2 0 (place 0 0 3 ∷ []) []

-- spares per cylinder, and the same slot is bad
abbrev pub slipping_over : Shape
slipping_over = outline PerCylinder 0 2 (place 0 0 3 ∷ []) []

-- spares per cylinder, and slot 4 of track 0.1 went bad later
abbrev pub remapped : Shape
remapped = outline PerCylinder 0 2 [] (place 0 1 4 ∷ [])

-- the sectors behind a bad slot slip on by one, as far as the end of its track
abbrev pub SlipsOnTrack : Type 0
SlipsOnTrack = IsAt slipping 3 (place 0 0 4) × IsAt slipping 10 (place 0 1 0)

-- neither the bad slot nor the spare behind the track's last sector holds data
abbrev pub HoldNothing : Type 0
HoldNothing = ((lbn : ℕ) → IsAt slipping lbn (place 0 0 3) → ⊥) × ((lbn : ℕ) → IsAt slipping lbn (place 0 0 11) → ⊥)

-- the sectors behind a bad slot slip on by one, as far as the end of its cylinder
abbrev pub SlipsOnCylinder : Type 0
SlipsOnCylinder = IsAt slipping_over 10 (place 0 0 11) × IsAt slipping_over 11 (place 0 1 0) × IsAt slipping_over 22 (place 1 0 0)

-- a block of two sectors on track 0.1
abbrev pub block : ℕ → Sweep → Cut
block lbn sweep = record { lbn = lbn; count = 2; track = track 0 1; sweep = sweep }

-- a sector that has moved to a spare ends its block, since the next one comes by before it
abbrev pub CutBehindMoved : Type 0
CutBehindMoved = IsAt remapped 15 (place 0 1 3) × IsAt remapped 16 (place 0 1 10) × IsAt remapped 17 (place 0 1 5)
    × IsAt remapped 18 (place 0 1 6)
    × (cutting remapped 20 15 4 ≡ block 15 (record { begin = 300; length = 800 }) ∷ block 17 (record { begin = 500; length = 200 }) ∷ [])
