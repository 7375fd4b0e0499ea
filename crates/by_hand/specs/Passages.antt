-- Where sectors of small disks are, and when they pass.
use Rattle.std.specs.Prelude.{◌≡◌, ℕ, ◌*◌, [], ◌∷◌, length, false}
use Rattle.fb_units.specs.declared.types.Place.{Place}
use Rattle.fb_geometry.specs.Places.{places}
use Rattle.fb_sectormap.specs.LookUp.{IsAt}
use Rattle.fb_sectormap.specs.Cutting.{cutting}
use Rattle.fb_sectormap.specs.declared.cut.Cut.{Cut}
use Rattle.fb_service.specs.declared.passage.Passage.{Passage}
use Rattle.fb_service.specs.Service.{passages}
use Rattle.by_hand.specs.SmallDisk.{small_disk, skewed_disk, turned_disk, slipped_disk, remapped_disk}
use Rattle.by_hand.specs.Rows.{at}

-- cylinder, head, slot
abbrev pub place : ℕ → ℕ → ℕ → Place
place cylinder head slot = record { track = at cylinder head; slot = slot }

-- sector, begin, end
abbrev pub passage : ℕ → ℕ → ℕ → Passage
passage lbn begin end = record { lbn = lbn; begin = begin; end = end }

-- sectors of one track, each of which takes 100 ns to pass: the first and how many, cylinder and head, and the angle of the first
abbrev pub cut : ℕ → ℕ → ℕ → ℕ → ℕ → Cut
cut lbn count cylinder head angle =
    record { lbn = lbn; count = count; track = at cylinder head; sweep = record { begin = angle; length = count * 100 } }

-- the second track begins with its slot 2, or with its last
abbrev pub SkewedTracks : Type 0
SkewedTracks = IsAt small_disk.map 12 (place 0 1 0) × IsAt skewed_disk.map 12 (place 0 1 2) × IsAt turned_disk.map 12 (place 0 1 11)
    × IsAt turned_disk.map 13 (place 0 1 0)

-- the sectors behind a bad slot slip by one, to the end of its track
abbrev pub SlippedTrack : Type 0
SlippedTrack = IsAt slipped_disk.map 2 (place 0 0 2) × IsAt slipped_disk.map 3 (place 0 0 4) × IsAt slipped_disk.map 9 (place 0 0 10)
    × IsAt slipped_disk.map 10 (place 0 1 0)

-- the first spare of the cylinder stands in for a slot that went bad, and the others stay
abbrev pub MovedSector : Type 0
MovedSector = (length (places remapped_disk.map) ≡ 88)
    × IsAt remapped_disk.map 2 (place 0 0 2) × IsAt remapped_disk.map 3 (place 0 1 10) × IsAt remapped_disk.map 4 (place 0 0 4)
    × IsAt remapped_disk.map 22 (place 1 0 0)

-- a read of two sectors on two tracks, and the same where the second track is skewed
abbrev pub PassagesOverTracks : Type 0
PassagesOverTracks = (passages small_disk (at 0 0) 0 false 11 2 ≡ passage 11 1100 1200 ∷ passage 12 2400 2500 ∷ [])
    × (passages skewed_disk (at 0 0) 0 false 11 2 ≡ passage 11 1100 1200 ∷ passage 12 1400 1500 ∷ [])

-- a read over a bad slot, and one over a sector that moved
abbrev pub PassagesOverDefects : Type 0
PassagesOverDefects = (passages slipped_disk (at 0 0) 0 false 2 2 ≡ passage 2 200 300 ∷ passage 3 400 500 ∷ [])
    × (passages remapped_disk (at 0 0) 0 false 2 3 ≡ passage 2 200 300 ∷ passage 3 1000 1100 ∷ passage 4 1600 1700 ∷ [])

-- ranges cut at multiples, at the border of two tracks, and around a sector that moved
abbrev pub Cuttings : Type 0
Cuttings = (cutting small_disk.map 8 6 11 ≡ cut 6 2 0 0 600 ∷ cut 8 4 0 0 800 ∷ cut 12 4 0 1 0 ∷ cut 16 1 0 1 400 ∷ [])
    × (cutting remapped_disk.map 8 2 3 ≡ cut 2 1 0 0 200 ∷ cut 3 1 0 1 1000 ∷ cut 4 1 0 0 400 ∷ [])
    × (cutting turned_disk.map 2 12 2 ≡ cut 12 2 0 1 1100 ∷ [])
