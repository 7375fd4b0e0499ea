-- The sectors of a disk are numbered cylinder by cylinder.
use Rattle.std.specs.Prelude.{◌≡◌, ℕ, ◌+◌, ◌-◌, ◌*◌, ◌/◌, ◌%◌, ◌^◌, ◌<◌, ◌≤◌, List, length, map}
use Rattle.std.specs.List.{flat_map, range_with_len}
use Rattle.fb_geometry.specs.declared.zone.Zone.{Zone}
use Rattle.fb_geometry.specs.Shape.{Shape, cylinders_of}
use Rattle.fb_geometry.specs.Places.{places, data_list_at}
use Rattle.fb_geometry.specs.Sound.{IsSound, cylinder_size}
use Rattle.fb_sectormap.specs.declared.numbering.ZoneStart.{ZoneStart}
use Rattle.fb_sectormap.specs.LookUp.{track_at}

-- the sector is the first one of the cylinder
pub record IsFirstOf (disk : Shape) (cylinder lbn : ℕ) : Type 0 where
  pub on_disk : lbn < length (places disk)
  pub here : (track_at disk lbn).cylinder ≡ cylinder
  pub least : (other : ℕ) → other < length (places disk) → (track_at disk other).cylinder ≡ cylinder → lbn ≤ other

-- no sector is on a lesser cylinder than a sector with a lesser LBN
abbrev pub CylindersRise : Shape → Type 0
CylindersRise disk = (a b : ℕ) → a ≤ b → b < length (places disk) → (track_at disk a).cylinder ≤ (track_at disk b).cylinder

-- how many sectors the cylinders before this one have
unfoldable pub sectors_before : Shape → ℕ → ℕ
sectors_before disk cylinder = length (flat_map (data_list_at disk) (range_with_len 0 cylinder))

-- the LBN is that of this sector of the cylinder, counted from 0 on it
pub record IsSectorOf (disk : Shape) (cylinder sector lbn : ℕ) : Type 0 where
  pub on_disk : cylinder < cylinders_of disk.zones
  pub inside : sector < length (data_list_at disk cylinder)
  pub number : lbn ≡ sectors_before disk cylinder + sector

-- where the sectors of a zone begin
abbrev pub start_of : Shape → Zone → ZoneStart
start_of disk zone = record { cylinder = zone.first; lbn = sectors_before disk zone.first; cylinder_sectors = cylinder_size disk zone }

-- from the start of a zone follow the cylinder of a sector and which one of that cylinder it is
pub record TellsSector (disk : Shape) (start : ZoneStart) (lbn : ℕ) : Type 0 where
  pub from : start.lbn ≤ lbn
  pub some : 0 < start.cylinder_sectors
  pub few : start.cylinder + (lbn - start.lbn) / start.cylinder_sectors ≤ 10 ^ 6
  pub sector : IsSectorOf disk
      (start.cylinder + (lbn - start.lbn) / start.cylinder_sectors) ((lbn - start.lbn) % start.cylinder_sectors) lbn

-- from the start of a zone follows the first sector of a cylinder
pub record TellsFirst (disk : Shape) (start : ZoneStart) (cylinder : ℕ) : Type 0 where
  pub from : start.cylinder ≤ cylinder
  pub few : start.lbn + (cylinder - start.cylinder) * start.cylinder_sectors ≤ 10 ^ 12
  pub first : IsFirstOf disk cylinder (start.lbn + (cylinder - start.cylinder) * start.cylinder_sectors)

-- what a map holds: the starts of all zones, and the number of sectors of the disk
pub record IsMapped (disk : Shape) (starts : List ZoneStart) (count : ℕ) : Type 0 where
  pub sound : IsSound disk
  pub starts_are : starts ≡ map (start_of disk) disk.zones
  pub count_is : count ≡ length (places disk)
