-- The places of all data sectors of a disk, in the order of their LBNs.
use Rattle.std.specs.Prelude.{ℕ, ◌+◌, ◌-◌, ◌*◌, List, [], ◌∷◌, ◌++◌, Bool, true, false, filter, map, not, take, drop}
use Rattle.std.specs.List.{flat_map, range_with_len}
use Rattle.fb_units.specs.declared.types.Place.{Place}
use Rattle.fb_units.specs.declared.types.Track.{Track}
use Rattle.fb_geometry.specs.declared.layout.Layout.{Layout}
use Rattle.fb_geometry.specs.declared.layout.Layout.TheVariants.{PerTrack, PerCylinder}
use Rattle.fb_geometry.specs.declared.zone.Zone.{Zone}
use Rattle.fb_geometry.specs.Shape.{Shape, zone_tells, offset_in, is_among}

-- the slots of a track of n slots from its offset on to the last, and on from slot 0
abbrev pub turn : ℕ → ℕ → List ℕ
turn n offset = range_with_len offset (n - offset) ++ range_with_len 0 offset

-- the turn of a track without its defects
abbrev pub good_track : Shape → Zone → Track → List Place
good_track disk zone track = filter (λ place. not (is_among disk.defects place))
    (map (λ slot. record { track = track; slot = slot }) (turn zone.sectors (offset_in zone disk.heads track)))

-- what f gives for each track of a cylinder, head by head
abbrev pub by_head : Shape → ℕ → (Track → List Place) → List Place
by_head disk cylinder f = flat_map (λ head. f (record { cylinder = cylinder; head = head })) (range_with_len 0 disk.heads)

-- the place itself, or the first spare instead of it; and the spares that are left
abbrev pub stand_in : Bool → Place → List Place → Place × List Place
stand_in false place spares = (place, spares)
stand_in true place [] = (place, [])
stand_in true place (spare ∷ spares) = (spare, spares)

-- the places, with the i-th grown defect among them replaced by the i-th spare
abbrev pub replaced : Shape → List Place → List Place → List Place
replaced disk [] spares = []
replaced disk (place ∷ places) spares =
    let one = stand_in (is_among disk.grown place) place spares in
    one.0 ∷ replaced disk places one.1

-- the data list with spares at the end of each track
abbrev pub per_track : Shape → Zone → ℕ → List Place
per_track disk zone cylinder = by_head disk cylinder (λ track. take (zone.sectors - zone.spares) (good_track disk zone track))

-- the data list with spares at the end of the cylinder
abbrev pub per_cylinder : Shape → Zone → ℕ → List Place
per_cylinder disk zone cylinder =
    let good = by_head disk cylinder (good_track disk zone) in
    let base = disk.heads * zone.sectors - zone.cylinder_spares in
    replaced disk (take base good) (filter (λ place. not (is_among disk.grown place)) (drop base good))

-- the data list of a cylinder: its places that hold data, in the order of their LBNs
abbrev pub data_list_by : Layout → Shape → Zone → ℕ → List Place
data_list_by PerTrack disk zone cylinder = per_track disk zone cylinder
data_list_by PerCylinder disk zone cylinder = per_cylinder disk zone cylinder

-- the same in the disk's own layout
abbrev pub data_list : Shape → Zone → ℕ → List Place
data_list disk zone cylinder = data_list_by disk.layout disk zone cylinder

-- the same for any cylinder of these zones
abbrev pub list_among : Shape → List Zone → ℕ → List Place
list_among disk zones cylinder = zone_tells [] (λ zone. data_list disk zone cylinder) zones cylinder

-- the data list of any cylinder of the disk
abbrev pub data_list_at : Shape → ℕ → List Place
data_list_at disk cylinder = list_among disk disk.zones cylinder

-- the data lists of a zone's cylinders, one after another
abbrev pub zone_places : Shape → Zone → List Place
zone_places disk zone = flat_map (data_list disk zone) (range_with_len zone.first (zone.last + 1 - zone.first))

-- the place of each sector of the disk, by LBN from 0
unfoldable pub places : Shape → List Place
places disk = flat_map (zone_places disk) disk.zones
