-- The values of a table's keys.
use Rattle.std.specs.Prelude.{ℕ, pos, List, [], ◌∷◌, ◌==◌, codes, option_map, unwrap_or, if◌then◌else◌}
use Rattle.std.specs.List.{filter_map}
use Rattle.toml.specs.Data.{Data, integer, array, Items, no_items, item, Members, no_members, member, get_member, as_table}
use Rattle.fb_geometry.specs.declared.layout.Layout.{Layout}
use Rattle.fb_geometry.specs.declared.layout.Layout.TheVariants.{PerTrack, PerCylinder}

-- the keys of a table
abbrev pub names_of : Members → List (List ℕ)
names_of no_members = []
names_of (member name value members) = name ∷ names_of members

-- the items of an array as a list
abbrev pub listed : Items → List Data
listed no_items = []
listed (item value items) = value ∷ listed items

-- the elements of an array; any other value has none
abbrev pub elements : Data → List Data
elements (array items) = listed items
elements _ = []

-- the number that a value is, or 0 if it isn't one
abbrev pub number_of : Data → ℕ
number_of (integer (pos n)) = n
number_of _ = 0

-- the number at a key, or 0 if there is none
abbrev pub number_at : List ℕ → Members → ℕ
number_at name table = unwrap_or (option_map number_of (get_member name table)) 0

-- the elements of the array at a key; none if there is no array
abbrev pub elements_at : List ℕ → Members → List Data
elements_at name table = unwrap_or (option_map elements (get_member name table)) []

-- the tables among the elements of `zone`
abbrev pub zones_of : Members → List Members
zones_of table = filter_map as_table (elements_at (codes "zone") table)

-- spares are at the end of each cylinder in a file of version 2, else of each track
abbrev pub layout_of : Members → Layout
layout_of table = if number_at (codes "version") table == 2 then PerCylinder else PerTrack
