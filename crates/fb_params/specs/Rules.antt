-- The rules that each key of a file has to obey, and the first key that breaks one.
use Rattle.std.specs.Prelude.{ℕ, ◌%◌, pos, negsuc, List, [], ◌∷◌, ◌++◌, length, Bool, true, false, ◌&&◌, not, ◌==◌, nat_le, Option, Some}
use Rattle.std.specs.Prelude.{None, is_some, option_map}
use Rattle.std.specs.List.{list_any, list_all, filter, find}
use Rattle.std.specs.Option.{option_or}
use Rattle.std.specs.Ordering.{nat_cmp, is_lt}
use Rattle.std.specs.Cmp.Lexicographic.{slice_cmp}
use Rattle.std.specs.Str.{bytes_eq}
use Rattle.toml.specs.Data.{Data, integer, Members, get_member, as_integer, as_array, as_table}
use Rattle.fb_geometry.specs.declared.layout.Layout.{Layout}
use Rattle.fb_geometry.specs.Faults.{least}
use Rattle.fb_params.specs.declared.key.Kind.{Kind}
use Rattle.fb_params.specs.declared.key.Kind.TheVariants.{Number, Numbers, Rows, Tables}
use Rattle.fb_params.specs.declared.key.Range.{Range}
use Rattle.fb_params.specs.declared.rule.Rule.{Rule}
use Rattle.fb_params.specs.declared.rule.Rule.TheVariants.{Known, Present, OfKind, InRange}
use Rattle.fb_params.specs.Keys.{Key, front_keys, back_keys, zone_keys}
use Rattle.fb_params.specs.Names.{in_zone}
use Rattle.fb_params.specs.Tables.{names_of, elements, zones_of}

abbrev pub is_integer : Data → Bool
is_integer value = is_some (as_integer value)

abbrev pub is_table : Data → Bool
is_table value = is_some (as_table value)

-- an array whose elements all pass
abbrev pub is_array_of : (Data → Bool) → Data → Bool
is_array_of passes value = is_some (as_array value) && list_all passes (elements value)

-- an array of exactly `width` integers
abbrev pub is_row : ℕ → Data → Bool
is_row width value = is_array_of is_integer value && (length (elements value) == width)

-- the value is of this kind, whatever its numbers are
abbrev pub is_of : Kind → Data → Bool
is_of Number value = is_integer value
is_of Numbers value = is_array_of is_integer value
is_of (Rows width) value = is_array_of (is_row width) value
is_of Tables value = is_array_of is_table value

-- a number in the range, or not a number at all
abbrev pub is_within : Range → Data → Bool
is_within range (integer (pos n)) = nat_le range.low n && nat_le n range.high && (n % range.multiple == 0)
is_within range (integer (negsuc n)) = false
is_within range _ = true

-- the value is within the range, and so are its elements
abbrev pub is_row_within : Range → Data → Bool
is_row_within range value = is_within range value && list_all (is_within range) (elements value)

-- the value is within the range, and so are its elements and theirs
abbrev pub are_all_within : Range → Data → Bool
are_all_within range value = is_within range value && list_all (is_row_within range) (elements value)

-- the key with this value, or without one, breaks the rule
abbrev pub breaks : Rule → Key → Option Data → Bool
breaks Present key None = key.required
breaks OfKind key (Some value) = not (is_of key.kind value)
breaks InRange key (Some value) = not (are_all_within key.range value)
breaks _ _ _ = false

-- one of the keys has this name
abbrev pub is_name_of : List Key → List ℕ → Bool
is_name_of keys name = list_any (λ key. bytes_eq key.name name) keys

-- names are ordered by their bytes
abbrev pub comes_before : List ℕ → List ℕ → Bool
comes_before a b = is_lt (slice_cmp nat_cmp a b)

-- the first of these keys that breaks the rule in the table; for unknown names the least of them
abbrev pub first_in : Rule → List Key → Members → Option (List ℕ)
first_in Known keys table = least comes_before (filter (λ name. not (is_name_of keys name)) (names_of table))
first_in rule keys table = option_map (λ key. key.name) (find (λ key. breaks rule key (get_member key.name table)) keys)

-- the first value that f gives for one of these
abbrev pub first_some : {A B : Type 0} → (A → Option B) → List A → Option B
first_some f [] = None
first_some f (x ∷ xs) = option_or (f x) (first_some f xs)

-- the first key in the zones, zone by zone, that breaks the rule
abbrev pub first_in_zones : Rule → Layout → Members → Option (List ℕ)
first_in_zones rule layout table = option_map in_zone (first_some (first_in rule (zone_keys layout)) (zones_of table))

-- the first key that breaks the rule: unknown and missing keys of zones come after those of the file, other faults of zones at `zone`
abbrev pub first_key : Rule → Layout → Members → Option (List ℕ)
first_key Known layout table = option_or (first_in Known (front_keys ++ back_keys layout) table) (first_in_zones Known layout table)
first_key Present layout table = option_or (first_in Present (front_keys ++ back_keys layout) table) (first_in_zones Present layout table)
first_key rule layout table =
    option_or (first_in rule front_keys table) (option_or (first_in_zones rule layout table) (first_in rule (back_keys layout) table))
