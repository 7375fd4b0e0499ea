-- The keys of a parameter file and of its zones, in the order in which they are checked.
use Rattle.std.specs.Prelude.{ℕ, ◌^◌, List, [], ◌∷◌, Bool, true, false, codes}
use Rattle.fb_geometry.specs.declared.layout.Layout.{Layout}
use Rattle.fb_geometry.specs.declared.layout.Layout.TheVariants.{PerTrack, PerCylinder}
use Rattle.fb_params.specs.declared.key.Kind.{Kind}
use Rattle.fb_params.specs.declared.key.Kind.TheVariants.{Number, Numbers, Rows, Tables}
use Rattle.fb_params.specs.declared.key.Range.{Range}
use Rattle.fb_params.specs.declared.key.Key.{Key as DeclaredKey}

-- a key: its name, the kind of its value, the range of each number in it, and whether it is required
pub record Key : Type 0 where
  pub name : List ℕ
  pub kind : Kind
  pub range : Range
  pub required : Bool

-- a required key
abbrev pub must : List ℕ → Kind → Range → Key
must name kind range = record { name = name; kind = kind; range = range; required = true }

-- a key that may be left out
abbrev pub may : List ℕ → Kind → Range → Key
may name kind range = record { name = name; kind = kind; range = range; required = false }

-- the numbers from low to high
abbrev pub from_to : ℕ → ℕ → Range
from_to low high = record { low = low; high = high; multiple = 1 }

-- the keys of the file up to `zone`
abbrev pub front_keys : List Key
front_keys =
    must (codes "version") Number (from_to 1 2)
    ∷ must (codes "rotation_ns") Number (from_to 1 (10 ^ 9))
    ∷ must (codes "sector_bytes") Number (record { low = 16; high = 4096; multiple = 16 })
    ∷ must (codes "heads") Number (from_to 1 64)
    ∷ must (codes "head_switch_ns") Number (from_to 0 (10 ^ 9))
    ∷ must (codes "write_settle_ns") Number (from_to 0 (10 ^ 9))
    ∷ must (codes "seek") (Rows 2) (from_to 0 (10 ^ 9))
    ∷ must (codes "zone") Tables (from_to 0 0)
    ∷ []

-- places that are bad from the first: cylinder, head and slot
abbrev pub defects_key : Key
defects_key = may (codes "defects") (Rows 3) (from_to 0 999999)

-- places that went bad later
abbrev pub grown_key : Key
grown_key = may (codes "grown") (Rows 3) (from_to 0 999999)

-- sectors that cannot be read at first
abbrev pub latent_key : Key
latent_key = may (codes "latent") Numbers (from_to 0 (10 ^ 12))

-- the keys after `zone`: only a file with spares per cylinder may list grown defects
abbrev pub back_keys : Layout → List Key
back_keys PerTrack = defects_key ∷ latent_key ∷ []
back_keys PerCylinder = defects_key ∷ grown_key ∷ latent_key ∷ []

-- the key of the spares of each track, or of each cylinder
abbrev pub spares_key : Layout → Key
spares_key PerTrack = may (codes "spares") Number (from_to 0 10000)
spares_key PerCylinder = may (codes "cylinder_spares") Number (from_to 0 640000)

-- the keys of a zone
abbrev pub zone_keys : Layout → List Key
zone_keys layout =
    must (codes "first") Number (from_to 0 999999)
    ∷ must (codes "last") Number (from_to 0 999999)
    ∷ must (codes "sectors") Number (from_to 1 10000)
    ∷ may (codes "track_skew") Number (from_to 0 10000)
    ∷ may (codes "cylinder_skew") Number (from_to 0 10000)
    ∷ spares_key layout
    ∷ []

-- a key of the code's tables, as one of these
abbrev pub key_of : DeclaredKey → Key
key_of key = record { name = key.name.now; kind = key.kind; range = key.range; required = key.required }
