-- What the bytes of a parameter file mean: the value of an accepted file, or the first fault.
use Rattle.std.specs.Prelude.{ℕ, List, length, codes, nat_le, if◌then◌else◌, Option, Some, None, option_map, Result, Ok, Err}
use Rattle.std.specs.List.{find}
use Rattle.std.specs.Str.{is_utf8}
use Rattle.toml.specs.Data.{Members}
use Rattle.toml.specs.Parse.{parse_document}
pub use Rattle.fb_units.specs.Reading.{Answers}
use Rattle.fb_geometry.specs.declared.layout.Layout.{Layout}
use Rattle.fb_geometry.specs.Shape.{Shape, cylinders_of}
use Rattle.fb_geometry.specs.Places.{places}
use Rattle.fb_geometry.specs.Faults.{first_fault}
use Rattle.fb_seek.specs.Mechanics.{Mechanics}
use Rattle.fb_seek.specs.Faults.{first_fault as first_seek_fault}
use Rattle.fb_params.specs.declared.rule.Rule.{Rule}
use Rattle.fb_params.specs.declared.rule.Rule.TheVariants.{Known, Present, OfKind, InRange}
use Rattle.fb_params.specs.declared.fault.ParamsFault.{ParamsFault}
use Rattle.fb_params.specs.declared.fault.ParamsFault.TheVariants.{NotToml, UnknownKey, MissingKey, WrongKind, OutOfRange, Geometry, Seek}
use Rattle.fb_params.specs.declared.fault.ParamsFault.TheVariants.{LatentOutside}
use Rattle.fb_params.specs.declared.parameters.Parameters.{Parameters}
use Rattle.fb_params.specs.Tables.{number_at, layout_of}
use Rattle.fb_params.specs.Rules.{first_key}
use Rattle.fb_params.specs.ParamsValue.{ParamsValue, outline_of, mechanics_of, listed_latent, ascending}

-- the TOML document of these bytes, if they are one
unfoldable pub document_of : List ℕ → Option Members
document_of bytes = if is_utf8 bytes then parse_document bytes else None

-- the value if there is one, else the fault
abbrev pub or_fault : {A : Type 0} → ParamsFault → Option A → Result A ParamsFault
or_fault fault None = Err fault
or_fault fault (Some a) = Ok a

-- the fault if there is one, else the value
abbrev pub unless_fault : {A : Type 0} → A → Option ParamsFault → Result A ParamsFault
unless_fault a None = Ok a
unless_fault a (Some fault) = Err fault

infixl 10 ◌>>=◌ ◌>>◌
-- the next check on the value of the first, unless that one refused
abbrev pub ◌>>=◌ : {A B : Type 0} → Result A ParamsFault → (A → Result B ParamsFault) → Result B ParamsFault
Ok a >>= f = f a
Err fault >>= f = Err fault

-- the next check, unless the first one refused
abbrev pub ◌>>◌ : {A B : Type 0} → Result A ParamsFault → Result B ParamsFault → Result B ParamsFault
first >> next = first >>= (λ _. next)

-- the fault of a key that breaks a rule
abbrev pub fault_of : Rule → List ℕ → ParamsFault
fault_of Known name = UnknownKey name
fault_of Present name = MissingKey name
fault_of OfKind name = WrongKind name
fault_of InRange name = OutOfRange name

-- Ok if all keys obey the rule, else the fault of the first key that breaks it
unfoldable pub keeps : Rule → Layout → Members → Result (Unit {0}) ParamsFault
keeps rule layout table = unless_fault tt (option_map (fault_of rule) (first_key rule layout table))

-- the outline if it has no fault, else its first fault
abbrev pub possible_outline : Shape → Result Shape ParamsFault
possible_outline outline = unless_fault outline (option_map Geometry (first_fault outline))

-- the arm if it has no fault, else its first fault
abbrev pub possible_arm : Mechanics → Result Mechanics ParamsFault
possible_arm arm = unless_fault arm (option_map Seek (first_seek_fault arm))

-- the latent sectors in ascending order, or as a fault the first listed one that isn't below the number of sectors
abbrev pub latent_on : ℕ → List ℕ → Result (List ℕ) ParamsFault
latent_on count listed = unless_fault (ascending listed) (option_map LatentOutside (find (λ lbn. nat_le count lbn) listed))

-- the value of a file whose keys obey all rules, or its first fault: of the outline, of the seek table, of the latent sectors
unfoldable pub params_of_table : Layout → Members → Result ParamsValue ParamsFault
params_of_table layout table = do
  outline ← possible_outline (outline_of layout table)
  arm ← possible_arm (mechanics_of (cylinders_of outline.zones) table)
  latent ← latent_on (length (places outline)) (listed_latent table)
  Ok (record { outline = outline; mechanics = arm; sector_bytes = number_at (codes "sector_bytes") table; latent = latent })

-- the value of a document, or its first fault: each kind of fault is looked for in the whole document before the next
unfoldable pub params_of_document : Members → Result ParamsValue ParamsFault
params_of_document table = do
  let layout = layout_of table
  keeps Known layout table
  keeps Present layout table
  keeps OfKind layout table
  keeps InRange layout table
  params_of_table layout table

-- the value of a file, or its first fault
unfoldable pub params_of : List ℕ → Result ParamsValue ParamsFault
params_of bytes = do
  table ← or_fault NotToml (document_of bytes)
  params_of_document table

-- the value that parameters hold
abbrev pub held : Parameters → ParamsValue
held params = record {
  outline = params.disk.map;
  mechanics = params.disk.mechanism;
  sector_bytes = params.disk.sector_bytes;
  latent = params.latent.items;
}
