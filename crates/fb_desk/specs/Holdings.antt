-- Bytes held under names, and inputs that are read from them.
use Rattle.std.specs.Prelude.{ℕ, ◌<◌, ◌≤◌, List, [], length, drop, reverse, Option, Some, None, IfSome, slice_get}
use Rattle.std.specs.List.{find}
use Rattle.std.specs.Option.{option_map}
use Rattle.std.specs.Str.{bytes_eq}
use Rattle.fb_desk.specs.declared.desk.Input.{Input}
use Rattle.fb_desk.specs.declared.each.EachInput.{EachInput}
use Rattle.fb_desk.specs.declared.holdings.Reading.{Reading}
use Rattle.fb_desk.specs.declared.holdings.Reading.TheVariants.{Unopened, Empty, At}
use Rattle.fb_desk.specs.Each.{of_input}

-- bytes, and the name under which they are held
pub record NamedBytes : Type 0 where
  pub name : List ℕ
  pub bytes : List ℕ

-- what is held, the oldest first, and how far each input was read
pub record Held : Type 0 where
  pub entries : List NamedBytes
  pub readings : EachInput Reading

-- the bytes held under a name: those of the last entry with that name
abbrev pub held_under : List NamedBytes → List ℕ → Option (List ℕ)
held_under entries name = option_map (λ entry. entry.bytes) (find (λ entry. bytes_eq entry.name name) (reverse entries))

-- the bytes of the entry with this index
abbrev pub bytes_at : List NamedBytes → ℕ → Option (List ℕ)
bytes_at entries index = option_map (λ entry. entry.bytes) (slice_get entries index)

-- what a reading has left, if its input is opened
abbrev pub left_of : List NamedBytes → Reading → Option (List ℕ)
left_of entries Unopened = None
left_of entries Empty = Some []
left_of entries (At index done) = option_map (drop done) (bytes_at entries index)

-- what is left of an input, if it is opened
abbrev pub left_in : Held → Input → Option (List ℕ)
left_in held which = left_of held.entries (of_input held.readings which)

-- a reading is of an entry that is held, and no further than its end
abbrev pub IsWithin : List NamedBytes → Reading → Type 0
IsWithin entries Unopened = Unit {0}
IsWithin entries Empty = Unit {0}
IsWithin entries (At index done) = (index < length entries) × IfSome (bytes_at entries index) (λ bytes. done ≤ length bytes)

-- each input's reading is of an entry that is held, and no further than its end
abbrev pub AreWithin : List NamedBytes → EachInput Reading → Type 0
AreWithin entries readings = (which : Input) → IsWithin entries (of_input readings which)
