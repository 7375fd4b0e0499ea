-- Lines of fields.
use Rattle.std.specs.Prelude.{ℕ, List, [], ◌∷◌, ◌++◌, codes, decimal}
use Rattle.fb_units.specs.declared.types.Track.{Track}
use Rattle.fb_units.specs.declared.types.Name.{Name}
use Rattle.fb_units.specs.declared.types.Name.TheVariants.{Traced, Promoted}

-- a line so far, and then more fields, with a space before each
abbrev pub with_fields : List ℕ → List (List ℕ) → List ℕ
with_fields line [] = line
with_fields line (field ∷ fields) = with_fields (line ++ 32 ∷ field) fields

-- a line of fields, with a line feed at its end
abbrev pub line_of : List ℕ → List (List ℕ) → List ℕ
line_of first fields = with_fields first fields ++ 10 ∷ []

-- the first line of a text of this kind
abbrev pub first_line : List ℕ → List ℕ
first_line kind = line_of (codes "freeblock") (kind ∷ codes "1" ∷ [])

-- a request of the trace is called by its number, a promoted read by P and its number
abbrev pub name_text : Name → List ℕ
name_text (Traced n) = decimal n
name_text (Promoted n) = 80 ∷ decimal n

-- cylinder, point, head
abbrev pub track_text : Track → List ℕ
track_text track = decimal track.cylinder ++ 46 ∷ decimal track.head
