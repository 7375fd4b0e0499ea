-- A text is split into lines, and a line into fields.
use Rattle.std.specs.Prelude.{ℕ, List, [], ◌∷◌, length, Bool, ◌||◌, ◌==◌, nat_lt, if◌then◌else◌, map, filter}
use Rattle.std.specs.List.{slice_split}
use Rattle.std.specs.Str.Lines.{strip_carriage_return}

-- a space or a tab
abbrev pub is_blank : ℕ → Bool
is_blank byte = (byte == 32) || (byte == 9)

-- the parts without the last one if that is empty
abbrev pub but_empty_last : List (List ℕ) → List (List ℕ)
but_empty_last [] = []
but_empty_last (part ∷ []) = if length part == 0 then [] else part ∷ []
but_empty_last (part ∷ next ∷ parts) = part ∷ but_empty_last (next ∷ parts)

-- what is between the line feeds of a text, each without one carriage return at its end; a line feed at the very end begins no further line
unfoldable pub lines_of : List ℕ → List (List ℕ)
lines_of text = map strip_carriage_return (but_empty_last (slice_split (λ byte. byte == 10) text))

-- what is between the spaces and tabs of a line
unfoldable pub fields_of : List ℕ → List (List ℕ)
fields_of line = filter (λ field. nat_lt 0 (length field)) (slice_split is_blank line)
