-- The grammar of printed reports.
use Rattle.std.specs.Prelude.{ℕ, ◌+◌, ◌^◌, List, [], ◌∷◌, ◌++◌, length, replicate, Bool, true, false, not, ◌&&◌, ◌||◌, ◌==◌, nat_le, nat_lt}
use Rattle.std.specs.Prelude.{Result, Ok, Err, codes, if◌then◌else◌}
use Rattle.std.specs.Char.{is_ascii_digit}
use Rattle.std.specs.List.{after_first, before_first, join_with_byte, list_all, list_any, slice_split}
use Rattle.std.specs.Str.{bytes_eq}
use Rattle.fb_units.specs.Numbers.{are_digits, digits_after}
use Rattle.fb_script.specs.Names.{is_name}

-- ---- fields

-- no digit stands behind a zero at the front
abbrev pub has_no_leading_zero : List ℕ → Bool
has_no_leading_zero [] = true
has_no_leading_zero (digit ∷ digits) = not (digit == 48) || (length digits == 0)

-- a decimal number below 2^64, without a leading zero
abbrev pub is_number : List ℕ → Bool
is_number text = are_digits text && has_no_leading_zero text && nat_lt (digits_after 0 text) (2 ^ 64)

abbrev pub is_point : ℕ → Bool
is_point byte = byte == 46

-- two numbers joined by a point
abbrev pub is_track : List ℕ → Bool
is_track text = is_number (before_first is_point text) && is_number (after_first is_point text)

-- the name of a request: a number, or P and a number
abbrev pub is_request : List ℕ → Bool
is_request [] = false
is_request (byte ∷ bytes) = if byte == 80 then is_number bytes else is_number (byte ∷ bytes)

-- a hexadecimal digit in lower case
abbrev pub is_lower_hex : ℕ → Bool
is_lower_hex byte = is_ascii_digit byte || (nat_le 97 byte && nat_le byte 102)

-- bytes or a digest: a dash, or one or more hexadecimal digits
abbrev pub are_bytes : List ℕ → Bool
are_bytes text = bytes_eq text (codes "-") || (nat_lt 0 (length text) && list_all is_lower_hex text)

abbrev pub is_word : List ℕ → List ℕ → Bool
is_word word text = bytes_eq text word

abbrev pub is_one_of : List (List ℕ) → List ℕ → Bool
is_one_of words text = list_any (bytes_eq text) words

-- ---- lines

-- what a field must be
abbrev pub Form : Type 0
Form = List ℕ → Bool

abbrev pub numbers : ℕ → List Form
numbers n = replicate n is_number

-- each field is what it must be, and none is missing or too many
abbrev pub have_forms : List Form → List (List ℕ) → Bool
have_forms [] [] = true
have_forms [] (field ∷ fields) = false
have_forms (form ∷ forms) [] = false
have_forms (form ∷ forms) (field ∷ fields) = form field && have_forms forms fields

-- the fields of a line
abbrev pub LineFields : Type 0
LineFields = List (List ℕ)

-- what is between the spaces of a line
abbrev pub report_fields : List ℕ → LineFields
report_fields line = slice_split (λ byte. byte == 32) line

abbrev pub is_line_of : List Form → List ℕ → Bool
is_line_of forms line = have_forms forms (report_fields line)

-- the first line of a report, the lines that may stand between, and the last line
pub record Grammar : Type 0 where
  pub first : List Form
  pub rows : List (List Form)
  pub last : List Form

-- the foreground report: reads and writes, and how many rows there are and how many requests were passed over
abbrev pub fore_grammar : Grammar
fore_grammar = record {
  first = is_word (codes "freeblock") ∷ is_word (codes "fore") ∷ is_word (codes "1") ∷ [];
  rows = (is_request ∷ is_word (codes "R") ∷ numbers 7 ++ are_bytes ∷ [])
      ∷ (is_request ∷ is_word (codes "W") ∷ numbers 6 ++ is_word (codes "0") ∷ is_word (codes "-") ∷ [])
      ∷ [];
  last = is_word (codes "end") ∷ numbers 2;
}

abbrev pub gap_forms : List Form
gap_forms = is_word (codes "gap") ∷ is_request ∷ is_track ∷ is_track ∷ numbers 2

-- the background report: gaps by their two plans, idle dwells, deliveries, unreadable sectors, seals, segments, completions and tasks; and
-- the
-- run's end
abbrev pub back_grammar : Grammar
back_grammar = record {
  first = is_word (codes "freeblock") ∷ is_word (codes "back") ∷ is_word (codes "1") ∷ [];
  rows = (gap_forms ++ is_word (codes "direct") ∷ is_number ∷ [])
      ∷ (gap_forms ++ is_word (codes "detour") ∷ is_track ∷ is_number ∷ [])
      ∷ (is_word (codes "idle") ∷ is_track ∷ numbers 2)
      ∷ (is_word (codes "got") ∷ is_name ∷ numbers 5 ++ is_one_of (codes "gap" ∷ codes "idle" ∷ codes "ride" ∷ []) ∷ is_number ∷ are_bytes
      ∷ [])
      ∷ (is_word (codes "bad") ∷ is_name ∷ is_number ∷ [])
      ∷ (is_word (codes "seal") ∷ is_name ∷ numbers 2 ++ are_bytes ∷ [])
      ∷ (is_word (codes "seg") ∷ is_name ∷ numbers 3 ++ are_bytes ∷ [])
      ∷ (is_word (codes "done") ∷ is_name ∷ is_number ∷ [])
      ∷ (is_word (codes "task") ∷ is_name ∷ is_one_of (codes "plain" ∷ codes "backup" ∷ codes "scrub" ∷ codes "clean" ∷ []) ∷ numbers 4
      ++ is_one_of (codes "complete" ∷ codes "open" ∷ []) ∷ [])
      ∷ [];
  last = is_word (codes "end") ∷ is_number ∷ [];
}

-- ---- reports

-- the line may stand behind these: the first line stands at the front, and rows behind it
abbrev pub may_follow : Grammar → List LineFields → LineFields → Bool
may_follow grammar [] line = have_forms grammar.first line
may_follow grammar (first ∷ rows) line = list_any (λ forms. have_forms forms line) grammar.rows

-- the line may end a report that begins with these
abbrev pub may_end : Grammar → List LineFields → LineFields → Bool
may_end grammar [] line = false
may_end grammar (first ∷ rows) line = have_forms grammar.last line

-- a report that ends with this line: nothing stands behind its line feed; else this line is out of its place, or the rest without a line
-- feed is
abbrev pub ended_with : List LineFields → LineFields → List (List ℕ) → Result (List LineFields) ℕ
ended_with lines line [] = Ok (lines ++ line ∷ [])
ended_with lines line ([] ∷ []) = Ok (lines ++ line ∷ [])
ended_with lines line ((byte ∷ bytes) ∷ []) = Err (length lines + 2)
ended_with lines line (next ∷ other ∷ parts) = Err (length lines + 1)

-- the lines so far and then this one, with what is read behind it if it is a row
abbrev pub with_line : Grammar → List LineFields → LineFields → List (List ℕ) → Result (List LineFields) ℕ → Result (List LineFields) ℕ
with_line grammar lines line parts later =
    if may_follow grammar lines line then later
    else if may_end grammar lines line then ended_with lines line parts
    else Err (length lines + 1)

-- the lines so far, and then those of the parts between line feeds, of which the last part is no line
unfoldable pub lines_behind : Grammar → List LineFields → List (List ℕ) → Result (List LineFields) ℕ
lines_behind grammar lines [] = Err (length lines + 1)
lines_behind grammar lines (rest ∷ []) = Err (length lines + 1)
lines_behind grammar lines (line ∷ next ∷ parts) =
    with_line grammar lines (report_fields line) (next ∷ parts) (lines_behind grammar (lines ++ report_fields line ∷ []) (next ∷ parts))

-- the lines of a report, each as its fields; or the number, from 1, of the first that isn't in its place
abbrev pub report_of : Grammar → List ℕ → Result (List LineFields) ℕ
report_of grammar text = lines_behind grammar [] (slice_split (λ byte. byte == 10) text)

-- a line with its line feed
abbrev pub ended : List ℕ → List ℕ
ended line = line ++ 10 ∷ []

-- fields as a line: a space between each two, and a line feed at the end
abbrev pub spelled : LineFields → List ℕ
spelled fields = ended (join_with_byte 32 fields)
