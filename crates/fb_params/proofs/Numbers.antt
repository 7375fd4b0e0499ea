-- The numbers of values that lie within a range.
use Rattle.fb_params.proofs.Words.{◌≡◌, ℕ, zero, suc, ◌%◌, ◌≤◌, true, false, pos, negsuc, List, [], ◌∷◌, map, Option, Some, None}
use Rattle.fb_params.proofs.Words.{option_map, unwrap_or, slice_index, refl, arith, list_all, and_parts, not-false, true≢false, false≢true}
use Rattle.fb_params.proofs.Words.{Data, string, integer, float, boolean, datetime, array, table, Number, Present, OfKind, InRange, Key}
use Rattle.fb_params.proofs.Words.{must, elements, number_of, nth, is_of, is_within, is_row_within, breaks}
use Rattle.std.proofs.lemmas.Bool.Decides.{nat_tests}
use Rattle.fb_params.specs.declared.key.Range.{Range}

-- a value within a range is no number above it
number_of-within : (range : Range) (value : Data) → is_within range value ≡ true → number_of value ≤ range.high
number_of-within range (integer (pos n)) within = grind (arith, nat_tests)
number_of-within range (integer (negsuc n)) within = omega arith
number_of-within range (string s) within = omega arith
number_of-within range (float x) within = omega arith
number_of-within range (boolean b) within = omega arith
number_of-within range (datetime d) within = omega arith
number_of-within range (array items) within = omega arith
number_of-within range (table rest) within = omega arith

-- the number at a key that obeys its range isn't above it
pub number-within : (key : Key) (found : Option Data) → breaks InRange key found ≡ false
    → unwrap_or (option_map number_of found) 0 ≤ key.range.high
number-within key None kept = omega arith
number-within key (Some value) kept = number_of-within key.range value ((and_parts _ _ (not-false _ kept)).0)

-- the rows at a key that obeys its range are within it
pub rows-within : (key : Key) (found : Option Data) → breaks InRange key found ≡ false
    → list_all (is_row_within key.range) (unwrap_or (option_map elements found) []) ≡ true
rows-within key None kept = refl
rows-within key (Some value) kept = (and_parts _ _ (not-false _ kept)).1

index-within : (range : Range) (values : List Data) → list_all (is_within range) values ≡ true → (i : ℕ)
    → slice_index (map number_of values) i ≤ range.high
index-within range [] within i = omega arith
index-within range (value ∷ values) within zero = number_of-within range value ((and_parts _ _ within).0)
index-within range (value ∷ values) within (suc i) = index-within range values ((and_parts _ _ within).1) i

-- a number of a row within a range isn't above it
pub nth_within : (range : Range) (row : Data) → is_row_within range row ≡ true → (i : ℕ) → nth i row ≤ range.high
nth_within range row within i = index-within range (elements row) ((and_parts _ _ within).1) i

-- a required number is in its range
pub record IsNumberOf (range : Range) (n : ℕ) : Type 0 where
  pub some : range.low ≤ n
  pub few : n ≤ range.high
  pub whole : n % range.multiple ≡ 0

number_of-required : (range : Range) (value : Data) → is_of Number value ≡ true → is_within range value ≡ true
    → IsNumberOf range (number_of value)
number_of-required range (integer (pos n)) kind within =
    record { some = grind (arith, nat_tests); few = grind (arith, nat_tests); whole = grind (arith, nat_tests) }
number_of-required range (integer (negsuc n)) kind within = absurd (false≢true within)
number_of-required range (string s) kind within = absurd (false≢true kind)
number_of-required range (float x) kind within = absurd (false≢true kind)
number_of-required range (boolean b) kind within = absurd (false≢true kind)
number_of-required range (datetime d) kind within = absurd (false≢true kind)
number_of-required range (array items) kind within = absurd (false≢true kind)
number_of-required range (table rest) kind within = absurd (false≢true kind)

-- the number at a required key is in its range
pub number-required : (name : List ℕ) (range : Range) (found : Option Data)
    → breaks Present (must name Number range) found ≡ false → breaks OfKind (must name Number range) found ≡ false
    → breaks InRange (must name Number range) found ≡ false
    → IsNumberOf range (unwrap_or (option_map number_of found) 0)
number-required name range None present kind within = absurd (true≢false present)
number-required name range (Some value) present kind within =
    number_of-required range value (not-false _ kind) ((and_parts _ _ (not-false _ within)).0)
