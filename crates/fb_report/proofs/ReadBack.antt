-- Printed lines are read back.
use Rattle.fb_report.proofs.Words.{and_parts, or_parts, not-true, ◌≡◌, ℕ, suc, ◌+◌, ◌≤◌, ◌<◌, List, [], ◌∷◌, ◌++◌, length, map, Bool, true}
use Rattle.fb_report.proofs.Words.{false, refl, sym, ap, ◌∙◌, arith, append_assoc, Some, Ok, ◌==◌, not, slice_get, flat_map, list_any}
use Rattle.fb_report.proofs.Words.{slice_split, nat_tests, length-slice_split, Grammar, is_line_of, may_follow, may_end, lines_behind}
use Rattle.fb_report.proofs.Words.{LineFields, ended, report_fields, spelled, IsLine, is_row, is_last, is_in_place, PrintedAreReadBack}
use Rattle.std.proofs.lemmas.List.{length-append}
use Rattle.fb_report.proofs.Behind.{row_read, spelled_again}

-- the first part of a text ends at the first byte that passes
pub split_at : (p : ℕ → Bool) (xs : List ℕ) (y : ℕ) (ys : List ℕ) → list_any p xs ≡ false → p y ≡ true
    → slice_split p (xs ++ y ∷ ys) ≡ xs ∷ slice_split p ys
split_at p [] y ys none at = rw at refl
split_at p (x ∷ xs) y ys none at =
    let both = or_parts (p x) (list_any p xs) none in
    rw (both.0, split_at p xs y ys both.1 at) refl

pub split_none : (p : ℕ → Bool) (xs : List ℕ) → list_any p xs ≡ false → slice_split p xs ≡ xs ∷ []
split_none p [] none = refl
split_none p (x ∷ xs) none =
    let both = or_parts (p x) (list_any p xs) none in
    rw (both.0, split_none p xs both.1) refl

abbrev feed : ℕ → Bool
feed byte = byte == 10

-- a line, and what is behind its line feed
feed_at : (part rest : List ℕ) → list_any feed part ≡ false → slice_split feed (ended part ++ rest) ≡ part ∷ slice_split feed rest
feed_at part rest whole = ap (slice_split feed) (append_assoc part (10 ∷ []) rest) ∙ split_at feed part 10 rest whole refl

module _ (grammar : Grammar) where
  -- a line that ends the report
  stops : (before : List LineFields) (line : List ℕ) → may_follow grammar before (report_fields line) ≡ false
      → may_end grammar before (report_fields line) ≡ true
      → lines_behind grammar before (line ∷ [] ∷ []) ≡ Ok (before ++ report_fields line ∷ [])
  unfolding lines_behind
  stops before line row last = rw (row, last) refl

  -- the lines from an index on, with those before it
  pub record IsReadOn (before : List LineFields) (lines : List (List ℕ)) : Type 0 where
    pub parts : List LineFields
    pub are : map spelled parts ≡ lines
    pub read : lines_behind grammar before (slice_split feed (flat_map (λ line. line) lines)) ≡ Ok (before ++ parts)

  -- a line with its line feed, in front of others
  joined : (before : List LineFields) (lines : List (List ℕ)) (line part : List ℕ) → line ≡ ended part → list_any feed part ≡ false
      → lines_behind grammar before (slice_split feed (flat_map (λ x. x) (line ∷ lines)))
      ≡ lines_behind grammar before (part ∷ slice_split feed (flat_map (λ x. x) lines))
  joined before lines line part is whole =
      ap (λ x. lines_behind grammar before (slice_split feed (x ++ flat_map (λ y. y) lines))) is
      ∙ ap (lines_behind grammar before) (feed_at part (flat_map (λ x. x) lines) whole)

  -- the last line stands where no row may
  last_is : (line : List ℕ) (many index : ℕ) → 2 ≤ many → index + 1 ≡ many → is_in_place grammar many index line ≡ true
      → (is_line_of grammar.last line ≡ true) × (is_row grammar line ≡ false)
  last_is line many index ends at is =
      let later : (index == 0) ≡ false = grind (arith, nat_tests) in
      let here : (index + 1 == many) ≡ true = grind (arith, nat_tests) in
      let last : is_last grammar line ≡ true = rw (later, here) at is in
      let both = and_parts (is_line_of grammar.last line) (not (is_row grammar line)) last in
      (both.0, not-true (is_row grammar line) both.1)

  row_is : (line : List ℕ) (many index : ℕ) (before : List LineFields) → index + 2 ≤ many → length before ≡ index
      → is_in_place grammar many index line ≡ true → may_follow grammar before (report_fields line) ≡ true
  row_is line many index [] inside e is = let here : (index == 0) ≡ true = grind (arith, nat_tests) in rw here at is
  row_is line many index (first ∷ rows) inside e is =
      let later : (index == 0) ≡ false = grind (arith, nat_tests) in
      let more : (index + 1 == many) ≡ false = grind (arith, nat_tests) in
      rw (later, more) at is

  no_row : (before : List LineFields) (line : List ℕ) → 0 < length before → (is_line_of grammar.last line ≡ true)
      × (is_row grammar line ≡ false)
      → (may_follow grammar before (report_fields line) ≡ false) × (may_end grammar before (report_fields line) ≡ true)
  no_row [] line some is = absurd (omega arith)
  no_row (first ∷ rows) line some is = (is.1, is.0)

  -- one line more is read
  read_more : (test : List ℕ → Bool) (before : List LineFields) (lines : List (List ℕ)) (line : List ℕ) (this : IsLine test line)
      → may_follow grammar before (report_fields this.part) ≡ true
      → IsReadOn (before ++ report_fields this.part ∷ []) lines → IsReadOn before (line ∷ lines)
  read_more test before lines line this follows later =
      let rest = slice_split feed (flat_map (λ x. x) lines) in
      record {
        parts = report_fields this.part ∷ later.parts;
        are = rw later.are (ap (λ x. x ∷ lines) (spelled_again this.part ∙ sym this.is_ended));
        read = joined before lines line this.part this.is_ended this.whole
            ∙ row_read grammar before this.part rest (omega (arith, length-slice_split feed (flat_map (λ x. x) lines))) follows
            ∙ later.read ∙ ap Ok (append_assoc before (report_fields this.part ∷ []) later.parts);
      }

  -- the rest is read behind the lines before it
  read_on : (many index : ℕ) (before : List LineFields) (lines : List (List ℕ))
      → 2 ≤ many → length before ≡ index → index + length lines ≡ many → 0 < length lines
      → ((k at : ℕ) (line : List ℕ) → at ≡ index + k → slice_get lines k ≡ Some line → IsLine (is_in_place grammar many at) line)
      → IsReadOn before lines
  read_on many index before [] ends e all some h = absurd (omega arith)
  read_on many index before (line ∷ []) ends e all some h =
      let this = h 0 index line (omega arith) refl in
      let last = no_row before this.part (omega arith) (last_is this.part many index ends (omega arith) this.passes) in
      record {
        parts = report_fields this.part ∷ [];
        are = ap (λ x. x ∷ []) (spelled_again this.part ∙ sym this.is_ended);
        read = joined before [] line this.part this.is_ended this.whole ∙ stops before this.part last.0 last.1;
      }
  read_on many index before (line ∷ next ∷ lines) ends e all some h =
      let this = h 0 index line (omega arith) refl in
      read_more (is_in_place grammar many index) before (next ∷ lines) line this
      (row_is this.part many index before (omega arith) e this.passes)
      (read_on many (index + 1) (before ++ report_fields this.part ∷ []) (next ∷ lines) ends
      (omega (arith, length-append before (report_fields this.part ∷ [])))
      (omega arith) (omega arith)
      (λ k at line same is. h (suc k) at line (omega arith) is))

pub printed_are_read_back : PrintedAreReadBack
printed_are_read_back grammar lines printed =
    let rest = read_on grammar (length lines) 0 [] lines printed.ends refl (omega arith) (omega (arith, printed.ends))
    (λ k at line same is. printed.in_place at line (ap (slice_get lines) same ∙ (ap (slice_get lines) (omega arith) ∙ is))) in
    record { parts = rest.parts; are = rest.are; read = rest.read }
