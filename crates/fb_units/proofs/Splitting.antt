-- The first line of a text, and the first field of a line.
use Rattle.std.proofs.Common.{◌≡◌, ℕ, suc, ◌+◌, ◌<◌, ◌≤◌, List, [], ◌∷◌, length, get_or, take, drop, Bool, true, false, refl, sym, ◌∙◌, ap}
use Rattle.std.proofs.Common.{subst, inl, inr, arith}
use Rattle.std.specs.Prelude.{◌==◌, nat_lt, map, filter}
use Rattle.std.specs.List.{slice_split, All, before_first, after_first, position_or_len, prefix_len}
use Rattle.std.specs.Str.Lines.{strip_carriage_return}
use Rattle.std.proofs.lemmas.List.{take_all, drop_all, drop_more, length-take-le, nil_from_length}
use Rattle.std.proofs.lemmas.List.Sums.{fails_before_first, passes_at_first}
use Rattle.std.proofs.lemmas.List.Splits.{slice_split_first, slice_split_none, length-slice_split}
use Rattle.std.proofs.lemmas.Bool.{cases_lt, cases_Bool}
use Rattle.std.proofs.lemmas.Bool.Decides.{nat_tests}
use Rattle.fb_units.specs.Lines.{is_blank, but_empty_last, lines_of, fields_of}

-- a first part is not left out if others follow it
pub but_empty_last-cons : (part : List ℕ) (parts : List (List ℕ)) → 0 < length parts
    → but_empty_last (part ∷ parts) ≡ part ∷ but_empty_last parts
but_empty_last-cons part [] some = absurd (omega arith)
but_empty_last-cons part (next ∷ parts) some = refl

-- a single part is not left out if it isn't empty
but_empty_last-one : (part : List ℕ) → 0 < length part → but_empty_last (part ∷ []) ≡ part ∷ []
but_empty_last-one part some = grind (arith, nat_tests)

-- if a search ends at the end of the text, no byte passes its test
none_before : (p : ℕ → Bool) (text : List ℕ) → length text ≤ position_or_len p text → All (λ c. p c ≡ false) text
none_before p text past = λ k d low. fails_before_first p text k d (omega arith)

pub lines_none : (text : List ℕ) → length text ≡ 0 → lines_of text ≡ []
unfolding lines_of
lines_none [] none = refl
lines_none (b ∷ text) none = absurd (omega arith)

pub lines_first : (text : List ℕ) → 0 < length text
    → lines_of text ≡ strip_carriage_return (before_first (λ c. c == 10) text) ∷ lines_of (after_first (λ c. c == 10) text)
unfolding lines_of
lines_first text some =
    let p = λ (c : ℕ). c == 10 in
    elim (cases_lt (position_or_len p text) (length text)) [
      | inl inside ↦
          ap (λ parts. map strip_carriage_return (but_empty_last parts)) (slice_split_first p text 0 inside)
          ∙ ap (map strip_carriage_return) (but_empty_last-cons (before_first p text) (slice_split p (after_first p text))
          (omega (arith, length-slice_split p (after_first p text))))
      | inr past ↦
          ap (λ parts. map strip_carriage_return (but_empty_last parts)) (slice_split_none p text (none_before p text past))
          ∙ ap (map strip_carriage_return) (but_empty_last-one text some)
          ∙ ap (λ front. strip_carriage_return front ∷ []) (sym (take_all (position_or_len p text) text past))
          ∙ ap (λ back. strip_carriage_return (before_first p text) ∷ map strip_carriage_return (but_empty_last (slice_split p back)))
          (sym (drop_all (position_or_len p text + 1) text (omega arith)))
    ]

fields_none : fields_of [] ≡ []
unfolding fields_of
fields_none = refl

-- a blank at the front belongs to no field
fields_blank : (b : ℕ) (line : List ℕ) → is_blank b ≡ true → fields_of (b ∷ line) ≡ fields_of line
unfolding fields_of
fields_blank b line blank = rw blank refl

drop_first : (n b : ℕ) (line : List ℕ) → drop (1 + n) (b ∷ line) ≡ drop n line
drop_first n b line = let one : 1 + n ≡ suc n = omega arith in rw one refl

-- a blank at the front is passed over, and any other byte isn't
behind_one : (b : ℕ) (line : List ℕ) → is_blank b ≡ true
    → drop (prefix_len is_blank (b ∷ line)) (b ∷ line) ≡ drop (prefix_len is_blank line) line
behind_one b line blank = rw blank (drop_first (prefix_len is_blank line) b line)

behind_none : (b : ℕ) (line : List ℕ) → is_blank b ≡ false → drop (prefix_len is_blank (b ∷ line)) (b ∷ line) ≡ b ∷ line
behind_none b line other = rw other refl

fields_behind : (line : List ℕ) → fields_of (drop (prefix_len is_blank line) line) ≡ fields_of line
fields_behind [] = refl
fields_behind (b ∷ line) = elim (cases_Bool (is_blank b)) [
  | inl blank ↦ ap fields_of (behind_one b line blank) ∙ fields_behind line ∙ sym (fields_blank b line blank)
  | inr other ↦ ap fields_of (behind_none b line other)
]

-- no field is left if nothing follows the blanks
pub fields_end : (line text : List ℕ) → text ≡ drop (prefix_len is_blank line) line → length text ≡ 0 → fields_of line ≡ []
fields_end line text e none = sym (fields_behind line) ∙ ap fields_of (sym e ∙ nil_from_length text none) ∙ fields_none

-- a part at the front that isn't empty is the first field
fields_of_parts : (text field : List ℕ) (parts : List (List ℕ)) → slice_split is_blank text ≡ field ∷ parts → 0 < length field
    → fields_of text ≡ field ∷ filter (λ f. nat_lt 0 (length f)) parts
unfolding fields_of
fields_of_parts text field parts split some =
    let kept : nat_lt 0 (length field) ≡ true = grind (arith, nat_tests) in
    rw split (rw kept refl)

fields_of_rest : (text rest : List ℕ) (b : ℕ) → text ≡ b ∷ rest → is_blank b ≡ true
    → filter (λ f. nat_lt 0 (length f)) (slice_split is_blank rest) ≡ fields_of text
unfolding fields_of
fields_of_rest text rest b e blank = sym (ap fields_of e ∙ fields_blank b rest blank)

fields_first : (text : List ℕ) → 0 < length text → 0 < position_or_len is_blank text
    → fields_of text ≡ before_first is_blank text ∷ fields_of (drop (position_or_len is_blank text) text)
fields_first text some starts =
    elim (cases_lt (position_or_len is_blank text) (length text)) [
      | inl inside ↦
          fields_of_parts text (before_first is_blank text) (slice_split is_blank (after_first is_blank text))
          (slice_split_first is_blank text 0 inside) (omega (arith, length-take-le (position_or_len is_blank text) text (omega arith)))
          ∙ ap (λ more. before_first is_blank text ∷ more)
          (fields_of_rest (drop (position_or_len is_blank text) text) (after_first is_blank text)
          (get_or text (position_or_len is_blank text) 0)
          (drop_more text (position_or_len is_blank text) 0 inside) (passes_at_first is_blank text 0 inside))
      | inr past ↦
          fields_of_parts text text [] (slice_split_none is_blank text (none_before is_blank text past)) some
          ∙ ap (λ front. front ∷ []) (sym (take_all (position_or_len is_blank text) text past))
          ∙ ap (λ more. before_first is_blank text ∷ more)
          (sym (ap fields_of (drop_all (position_or_len is_blank text) text past) ∙ fields_none))
    ]

-- what follows the blanks doesn't begin with a blank, so the first field isn't empty
first_stays : (b : ℕ) (line : List ℕ) → is_blank b ≡ false → 0 < position_or_len is_blank (b ∷ line)
first_stays b line other = rw other (omega arith)

abbrev StartsField : List ℕ → Type 0
StartsField text = 0 < length text → 0 < position_or_len is_blank text

starts_field : (line : List ℕ) → StartsField (drop (prefix_len is_blank line) line)
starts_field [] = λ some. absurd (omega arith)
starts_field (b ∷ line) = elim (cases_Bool (is_blank b)) [
  | inl blank ↦ subst StartsField (sym (behind_one b line blank)) (starts_field line)
  | inr other ↦ subst StartsField (sym (behind_none b line other)) (λ some. first_stays b line other)
]

-- the first field of a line, and the rest of the line
pub fields_next : (line text field rest : List ℕ) (index : ℕ) → text ≡ drop (prefix_len is_blank line) line → 0 < length text
    → index ≡ position_or_len is_blank text
    → field ≡ take index text → rest ≡ drop index text → fields_of line ≡ field ∷ fields_of rest
fields_next line text field rest index e some at front back =
    sym (fields_behind line) ∙ ap fields_of (sym e) ∙ fields_first text some (subst StartsField (sym e) (starts_field line) some)
    ∙ ap (λ p. take p text ∷ fields_of (drop p text)) (sym at) ∙ ap (λ f. f ∷ fields_of (drop index text)) (sym front)
    ∙ ap (λ r. field ∷ fields_of r) (sym back)
