-- Lines and fields that were put together, taken apart.
use Rattle.std.proofs.lemmas.Bool.{and_parts}
use Rattle.fb_units.proofs.Splitting.{but_empty_last-cons}
use Rattle.fb_maker.proofs.Words.{◌≡◌, ℕ, ◌-◌, ◌<◌, List, [], ◌∷◌, ◌++◌, length, get_or, Bool, true, false, refl, ap, ◌∙◌, arith, ◌==◌}
use Rattle.fb_maker.proofs.Words.{nat_lt, map, filter, slice_split, list_all, list_all-append, nat_tests, is_blank, but_empty_last}
use Rattle.fb_maker.proofs.Words.{lines_of, fields_of}
use Rattle.std.specs.Str.Lines.{strip_carriage_return}
use Rattle.std.proofs.lemmas.List.Splits.{slice_split_at, slice_split_none, length-slice_split}
use Rattle.std.proofs.lemmas.List.Sums.{AllPass-from_list_all}

-- bytes behind the space, and from it on
abbrev pub plain : ℕ → Bool
plain byte = nat_lt 32 byte

abbrev pub printed : ℕ → Bool
printed byte = nat_lt 31 byte

-- plain bytes, one at least
pub record IsWord (word : List ℕ) : Type 0 where
  pub some : 0 < length word
  pub plain : list_all plain word ≡ true

no_blank : (byte : ℕ) → plain byte ≡ true → is_blank byte ≡ false
no_blank byte is = grind (arith, nat_tests)

no_feed : (byte : ℕ) → printed byte ≡ true → (byte == 10) ≡ false
no_feed byte is = grind (arith, nat_tests)

kept_field : (word : List ℕ) (parts : List (List ℕ)) → 0 < length word
    → filter (λ field. nat_lt 0 (length field)) (word ∷ parts) ≡ word ∷ filter (λ field. nat_lt 0 (length field)) parts
kept_field word parts some = let kept : nat_lt 0 (length word) ≡ true = grind (arith, nat_tests) in rw kept refl

-- a word, and the fields behind the space after it
pub field_then : (word rest : List ℕ) → IsWord word → fields_of (word ++ 32 ∷ rest) ≡ word ∷ fields_of rest
unfolding fields_of
field_then word rest is =
    let whole = AllPass-from_list_all plain word is.plain in
    ap (filter (λ field. nat_lt 0 (length field)))
    (slice_split_at is_blank word 32 rest (λ k d low. no_blank (get_or word k d) (whole k d low)) refl)
    ∙ kept_field word (slice_split is_blank rest) is.some

pub field_last : (word : List ℕ) → IsWord word → fields_of word ≡ word ∷ []
unfolding fields_of
field_last word is =
    let whole = AllPass-from_list_all plain word is.plain in
    ap (filter (λ field. nat_lt 0 (length field))) (slice_split_none is_blank word (λ k d low. no_blank (get_or word k d) (whole k d low)))
    ∙ kept_field word [] is.some

printed_is : (byte : ℕ) → plain byte ≡ true → printed byte ≡ true
printed_is byte is = grind (arith, nat_tests)

pub word_printed : (word : List ℕ) → list_all plain word ≡ true → list_all printed word ≡ true
word_printed [] is = refl
word_printed (byte ∷ word) is = let both = and_parts (plain byte) (list_all plain word) is in
    rw (printed_is byte both.0, word_printed word both.1) refl

pub printed_more : (front word : List ℕ) → list_all printed front ≡ true → list_all plain word ≡ true
    → list_all printed (front ++ 32 ∷ word) ≡ true
printed_more front word is more = list_all-append printed front (32 ∷ word) ∙ rw (is, word_printed word more) refl

last_printed : (bytes : List ℕ) → list_all printed bytes ≡ true → (get_or bytes (length bytes - 1) 0 == 13) ≡ false
last_printed [] is = refl
last_printed (byte ∷ bytes) is = let at = AllPass-from_list_all printed (byte ∷ bytes) is (length (byte ∷ bytes) - 1) 0 (omega arith) in
    grind (arith, nat_tests)

no_return : (line : List ℕ) → list_all printed line ≡ true → strip_carriage_return line ≡ line
no_return line is = rw (last_printed line is) refl

-- a line, and the lines behind its feed
pub line_then : (line rest : List ℕ) → list_all printed line ≡ true → lines_of (line ++ 10 ∷ rest) ≡ line ∷ lines_of rest
unfolding lines_of
line_then line rest is =
    let p = λ (byte : ℕ). byte == 10 in
    let whole = AllPass-from_list_all printed line is in
    ap (λ parts. map strip_carriage_return (but_empty_last parts))
    (slice_split_at p line 10 rest (λ k d low. no_feed (get_or line k d) (whole k d low)) refl)
    ∙ ap (map strip_carriage_return) (but_empty_last-cons line (slice_split p rest) (omega (arith, length-slice_split p rest)))
    ∙ ap (λ front. front ∷ map strip_carriage_return (but_empty_last (slice_split p rest))) (no_return line is)

pub no_lines : lines_of [] ≡ []
unfolding lines_of
no_lines = refl
