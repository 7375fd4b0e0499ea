-- The fields of lines have their forms.
use Rattle.std.proofs.Math.Seq.{drop-append-add}
use Rattle.std.proofs.lemmas.Slice.Eq.{bytes_eq-Decides}
use Rattle.fb_units.proofs.Each.{each_all, list_all_each}
use Rattle.fb_units.proofs.Lists.{all_weaker}
use Rattle.fb_units.proofs.Written.{some_digits, digit, digits_end}
use Rattle.fb_report.proofs.Words.{and_parts, ◌≡◌, ℕ, ◌+◌, ◌%◌, ◌<◌, ◌^◌, List, [], ◌∷◌, ◌++◌, length, drop, get_or, Bool, true}
use Rattle.fb_report.proofs.Words.{false, refl, sym, ap, ◌∙◌, arith, subst, inl, inr, ◌==◌, nat_lt, decimal, list_all, position_or_len}
use Rattle.fb_report.proofs.Words.{before_first, after_first, is_ascii_digit, bytes_eq, cases_Bool, nat_tests, take_at, list_all-append}
use Rattle.fb_report.proofs.Words.{decimal_by_steps, decimal_nonempty, decimal_digit, first_decimal, are_digits, digits_after, is_name}
use Rattle.fb_report.proofs.Words.{is_name_byte, has_no_leading_zero, is_number, is_point, is_track, is_word, IsField}
use Rattle.fb_report.proofs.Fields.{plain}

pub all_too : (p q : ℕ → Bool) → ((x : ℕ) → p x ≡ true → q x ≡ true) → (xs : List ℕ) → list_all p xs ≡ true → list_all q xs ≡ true
all_too p q then xs all = each_all q xs (all_weaker (λ x. p x ≡ true) (λ x. q x ≡ true) then xs (list_all_each p xs all))

-- ---- words

same_bytes : (text : List ℕ) → bytes_eq text text ≡ true
same_bytes text = (bytes_eq-Decides text text).1 refl

pub word_is : (word : List ℕ) → list_all plain word ≡ true → IsField (is_word word) word
word_is word whole = record { fits = same_bytes word; whole = whole }

-- ---- numbers

-- digits that write n
record Writes (n : ℕ) (digits : List ℕ) : Type 0 where
  all : list_all is_ascii_digit digits ≡ true
  value : digits_after 0 digits ≡ n

written : (n : ℕ) → n < 2 ^ 64 → Writes n (decimal n)
written = decimal_by_steps Writes (λ n h. record { all = rw (digit n h) refl; value = omega arith })
    (λ n digits small h. record {
      all = list_all-append is_ascii_digit digits ((48 + n % 10) ∷ []) ∙ rw (h.all, digit (n % 10) (omega arith)) refl;
      value = digits_end 0 digits (48 + n % 10) ∙ omega (arith, h.value);
    })

above : (byte : ℕ) → is_ascii_digit byte ≡ true → plain byte ≡ true
above byte is = grind (arith, nat_tests)

no_zero : (digits : List ℕ) → 48 < get_or digits 0 0 → has_no_leading_zero digits ≡ true
no_zero [] above = refl
no_zero (c ∷ digits) above = let other : (c == 48) ≡ false = grind (arith, nat_tests) in rw other refl

leading : (n : ℕ) → n < 2 ^ 64 → has_no_leading_zero (decimal n) ≡ true
leading n small = elim (cases_Bool (nat_lt 0 n)) [
  | inl some ↦ let more : 0 < n = grind (arith, nat_tests) in no_zero (decimal n) (first_decimal n more small)
  | inr none ↦ let zero : 0 ≡ n = grind (arith, nat_tests) in
      subst (λ m. has_no_leading_zero (decimal m) ≡ true) zero (ap has_no_leading_zero (decimal_digit 0 (omega arith)))
]

pub number_is : (n : ℕ) → n < 2 ^ 64 → IsField is_number (decimal n)
number_is n small =
    let small_too : nat_lt (digits_after 0 (decimal n)) (2 ^ 64) ≡ true = rw (written n small).value (grind (arith, nat_tests)) in
    record {
      fits = rw (some_digits (decimal n) (decimal_nonempty n small) (written n small).all, leading n small, small_too) refl;
      whole = all_too is_ascii_digit plain above (decimal n) (written n small).all;
    }

-- ---- tracks and names

no_point : (byte : ℕ) → is_ascii_digit byte ≡ true → is_point byte ≡ false
no_point byte is = grind (arith, nat_tests)

-- the first point is behind the digits
point_at : (digits rest : List ℕ) → list_all is_ascii_digit digits ≡ true → position_or_len is_point (digits ++ 46 ∷ rest) ≡ length digits
point_at [] rest all = refl
point_at (c ∷ digits) rest all =
    let both = and_parts (is_ascii_digit c) (list_all is_ascii_digit digits) all in
    rw (no_point c both.0, point_at digits rest both.1) (omega arith)

before_point : (digits rest : List ℕ) → list_all is_ascii_digit digits ≡ true → before_first is_point (digits ++ 46 ∷ rest) ≡ digits
before_point digits rest all = take_at digits (46 ∷ rest) _ (sym (point_at digits rest all))

after_point : (digits rest : List ℕ) → list_all is_ascii_digit digits ≡ true → after_first is_point (digits ++ 46 ∷ rest) ≡ rest
after_point digits rest all = ap (λ n. drop (n + 1) (digits ++ 46 ∷ rest)) (point_at digits rest all) ∙ drop-append-add digits (46 ∷ rest) 1

digits_are : (text : List ℕ) → are_digits text ≡ true → list_all is_ascii_digit text ≡ true
digits_are [] are = refl
digits_are (c ∷ text) are = are

-- a number has only digits
only_digits : (text : List ℕ) → IsField is_number text → list_all is_ascii_digit text ≡ true
only_digits text is = digits_are text (and_parts (are_digits text) (has_no_leading_zero text)
    (and_parts _ (nat_lt (digits_after 0 text) (2 ^ 64)) is.fits).0).0

pub track_is : (cylinder head : List ℕ) → IsField is_number cylinder → IsField is_number head → IsField is_track (cylinder ++ 46 ∷ head)
track_is cylinder head is too = record {
  fits = rw (
    before_point cylinder head (only_digits cylinder is),
    after_point cylinder head (only_digits cylinder is),
    is.fits,
    too.fits,
  ) refl;
  whole = list_all-append plain cylinder (46 ∷ head) ∙ rw (is.whole, too.whole) refl;
}

name_byte : (byte : ℕ) → is_name_byte byte ≡ true → plain byte ≡ true
name_byte byte is = grind (arith, nat_tests)

pub task_is : (name : List ℕ) → is_name name ≡ true → IsField is_name name
task_is name is = record { fits = is; whole = all_too is_name_byte plain name_byte name (and_parts _ (list_all is_name_byte name) is).1 }
