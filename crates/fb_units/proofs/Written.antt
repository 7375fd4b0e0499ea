-- A time that is written in milliseconds reads back as the same time.
use Rattle.std.proofs.Common.{◌≡◌, ℕ, ◌+◌, ◌-◌, ◌*◌, ◌/◌, ◌%◌, ◌<◌, ◌≤◌, ◌^◌, List, [], ◌∷◌, ◌++◌, length, drop, true, false, refl}
use Rattle.std.proofs.Common.{arith, Some, ◌∙◌, sym, ap, append_assoc}
use Rattle.std.specs.Prelude.{◌==◌, decimal}
use Rattle.std.specs.List.{list_all, before_first, after_first, position_or_len}
use Rattle.std.specs.Char.{is_ascii_digit}
use Rattle.std.proofs.lemmas.Bool.Decides.{nat_tests}
use Rattle.std.proofs.lemmas.List.Folds.{list_all-append}
use Rattle.std.proofs.lemmas.List.{take_at}
use Rattle.std.proofs.Math.Seq.{drop-append-add}
use Rattle.std.proofs.lemmas.Fmt.{decimal_by_steps, decimal_nonempty, length-decimal-le}
use Rattle.std.proofs.lemmas.Bool.{and_parts}
use Rattle.fb_units.specs.Numbers.{limit, digits_after, within, number_of, are_digits, six_of, last_six, millis_of, millis_text}
use Rattle.fb_units.proofs.Millis.{from_whole, parts_are, within_limit}

pub digit : (n : ℕ) → n < 10 → is_ascii_digit (48 + n) ≡ true
digit n h = grind (arith, nat_tests)

pub digits_end : (n : ℕ) (ds : List ℕ) (d : ℕ) → digits_after n (ds ++ d ∷ []) ≡ 10 * digits_after n ds + (d - 48)
digits_end n [] d = refl
digits_end n (c ∷ ds) d = digits_end (10 * n + (c - 48)) ds d

-- the decimal text of a number has only digits, and they write the number
pub all_digits : (n : ℕ) → n < 2 ^ 64 → list_all is_ascii_digit (decimal n) ≡ true
all_digits = decimal_by_steps (λ m ds. list_all is_ascii_digit ds ≡ true) (λ m h. rw (digit m h) refl)
    (λ m ds l h. list_all-append is_ascii_digit ds ((48 + m % 10) ∷ []) ∙ rw (h, digit (m % 10) (omega arith)) refl)

value_of : (n : ℕ) → n < 2 ^ 64 → digits_after 0 (decimal n) ≡ n
value_of = decimal_by_steps (λ m ds. digits_after 0 ds ≡ m) (λ m h. omega arith)
    (λ m ds l h. digits_end 0 ds (48 + m % 10) ∙ omega (arith, h))

no_point : (c : ℕ) → is_ascii_digit c ≡ true → (c == 46) ≡ false
no_point c h = grind (arith, nat_tests)

-- the first point of the text is right behind the digits
point_at : (ds rest : List ℕ) → list_all is_ascii_digit ds ≡ true → position_or_len (λ c. c == 46) (ds ++ 46 ∷ rest) ≡ length ds
point_at [] rest h = refl
point_at (d ∷ ds) rest h =
    let both = and_parts (is_ascii_digit d) (list_all is_ascii_digit ds) h in
    rw (no_point d both.0, point_at ds rest both.1) (omega arith)

-- the parts before and behind the point
before_point : (ds rest : List ℕ) → list_all is_ascii_digit ds ≡ true → before_first (λ c. c == 46) (ds ++ 46 ∷ rest) ≡ ds
before_point ds rest h = take_at ds (46 ∷ rest) _ (sym (point_at ds rest h))

after_point : (ds rest : List ℕ) → list_all is_ascii_digit ds ≡ true → after_first (λ c. c == 46) (ds ++ 46 ∷ rest) ≡ rest
after_point ds rest h = ap (λ n. drop (n + 1) (ds ++ 46 ∷ rest)) (point_at ds rest h) ∙ drop-append-add ds (46 ∷ rest) 1

pub some_digits : (ds : List ℕ) → 0 < length ds → list_all is_ascii_digit ds ≡ true → are_digits ds ≡ true
some_digits [] some h = absurd (omega arith)
some_digits (c ∷ ds) some h = h

pub last_are_digits : (n : ℕ) → list_all is_ascii_digit (last_six n) ≡ true
last_are_digits n = rw (
  digit (n / 100000 % 10) (omega arith),
  digit (n / 10000 % 10) (omega arith),
  digit (n / 1000 % 10) (omega arith),
  digit (n / 100 % 10) (omega arith),
  digit (n / 10 % 10) (omega arith),
  digit (n / 1 % 10) (omega arith),
) refl

six_value : (a b c d e f front back : ℕ) → 100 * a + 10 * b + c ≡ front → 100 * d + 10 * e + f ≡ back
    → digits_after 0 (six_of ((48 + a) ∷ (48 + b) ∷ (48 + c) ∷ (48 + d) ∷ (48 + e) ∷ (48 + f) ∷ [])) ≡ 1000 * front + back
six_value a b c d e f front back p q = omega arith

-- the last six digits of a number write its remainder by a million
last_value : (n : ℕ) → digits_after 0 (six_of (last_six n)) ≡ n % 1000000
last_value n =
    let front : 100 * (n / 100000 % 10) + 10 * (n / 10000 % 10) + n / 1000 % 10 ≡ n / 1000 % 1000 = omega arith in
    let back : 100 * (n / 100 % 10) + 10 * (n / 10 % 10) + n / 1 % 10 ≡ n % 1000 = omega arith in
    let whole : 1000 * (n / 1000 % 1000) + n % 1000 ≡ n % 1000000 = omega arith in
    six_value _ _ _ _ _ _ _ _ front back ∙ whole

pub whole_number : (n : ℕ) → n ≤ limit → number_of (decimal n) ≡ Some n
whole_number n h = rw (
  some_digits (decimal n) (decimal_nonempty n (omega arith)) (all_digits n (omega arith)),
  value_of n (omega arith),
) (sym (within_limit n h))

whole_and_rest : (n : ℕ) → n ≤ limit → within (10 ^ 6 * (n / 1000000) + n % 1000000) ≡ Some n
whole_and_rest n h = let same : 10 ^ 6 * (n / 1000000) + n % 1000000 ≡ n = omega arith in ap within same ∙ sym (within_limit n h)

-- what was written reads back as the same time
pub read_back : (ns : ℕ) → ns ≤ limit → millis_of (millis_text ns) ≡ Some ns
unfolding millis_text
read_back ns h =
    let whole = decimal (ns / 1000000) in
    let digits = all_digits (ns / 1000000) (omega arith) in
    sym (parts_are (millis_text ns) whole (last_six ns) (sym (before_point whole (last_six ns) digits))
    (sym (after_point whole (last_six ns) digits)))
    ∙ from_whole whole (last_six ns) (ns / 1000000) (whole_number (ns / 1000000) (omega arith)) (last_are_digits ns)
    ∙ ap (λ x. within (10 ^ 6 * (ns / 1000000) + x)) (last_value ns)
    ∙ whole_and_rest ns h

pub short_whole : (ns : ℕ) → ns < 2 ^ 64 → length (decimal (ns / 1000000)) ≤ 14
short_whole ns h = length-decimal-le 14 (ns / 1000000) (omega arith) (omega arith) (omega arith)

-- the text in three parts, one behind the other
pub three_parts : (ns : ℕ) (front whole point : List ℕ) → front ≡ [] → whole ≡ front ++ decimal (ns / 1000000) → point ≡ whole ++ 46 ∷ []
    → point ++ last_six ns ≡ millis_text ns
unfolding millis_text
three_parts ns front whole point e f g = ap (λ x. x ++ last_six ns) (g
    ∙ ap (λ x. x ++ 46 ∷ []) (f ∙ ap (λ x. x ++ decimal (ns / 1000000)) e)) ∙ append_assoc (decimal (ns / 1000000)) (46 ∷ []) (last_six ns)
