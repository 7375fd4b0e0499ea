-- Numbers and times as text.
use Rattle.std.specs.Prelude.{ℕ, ◌+◌, ◌-◌, ◌*◌, ◌/◌, ◌%◌, ◌^◌, List, [], ◌∷◌, Bool, ◌&&◌, ◌||◌, Option, Some, None, nat_eq, nat_le, nat_lt}
use Rattle.std.specs.Prelude.{if◌then◌else◌, false, ◌++◌, take, drop, replicate, length, map, ◌==◌, codes, decimal}
use Rattle.std.specs.Char.{digit_value, is_ascii_digit, is_digit}
use Rattle.std.specs.List.{list_all, before_first, after_first, starts_with}

-- the greatest number that a text may state, and the greatest time in nanoseconds
abbrev pub limit : ℕ
limit = 10 ^ 15

-- the number that is written by the digits of n with these decimal digits behind them
abbrev pub digits_after : ℕ → List ℕ → ℕ
digits_after n [] = n
digits_after n (c ∷ cs) = digits_after (10 * n + (c - 48)) cs

-- one or more decimal digits
abbrev pub are_digits : List ℕ → Bool
are_digits [] = false
are_digits (c ∷ cs) = list_all is_ascii_digit (c ∷ cs)

-- the number if it is at most the limit
abbrev pub within : ℕ → Option ℕ
within n = if nat_le n limit then Some n else None

-- the number that a text writes: one or more decimal digits, at most the limit
abbrev pub number_of : List ℕ → Option ℕ
number_of text = if are_digits text then within (digits_after 0 text) else None

-- the first six digits, with zeros for missing ones
abbrev pub six_of : List ℕ → List ℕ
six_of cs = take 6 (cs ++ replicate 6 48)

-- the nanoseconds of a text in milliseconds, with or without a fraction, of which six digits count
abbrev pub millis_of : List ℕ → Option ℕ
millis_of text =
    let whole = before_first (λ c. c == 46) text in
    let fraction = after_first (λ c. c == 46) text in
    if are_digits whole && list_all is_ascii_digit fraction
    then within (10 ^ 6 * digits_after 0 whole + digits_after 0 (six_of fraction))
    else None

-- the last six digits of a number, with zeros for missing ones
abbrev pub last_six : ℕ → List ℕ
last_six n = map (λ place. 48 + n / 10 ^ place % 10) (5 ∷ 4 ∷ 3 ∷ 2 ∷ 1 ∷ 0 ∷ [])

-- the text of a time in nanoseconds: whole milliseconds, a point and six digits
unfoldable pub millis_text : ℕ → List ℕ
millis_text ns = decimal (ns / 10 ^ 6) ++ 46 ∷ last_six ns

-- the number that is written by the digits of n with these hexadecimal digits behind them
abbrev pub hex_digits_after : ℕ → List ℕ → ℕ
hex_digits_after n [] = n
hex_digits_after n (c ∷ cs) = hex_digits_after (16 * n + digit_value c) cs

-- a text without the 0x or 0X before it, where it has one
abbrev pub behind_mark : List ℕ → List ℕ
behind_mark text = if starts_with nat_eq text (codes "0x") || starts_with nat_eq text (codes "0X") then drop 2 text else text

-- 1 to 16 hexadecimal digits
abbrev pub are_flag_digits : List ℕ → Bool
are_flag_digits digits = nat_lt 0 (length digits) && nat_le (length digits) 16 && list_all (λ c. is_digit c 16) digits

-- the flags that a text writes: 1 to 16 hexadecimal digits, with or without 0x or 0X before them
abbrev pub flags_of : List ℕ → Option ℕ
flags_of text = if are_flag_digits (behind_mark text) then Some (hex_digits_after 0 (behind_mark text)) else None
