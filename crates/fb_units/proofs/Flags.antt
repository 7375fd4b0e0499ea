-- Reading flags digit by digit: the flags that the digits still to be read give.
use Rattle.std.proofs.Common.{◌≡◌, ℕ, ◌+◌, ◌*◌, ◌<◌, arith, List, ◌∷◌, true, Option, Some, None, refl}
use Rattle.std.specs.Prelude.{if◌then◌else◌}
use Rattle.std.specs.List.{list_all}
use Rattle.std.specs.Char.{is_digit, digit_value}
use Rattle.std.proofs.lemmas.Bool.Decides.{nat_tests}
use Rattle.fb_units.specs.Numbers.{hex_digits_after}

-- the number that is written by the digits of n with these hexadecimal digits behind them
abbrev pub hex_from : ℕ → List ℕ → Option ℕ
hex_from n digits = if list_all (λ c. is_digit c 16) digits then Some (hex_digits_after n digits) else None

-- the next digit becomes part of the number
pub hex_more : (n c d : ℕ) (cs : List ℕ) → digit_value c < 16 → d ≡ digit_value c
    → hex_from (16 * n + d) cs ≡ hex_from n (c ∷ cs)
hex_more n c d cs small e = let valid : is_digit c 16 ≡ true = grind (arith, nat_tests) in rw (valid, e) refl
