-- Which blocks of a segment are live, as hexadecimal digits.
use Rattle.std.specs.Prelude.{ℕ, ◌+◌, ◌/◌, ◌%◌, List, [], ◌∷◌, length, take, drop, Bool, not, ◌&&◌, ◌==◌, nat_le, Option, Some, None}
use Rattle.std.specs.Prelude.{if◌then◌else◌}
use Rattle.std.specs.Char.{digit_value, is_digit}
use Rattle.std.specs.List.{flat_map, list_all}

-- whether the four blocks of a digit are live: the first block has the bit of value 8, the last one that of value 1
abbrev pub bits_of : ℕ → List Bool
bits_of digit =
    let value = digit_value digit in
    (value / 8 % 2 == 1) ∷ (value / 4 % 2 == 1) ∷ (value / 2 % 2 == 1) ∷ (value % 2 == 1) ∷ []

-- whether the blocks of all digits are live, in order
unfoldable pub bits : List ℕ → List Bool
bits digits = flat_map bits_of digits

-- the digits can say which of this many blocks are live: at least one block, four to a digit, and no bit set behind the last block
unfoldable pub is_live : ℕ → List ℕ → Bool
is_live blocks digits = nat_le 1 blocks && (length digits == (blocks + 3) / 4) && list_all (λ digit. is_digit digit 16) digits
    && list_all not (drop blocks (bits digits))

-- for each block whether it is live, if the digits can say it
abbrev pub live_of : ℕ → List ℕ → Option (List Bool)
live_of blocks digits = if is_live blocks digits then Some (take blocks (bits digits)) else None
