-- The blocks that hexadecimal digits stand for.
use Rattle.std.proofs.Common.{◌+◌, ◌≡◌, ℕ, zero, suc, ◌*◌, ◌/◌, ◌%◌, ◌<◌, ◌≤◌, true, false, List, [], ◌∷◌, length, get_or, take}
use Rattle.std.proofs.Common.{length-take, inl, inr, refl, arith, ◌∙◌}
use Rattle.std.specs.Char.{is_digit}
use Rattle.std.specs.List.{list_all}
use Rattle.std.proofs.lemmas.Bool.{cases_lt}
use Rattle.std.proofs.lemmas.List.{get_or-take, get_or_past}
use Rattle.std.proofs.lemmas.Bool.Decides.{nat_tests}
use Rattle.fb_calls.specs.Live.{bits_of, bits, is_live}

pub length-bits : (digits : List ℕ) → length (bits digits) ≡ 4 * length digits
unfolding bits
length-bits [] = refl
length-bits (digit ∷ digits) = let rest = length-bits digits in omega arith

-- whether a block is live is a bit of the digit that has it
pub bit_at : (digits : List ℕ) (block : ℕ) → block < 4 * length digits
    → get_or (bits digits) block false ≡ get_or (bits_of (get_or digits (block / 4) 0)) (block % 4) false
unfolding bits
bit_at [] block h = absurd (omega arith)
bit_at (digit ∷ digits) zero h = refl
bit_at (digit ∷ digits) (suc zero) h = refl
bit_at (digit ∷ digits) (suc (suc zero)) h = refl
bit_at (digit ∷ digits) (suc (suc (suc zero))) h = refl
bit_at (digit ∷ digits) (suc (suc (suc (suc block)))) h =
    let whole : suc (suc (suc (suc block))) / 4 ≡ suc (block / 4) = omega arith in
    let rest : suc (suc (suc (suc block))) % 4 ≡ block % 4 = omega arith in
    rw (whole, rest) (bit_at digits block (omega arith))

-- what holds of the digits of this many blocks
pub live_digits : (blocks : ℕ) (digits : List ℕ) → is_live blocks digits ≡ true → list_all (λ digit. is_digit digit 16) digits ≡ true
unfolding is_live
live_digits blocks digits h = grind (arith, nat_tests)

pub live_length : (blocks : ℕ) (digits : List ℕ) → is_live blocks digits ≡ true → blocks ≤ 4 * length digits
unfolding is_live
live_length blocks digits h = grind (arith, nat_tests)

pub live_some : (blocks : ℕ) (digits : List ℕ) → is_live blocks digits ≡ true → 1 ≤ blocks
unfolding is_live
live_some blocks digits h = grind (arith, nat_tests)

no_bit : (k : ℕ) → get_or (bits_of 48) k false ≡ false
no_bit zero = refl
no_bit (suc zero) = refl
no_bit (suc (suc zero)) = refl
no_bit (suc (suc (suc zero))) = refl
no_bit (suc (suc (suc (suc k)))) = refl

-- a zero stands for four blocks that aren't live
pub zero_dead : (blocks : ℕ) (digits : List ℕ) (i : ℕ) → i % 4 ≡ 0 → i < 4 * length digits → get_or digits (i / 4) 0 ≡ 48 → (k : ℕ) → k < 4
    → get_or (take blocks (bits digits)) (i + k) false ≡ false
zero_dead blocks digits i multiple inside no_digit k small = elim (cases_lt (i + k) blocks) [
  | inl within ↦
      let digit : (i + k) / 4 ≡ i / 4 = omega arith in
      let place : (i + k) % 4 ≡ k = omega arith in
      get_or-take blocks (bits digits) (i + k) false (omega arith) ∙ bit_at digits (i + k) (omega arith)
      ∙ rw (digit, place, no_digit) (no_bit k)
  | inr past ↦ get_or_past (take blocks (bits digits)) (i + k) false (omega (arith, length-take blocks (bits digits)))
]
