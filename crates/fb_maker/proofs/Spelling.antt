-- Words that spell numbers, times and flags.
use Rattle.fb_maker.proofs.Words.{◌≡◌, ℕ, ◌+◌, ◌/◌, ◌%◌, ◌^◌, ◌<◌, [], ◌∷◌, Bool, true, false, refl, ◌∙◌, arith, Some, decimal, list_all}
use Rattle.fb_maker.proofs.Words.{length-append, list_all-append, nat_tests, millis_text, last_six, flags_of, flags_text}
use Rattle.std.proofs.lemmas.Fmt.{decimal_by_steps, decimal_nonempty}
use Rattle.fb_maker.proofs.Splitting.{plain, IsWord}

plain_digit : (n : ℕ) → plain (48 + n) ≡ true
plain_digit n = grind (arith, nat_tests)

plain_decimal : (n : ℕ) → n < 2 ^ 64 → list_all plain (decimal n) ≡ true
plain_decimal = decimal_by_steps (λ m ds. list_all plain ds ≡ true) (λ m h. rw (plain_digit m) refl)
    (λ m ds l h. list_all-append plain ds ((48 + m % 10) ∷ []) ∙ rw (h, plain_digit (m % 10)) refl)

pub decimal_word : (n : ℕ) → n < 2 ^ 64 → IsWord (decimal n)
decimal_word n small = record { some = decimal_nonempty n small; plain = plain_decimal n small }

plain_six : (n : ℕ) → list_all plain (46 ∷ last_six n) ≡ true
plain_six n = rw (
  plain_digit (n / 100000 % 10),
  plain_digit (n / 10000 % 10),
  plain_digit (n / 1000 % 10),
  plain_digit (n / 100 % 10),
  plain_digit (n / 10 % 10),
  plain_digit (n / 1 % 10),
) refl

pub millis_word : (ns : ℕ) → ns < 2 ^ 64 → IsWord (millis_text ns)
unfolding millis_text
millis_word ns small = record {
  some = omega (arith, length-append (decimal (ns / 1000000)) (46 ∷ last_six ns));
  plain = list_all-append plain (decimal (ns / 1000000)) (46 ∷ last_six ns)
      ∙ rw (plain_decimal (ns / 1000000) (omega arith), plain_six ns) refl;
}

pub flags_word : (write : Bool) → IsWord (flags_text write)
flags_word true = record { some = omega arith; plain = refl }
flags_word false = record { some = omega arith; plain = refl }

-- the flags of a write and of a read
abbrev pub marks : Bool → ℕ
marks true = 0
marks false = 1

pub flags_read : (write : Bool) → flags_of (flags_text write) ≡ Some (marks write)
flags_read true = refl
flags_read false = refl
