-- A time in milliseconds, from what was read of the part before the point.
use Rattle.std.proofs.Common.{◌≡◌, ℕ, ◌+◌, ◌*◌, ◌≤◌, ◌^◌, List, Bool, true, false, refl, arith, Option, Some, None, ◌∙◌, ap}
use Rattle.std.specs.Prelude.{if◌then◌else◌, ◌&&◌, ◌==◌}
use Rattle.std.specs.List.{list_all, before_first, after_first}
use Rattle.std.specs.Char.{is_ascii_digit}
use Rattle.std.proofs.lemmas.Bool.Decides.{nat_tests}
use Rattle.fb_units.specs.Numbers.{limit, digits_after, within, number_of, are_digits, six_of, millis_of}

-- the nanoseconds that the parts before and behind the point give
abbrev pub nanos_of : List ℕ → List ℕ → Option ℕ
nanos_of whole fraction = if are_digits whole && list_all is_ascii_digit fraction
    then within (10 ^ 6 * digits_after 0 whole + digits_after 0 (six_of fraction))
    else None

-- a number that was accepted is the number, and within the limit
within_some : (b : Bool) (n m : ℕ) → (if b then within n else None) ≡ Some m → (b ≡ true) × (n ≡ m) × (n ≤ limit)
within_some true n m e = grind (arith, nat_tests)
within_some false n m e = cc

both : (b : Bool) (x : Option ℕ) → (if b && false then x else None) ≡ None
both true x = refl
both false x = refl

pub no_fraction : (whole fraction : List ℕ) → list_all is_ascii_digit fraction ≡ false → nanos_of whole fraction ≡ None
no_fraction whole fraction e = rw e (both (are_digits whole) _)

pub from_whole : (whole fraction : List ℕ) (m : ℕ) → number_of whole ≡ Some m → list_all is_ascii_digit fraction ≡ true
    → nanos_of whole fraction ≡ within (10 ^ 6 * m + digits_after 0 (six_of fraction))
from_whole whole fraction m found e = let p = within_some (are_digits whole) (digits_after 0 whole) m found in rw (e, p.0, p.1) refl

-- the same from the two parts as the code finds them
pub parts_are : (text whole fraction : List ℕ) → whole ≡ before_first (λ c. c == 46) text → fraction ≡ after_first (λ c. c == 46) text
    → nanos_of whole fraction ≡ millis_of text
parts_are text whole fraction e f = ap (λ w. nanos_of w fraction) e ∙ ap (λ x. nanos_of (before_first (λ c. c == 46) text) x) f

pub within_limit : (n : ℕ) → n ≤ limit → Some n ≡ within n
within_limit n h = grind (arith, nat_tests)
