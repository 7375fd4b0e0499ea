-- What follows from checks that didn't refuse.
use Rattle.std.proofs.Common.{◌≡◌, ℕ, ◌≤◌, ◌^◌, Bool, true, false, refl, arith, Option, Some, None, Result, Ok, Err, List}
use Rattle.std.specs.Prelude.{if◌then◌else◌, ◌&&◌, ◌==◌}
use Rattle.std.specs.Char.{is_ascii_digit}
use Rattle.std.specs.List.{list_all, before_first, after_first}
use Rattle.std.proofs.lemmas.Bool.Decides.{nat_tests}
use Rattle.fb_units.specs.Judging.{◌>>=◌, or_refuse, refuse, refused_as}
use Rattle.fb_units.specs.Numbers.{within, are_digits, digits_after, number_of, millis_of}

-- if two checks one after another didn't refuse, neither did
pub both_ok : {A B E : Type 0} (r : Result A E) (f : A → Result B E) (b : B) → (r >>= f) ≡ Ok b → (a : A) × (r ≡ Ok a) × (f a ≡ Ok b)
both_ok (Ok a) f b given = (a, refl, given)
both_ok (Err e) f b given = cc

pub value_ok : {A E : Type 0} (reason : E) (o : Option A) (a : A) → or_refuse reason o ≡ Ok a → o ≡ Some a
value_ok reason None a given = cc
value_ok reason (Some b) a given = cc

pub test_ok : {E : Type 0} (reason : E) (b : Bool) (u : Unit {0}) → refuse reason b ≡ Ok u → b ≡ false
test_ok reason true u given = cc
test_ok reason false u given = refl

pub step_ok : {A E F : Type 0} (fault : E → F) (r : Result A E) (a : A) → refused_as fault r ≡ Ok a → r ≡ Ok a
step_ok fault (Ok b) a given = cc
step_ok fault (Err e) a given = cc

-- a number that was read is within the limit
within_limit : (b : Bool) (n m : ℕ) → (if b then within n else None) ≡ Some m → m ≤ 10 ^ 15
within_limit true n m given = grind (arith, nat_tests)
within_limit false n m given = cc

pub number_small : (text : List ℕ) (m : ℕ) → number_of text ≡ Some m → m ≤ 10 ^ 15
number_small text m given = within_limit (are_digits text) (digits_after 0 text) m given

pub millis_small : (text : List ℕ) (m : ℕ) → millis_of text ≡ Some m → m ≤ 10 ^ 15
millis_small text m given =
    let whole = before_first (λ c. c == 46) text in
    let fraction = after_first (λ c. c == 46) text in
    within_limit (are_digits whole && list_all is_ascii_digit fraction) _ m given
