-- Checks one after another: the first that refuses decides.
use Rattle.std.specs.Prelude.{Bool, true, false, Option, Some, None, Result, Ok, Err}

infixl 10 ◌>>=◌ ◌>>◌
-- the next check on the value of the first, unless that one refused
abbrev pub ◌>>=◌ : {A B E : Type 0} → Result A E → (A → Result B E) → Result B E
Ok a >>= f = f a
Err e >>= f = Err e

-- the next check, unless the first one refused
abbrev pub ◌>>◌ : {A B E : Type 0} → Result A E → Result B E → Result B E
r >> s = r >>= (λ _. s)

-- the value if there is one, else a refusal for this reason
abbrev pub or_refuse : {A E : Type 0} → E → Option A → Result A E
or_refuse reason None = Err reason
or_refuse reason (Some a) = Ok a

-- a refusal for this reason if the test holds
abbrev pub refuse : {E : Type 0} → E → Bool → Result (Unit {0}) E
refuse reason true = Err reason
refuse reason false = Ok tt

-- the same outcome, with the reason of a refusal turned into a fault (one that names a line, say)
abbrev pub refused_as : {A E F : Type 0} → (E → F) → Result A E → Result A F
refused_as fault (Ok a) = Ok a
refused_as fault (Err reason) = Err (fault reason)
