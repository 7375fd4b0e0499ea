-- Options that hold something.
use Rattle.fb_puts.proofs.Words.{IsSome, None, Option, Some, arith, rules, ◌≡◌}

pub some_there : {X : Type 0} (o : Option X) (x : X) → o ≡ Some x → IsSome o
some_there None x e = absurd (grind arith)
some_there (Some y) x e = search rules
