-- Calls that are to fail.
use Rattle.std.specs.Prelude.{ℕ, ◌+◌, List, Bool, ◌==◌}
use Rattle.std.specs.List.{list_any}

-- the numbers, from 1, of the calls that are to fail, and how many calls were made
pub record FailingNumbers : Type 0 where
  pub numbers : List ℕ
  pub made : ℕ

-- whether the next call is to fail
abbrev pub fails_next : FailingNumbers → Bool
fails_next failing = list_any (λ number. number == failing.made + 1) failing.numbers
