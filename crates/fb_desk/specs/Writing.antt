-- An output in memory.
use Rattle.std.specs.Prelude.{◌≡◌, ℕ, List, [], Bool, false}

-- whether an output is begun, its name, what was written to it, and its room in bytes for each of these two
pub record Written : Type 0 where
  pub begun : Bool
  pub name : List ℕ
  pub bytes : List ℕ
  pub room : ℕ

-- before an output is begun, it has no name and no bytes
pub record IsEmptyBefore (begun : Bool) (name bytes : List ℕ) : Type 0 where
  pub name_empty : begun ≡ false → name ≡ []
  pub bytes_empty : begun ≡ false → bytes ≡ []
