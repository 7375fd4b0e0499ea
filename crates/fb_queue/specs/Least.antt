-- The first of least key, by its index.
use Rattle.std.specs.Prelude.{◌≡◌, ℕ, ◌<◌, ◌≤◌, List, Some, slice_get}
use Rattle.fb_units.specs.declared.types.Request.{Request}

-- among the first n requests, the one at this index is the first with the least key
pub record IsFirstLeastAt (key : Request → ℕ) (requests : List Request) (n index : ℕ) : Type 0 where
  pub within : index < n
  pub least : (k : ℕ) (r q : Request) → k < n → slice_get requests k ≡ Some r → slice_get requests index ≡ Some q → key q ≤ key r
  pub first : (k : ℕ) (r q : Request) → k < index → slice_get requests k ≡ Some r → slice_get requests index ≡ Some q → key q < key r
