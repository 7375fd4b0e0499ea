-- One request more among those that wait.
use Rattle.std.specs.Prelude.{◌≡◌, List, ◌∷◌, ◌++◌}
use Rattle.fb_fastq.specs.Joining.{Waiting}

-- the one list has this request more than the other, and all others in the same order
pub record IsMore (w : Waiting) (less more : List Waiting) : Type 0 where
  pub before : List Waiting
  pub behind : List Waiting
  pub less_is : less ≡ before ++ behind
  pub more_is : more ≡ before ++ w ∷ behind
