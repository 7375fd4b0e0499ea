-- The two sides of the arm.
use Rattle.std.specs.Prelude.{◌≡◌, ℕ, ◌+◌, ◌<◌, ◌≤◌, ◌^◌, List, Bool, true}
use Rattle.std.specs.List.{filter}
use Rattle.fb_fastq.specs.declared.side.Side.{Side}
use Rattle.fb_fastq.specs.declared.side.Side.TheVariants.{Above, Below}

-- of two statements the one for this side
abbrev pub on_side : Side → Type 0 → Type 0 → Type 0
on_side Above above below = above
on_side Below above below = below

-- a number is on a side of the start: above from the start on, and below before it
abbrev pub IsOn : Side → ℕ → ℕ → Type 0
IsOn side start k = on_side side (start ≤ k) (k < start)

-- one number is no farther out than another
abbrev pub IsNoFarther : Side → ℕ → ℕ → Type 0
IsNoFarther side a b = on_side side (a ≤ b) (b ≤ a)

-- a spot is passed on the way out to a lane that starts here
abbrev pub IsNearer : Side → ℕ → ℕ → Type 0
IsNearer side lane spot = on_side side (spot < lane) (lane + 2 ^ 30 ≤ spot)

-- a lane that starts here has spots on a side of the start
abbrev pub IsReached : Side → ℕ → ℕ → Type 0
IsReached side start lane = on_side side (start < lane + 2 ^ 30) (lane < start)

-- where the spots start that are farther out than a lane
abbrev pub beyond : Side → ℕ → ℕ
beyond Above lane = lane + 2 ^ 30
beyond Below lane = lane

-- the one list has those of the other that are so, in the same order
pub record AreThose {A : Type 0} (IsSo : A → Type 0) (all those : List A) : Type 0 where
  pub test : A → Bool
  pub is : those ≡ filter test all
  pub sound : (x : A) → test x ≡ true → IsSo x
  pub whole : (x : A) → IsSo x → test x ≡ true
