-- The turn of one of n spots in a ring.
use Rattle.std.specs.Prelude.{ℕ, ◌+◌, ◌-◌, ◌%◌}

-- how many spots onwards from this one another is, round from the last to the first
abbrev pub turn : ℕ → ℕ → ℕ → ℕ
turn n from spot = (spot + n - from) % n
