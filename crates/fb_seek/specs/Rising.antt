-- Longer seeks take no less time.
use Rattle.std.specs.Prelude.{ℕ, ◌≤◌}
use Rattle.fb_seek.specs.Mechanics.{Mechanics}
use Rattle.fb_seek.specs.Positioning.{seek}

-- a seek over more cylinders takes no less time
abbrev pub SeeksRise : Mechanics → Type 0
SeeksRise arm = (near far : ℕ) → near ≤ far → seek arm near ≤ seek arm far
