-- A trace that is being generated.
use Rattle.std.specs.Prelude.{ℕ, List}
use Rattle.fb_maker.specs.Trace.{request_at, line_of}

-- its seed, the device of its lines, the disk's number of sectors, and how many lines it has so far
pub record Making : Type 0 where
  pub number : ℕ
  pub device : ℕ
  pub sectors : ℕ
  pub made : ℕ

-- before the first line
abbrev pub begun : ℕ → ℕ → ℕ → Making
begun number device sectors = record { number = number; device = device; sectors = sectors; made = 0 }

-- the line that follows those that it has
abbrev pub line_made : Making → List ℕ
line_made making = line_of making.device (request_at making.number making.sectors making.made)
