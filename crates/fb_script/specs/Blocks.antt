-- How many blocks and reads a call can ask for.
use Rattle.std.specs.Prelude.{ℕ, ◌+◌, List, [], ◌∷◌, ◌++◌, length, Bool, if◌then◌else◌}
use Rattle.fb_geometry.specs.Shape.{Shape}
use Rattle.fb_sectormap.specs.declared.cut.Cut.{Cut}
use Rattle.fb_sectormap.specs.Cutting.{cutting}
use Rattle.fb_script.specs.declared.call.Action.{Action}
use Rattle.fb_script.specs.declared.call.Action.TheVariants.{Want, Promote, Segment}

-- the cuttings of a segment's live blocks, ascending
abbrev pub live_cuts : Shape → ℕ → ℕ → List Bool → List Cut
live_cuts disk block lbn [] = []
live_cuts disk block lbn (live ∷ lives) = (if live then cutting disk block lbn block else []) ++ live_cuts disk block (lbn + block) lives

-- the number of blocks into which the range of a want, or the live blocks of a segment, are cut
abbrev pub blocks_in : Shape → ℕ → Action → ℕ
blocks_in disk block (Want first count) = length (cutting disk block first count)
blocks_in disk block (Segment first blocks age live) = length (live_cuts disk block first live)
blocks_in disk block _ = 0

-- the number of foreground reads that an action asks for: a promote asks for one
abbrev pub reads_in : Action → ℕ
reads_in (Promote first count) = 1
reads_in _ = 0
