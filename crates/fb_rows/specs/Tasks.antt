-- The task of a row.
use Rattle.std.specs.Prelude.{ℕ, ◌<◌}
use Rattle.fb_rows.specs.declared.back.BackRow.{BackRow}
use Rattle.fb_rows.specs.declared.back.BackRow.TheVariants.{Gap, Idle, Got, Bad, Seal, Segment, Complete, Task}

-- the row's task, if it has one, is one of the first n
abbrev pub HasTaskBelow : ℕ → BackRow → Type 0
HasTaskBelow n (Gap row) = Unit {0}
HasTaskBelow n (Idle dwell) = Unit {0}
HasTaskBelow n (Got row) = row.block.task < n
HasTaskBelow n (Bad row) = row.task < n
HasTaskBelow n (Seal row) = row.task < n
HasTaskBelow n (Segment row) = row.task < n
HasTaskBelow n (Complete row) = row.task < n
HasTaskBelow n (Task row) = row.task < n
