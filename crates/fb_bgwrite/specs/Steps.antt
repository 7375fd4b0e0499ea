-- The spills of a run, gap by gap, and the rows that they give.
use Rattle.std.specs.Prelude.{◌≡◌, List, [], ◌∷◌, ◌++◌, Bool, true, false, map, Option, Some, None}
use Rattle.fb_service.specs.declared.disk.Disk.{Disk}
use Rattle.fb_wanted.specs.declared.block.Block.{Block}
use Rattle.fb_rows.specs.declared.back.GapRow.{GapRow}
use Rattle.fb_rows.specs.declared.gap.Catch.{Catch}
use Rattle.fb_model.specs.Deliveries.{caught_of}
use Rattle.fb_bgwrite.specs.declared.choice.Spill.{Spill}
use Rattle.fb_bgwrite.specs.declared.items.SpillItem.{SpillItem}
use Rattle.fb_bgwrite.specs.declared.items.SpillItem.TheVariants.{Spill as ItemSpill, Wrote as ItemWrote}
use Rattle.fb_bgwrite.specs.declared.items.SpillRow.{SpillRow}
use Rattle.fb_bgwrite.specs.declared.items.WroteRow.{WroteRow}
use Rattle.fb_bgwrite.specs.Blocks.{PutBlock, pending}
use Rattle.fb_bgwrite.specs.Gaps.{RunGap}
use Rattle.fb_bgwrite.specs.Spilling.{dwell_of, ready, IsBest, WritesNothing}

-- a gap with the blocks that are pending there, and its spill if it has one
pub record Step : Type 0 where
  pub gap : RunGap
  pub pending : List Block
  pub spill : Option Spill

abbrev pub spill_row : Disk → GapRow → Spill → SpillRow
spill_row disk row spill = record { name = row.name; track = spill.track; begin = ready disk row.gap spill.track; end = spill.leave }

abbrev pub wrote_row : Catch → WroteRow
wrote_row catch = record { put = catch.block.task; lbn = catch.block.lbn; count = catch.block.count; begin = catch.begin; end = catch.end }

-- the rows of a spill: the stay, and the pending blocks that pass whole in it, by end
abbrev pub spill_rows : Disk → GapRow → List Block → Spill → List SpillItem
spill_rows disk row pending spill =
    ItemSpill (spill_row disk row spill) ∷ map (λ catch. ItemWrote (wrote_row catch)) (caught_of disk (dwell_of disk row.gap spill) pending)

abbrev pub rows_of : Disk → GapRow → List Block → Option Spill → List SpillItem
rows_of disk row pending None = []
rows_of disk row pending (Some spill) = spill_rows disk row pending spill

-- the gap's spill is the best, or it has none since none writes anything
abbrev pub IsChosen : Disk → GapRow → List Block → Option Spill → Type 0
IsChosen disk row pending None = WritesNothing disk row.gap pending
IsChosen disk row pending (Some spill) = IsBest disk row.gap pending spill

-- the same for a free gap; any other has no spill
abbrev pub IsChosenIf : Bool → Disk → GapRow → List Block → Option Spill → Type 0
IsChosenIf true disk row pending spill = IsChosen disk row pending spill
IsChosenIf false disk row pending spill = spill ≡ None

abbrev pub IsRight : Disk → Step → Type 0
IsRight disk step = IsChosenIf step.gap.free disk step.gap.row step.pending step.spill

-- the rows that a step gives
abbrev pub rows_in : Disk → Step → List SpillItem
rows_in disk step = rows_of disk step.gap.row step.pending step.spill

-- the step of a gap, behind the rows so far
abbrev pub step_of : List PutBlock → List SpillItem → RunGap → Option Spill → Step
step_of blocks so_far gap spill = record { gap = gap; pending = pending blocks so_far gap.row.gap.now; spill = spill }

-- each gap with its spill, behind the rows so far: a block that was written is no longer pending
abbrev pub steps : Disk → List PutBlock → List SpillItem → List RunGap → List (Option Spill) → List Step
steps disk blocks so_far [] spills = []
steps disk blocks so_far (gap ∷ gaps) [] = []
steps disk blocks so_far (gap ∷ gaps) (spill ∷ spills) =
    let step = step_of blocks so_far gap spill in
    step ∷ steps disk blocks (so_far ++ rows_in disk step) gaps spills
