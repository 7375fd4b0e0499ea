-- What is written in the free gaps of a run.
use Rattle.std.specs.Prelude.{◌≡◌, ℕ, ◌≤◌, List, [], ◌∷◌, length, true, not, Option, Some, filter, map, slice_get}
use Rattle.std.specs.List.{AllByRecursion, flat_map}
use Rattle.fb_sectormap.specs.LookUp.{track_at}
use Rattle.fb_service.specs.declared.disk.Disk.{Disk}
use Rattle.fb_rows.specs.declared.fore.ForeRow.{ForeRow}
use Rattle.fb_rows.specs.declared.back.GapRow.{GapRow}
use Rattle.fb_rows.specs.declared.back.BackRow.{BackRow}
use Rattle.fb_rows.specs.declared.back.BackRow.TheVariants.{Gap}
use Rattle.fb_rows.specs.declared.run.Run.{Run}
use Rattle.fb_model.specs.Plans.{IsPlan}
use Rattle.fb_model.specs.SoundRun.{IsSublist}
use Rattle.fb_model.specs.Timeline.{IsPossible}
use Rattle.fb_bgwrite.specs.declared.choice.Spill.{Spill}
use Rattle.fb_bgwrite.specs.declared.items.SpillItem.{SpillItem}
use Rattle.fb_bgwrite.specs.declared.items.SpillItem.TheVariants.{Spill as ItemSpill, Wrote as ItemWrote}
use Rattle.fb_bgwrite.specs.declared.items.WroteRow.{WroteRow}
use Rattle.fb_puts.specs.declared.puts.Put.{Put}
use Rattle.fb_puts.specs.declared.range.SectorRange.{SectorRange}
use Rattle.fb_bgwrite.specs.AmendedWay.{amended, kept}
use Rattle.fb_puts.specs.Asked.{request_range}
use Rattle.fb_bgwrite.specs.Blocks.{PutBlock, put_blocks, is_written, writes, sectors}
use Rattle.fb_bgwrite.specs.Gaps.{gaps}
use Rattle.fb_bgwrite.specs.Steps.{Step, IsRight, rows_in, steps}

-- the gap is that of the request that is served, with one of its plans
pub record IsGapOf (disk : Disk) (row : GapRow) (served : ForeRow) : Type 0 where
  pub name : row.name ≡ served.request.name
  pub start : row.gap.now ≡ served.start
  pub media : row.gap.deadline ≡ served.media
  pub write : row.gap.write ≡ served.request.write
  pub target : row.gap.target ≡ track_at disk.map served.request.lbn
  pub plan : IsPlan disk row.gap row.plan

-- each gap row goes with the next foreground row
abbrev pub AreGaps : Disk → List BackRow → List ForeRow → Type 0
AreGaps disk [] fore = Unit {0}
AreGaps disk (Gap row ∷ back) [] = ⊥
AreGaps disk (Gap row ∷ back) (served ∷ fore) = IsGapOf disk row served × AreGaps disk back fore
AreGaps disk (_ ∷ back) fore = AreGaps disk back fore

-- the sectors of the foreground rows of a run
abbrev pub fore_ranges : Run → List SectorRange
fore_ranges run = map (λ (row : ForeRow). request_range row.request) run.fore

-- the steps of a run whose gaps have these spills
abbrev pub run_steps : Disk → Run → List Put → List (Option Spill) → List Step
run_steps disk run puts spills = steps disk (put_blocks disk.map puts) [] (gaps run.back) spills

-- the gaps of a run have these spills, and these are their rows
pub record AreSpills (disk : Disk) (run : Run) (puts : List Put) (items : List SpillItem) (spills : List (Option Spill)) : Type 0 where
  -- each free gap has the best spill, and no other gap has one
  pub each : length spills ≡ length (gaps run.back)
  pub right : AllByRecursion (IsRight disk) (run_steps disk run puts spills)
  -- the rows of these spills in the order of the gaps, and no others
  pub rows : items ≡ flat_map (rows_in disk) (run_steps disk run puts spills)
  -- the head can go that way, which has all foreground passages and all stays of deliveries
  pub possible : IsPossible disk (amended disk run.back run.fore spills) run.end
  pub keeps : IsSublist (kept disk run.back run.fore) (amended disk run.back run.fore spills)

pub record IsSpillRun (disk : Disk) (run : Run) (puts : List Put) (items : List SpillItem) : Type 0 where
  pub spills : List (Option Spill)
  pub are : AreSpills disk run puts items spills

-- no block is written twice: no two rows tell of one put and one LBN
abbrev pub AreOnce : List SpillItem → Type 0
AreOnce items = (i j : ℕ) (row other : WroteRow) → slice_get items i ≡ Some (ItemWrote row) → slice_get items j ≡ Some (ItemWrote other)
    → row.put ≡ other.put → row.lbn ≡ other.lbn → i ≡ j

-- what is written is a block of a put whose instant has come
pub record IsOfPut (disk : Disk) (puts : List Put) (row : WroteRow) : Type 0 where
  pub put : PutBlock
  pub among : (i : ℕ) × (slice_get (put_blocks disk.map puts) i ≡ Some put)
  pub writes : writes put.block (ItemWrote row) ≡ true
  pub count : row.count ≡ put.block.count
  pub after : put.instant ≤ row.begin

abbrev pub IsInTime : Disk → List Put → SpillItem → Type 0
IsInTime disk puts (ItemSpill row) = Unit {0}
IsInTime disk puts (ItemWrote row) = IsOfPut disk puts row

-- the sectors that a row tells to be written
abbrev pub sectors_in : SpillItem → ℕ
sectors_in (ItemSpill row) = 0
sectors_in (ItemWrote row) = row.count

-- the sectors of all blocks that no row tells to be written
abbrev pub left_over : Disk → List Put → List SpillItem → ℕ
left_over disk puts items = sectors (filter (λ block. not (is_written items block)) (map (λ put. put.block) (put_blocks disk.map puts)))
