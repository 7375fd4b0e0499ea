-- How far the writing is, gap by gap.
use Rattle.std.specs.Prelude.{◌≡◌, ℕ, ◌+◌, ◌*◌, ◌^◌, ◌<◌, ◌≤◌, List, ◌++◌, false, take, length, map, Option, Some, if◌then◌else◌, slice_get}
use Rattle.std.specs.List.{AllByRecursion, sum_by}
use Rattle.fb_service.specs.declared.disk.Disk.{Disk}
use Rattle.fb_wanted.specs.declared.block.Block.{Block}
use Rattle.fb_wanted.specs.declared.block.Entry.{Entry}
use Rattle.fb_wanted.specs.declared.block.State.TheVariants.{Wanted, Delivered}
use Rattle.fb_rows.specs.declared.back.GapRow.{GapRow}
use Rattle.fb_rows.specs.declared.gap.Catch.{Catch}
use Rattle.fb_bgwrite.specs.declared.choice.Spill.{Spill}
use Rattle.fb_bgwrite.specs.declared.items.SpillItem.{SpillItem}
use Rattle.fb_bgwrite.specs.declared.items.SpillItem.TheVariants.{Spill as ItemSpill, Wrote as ItemWrote}
use Rattle.fb_bgwrite.specs.declared.spilling.Spilling.{Spilling}
use Rattle.fb_puts.specs.declared.puts.Put.{Put}
use Rattle.fb_units.specs.Rising.{IsRising}
use Rattle.fb_puts.specs.Ranges.{AreApart}
use Rattle.fb_puts.specs.Reading.{range_of}
use Rattle.fb_bgwrite.specs.Blocks.{PutBlock, blocks_from, is_written, pending, put_blocks, sectors}
use Rattle.fb_bgwrite.specs.Spilled.{left_over, sectors_in, AreOnce, IsInTime}
use Rattle.fb_bgwrite.specs.Steps.{rows_of, IsChosen}
use Rattle.fb_bgwrite.specs.Text.{HasRange}

-- puts in order on a disk of this many sectors, no two of which share a sector, and of which a reserve has enough
pub record ArePutsOn (disk_sectors : ℕ) (puts : List Put) : Type 0 where
  pub some : AllByRecursion (λ put. 0 < put.count) puts
  pub on_disk : AllByRecursion (λ put. put.first + put.count ≤ disk_sectors) puts
  pub rising : IsRising (map (λ put. put.instant) puts)
  pub apart : AreApart (map range_of puts)
  pub few : length puts ≤ 10 ^ 5
  pub few_sectors : sum_by (λ put. put.count) puts ≤ 16 * 10 ^ 6

-- a block that is registered and not yet written
abbrev pub wanted_entry : Block → Entry
wanted_entry block = record { block = block; state = Wanted }

-- a block of a put as it is registered: delivered once it is written, and wanted until then
abbrev pub entry_of : List SpillItem → PutBlock → Entry
entry_of items put = record { block = put.block; state = if is_written items put.block then Delivered else Wanted }

-- the blocks of the first puts
abbrev pub first_blocks : Disk → List Put → ℕ → List PutBlock
first_blocks disk puts n = blocks_from disk.map 1 (take n puts)

-- the row is of one of the first puts
abbrev pub IsUpTo : ℕ → SpillItem → Type 0
IsUpTo n (ItemSpill row) = Unit {0}
IsUpTo n (ItemWrote row) = row.put ≤ n

-- the blocks of the first puts, whose instants have come, are registered; and all that holds of the rows so far
pub record IsSpilling (spilling : Spilling) : Type 0 where
  pub first : spilling.admitted ≤ length spilling.puts.now
  pub come : AllByRecursion (λ put. put.instant ≤ spilling.instant) (take spilling.admitted spilling.puts.now)
  pub registered : spilling.pending ≡ map (entry_of spilling.items) (first_blocks spilling.disk.now spilling.puts.now spilling.admitted)
  pub upto : AllByRecursion (IsUpTo spilling.admitted) spilling.items
  pub written : spilling.written ≡ sum_by sectors_in spilling.items
  pub parts : spilling.written + left_over spilling.disk.now spilling.puts.now spilling.items
      ≡ sectors (map (λ put. put.block) (put_blocks spilling.disk.now.map spilling.puts.now))
  pub once : AreOnce spilling.items
  pub in_time : AllByRecursion (IsInTime spilling.disk.now spilling.puts.now) spilling.items
  pub ranges : AllByRecursion HasRange spilling.items

-- the disk and the puts stay the same
pub record HasKept (old new : Spilling) : Type 0 where
  pub disk : new.disk ≡ old.disk
  pub puts : new.puts ≡ old.puts

-- a block of the first puts that no row tells to be written, and that passes once its put's instant has come
pub record IsToWrite (spilling : Spilling) (catch : Catch) : Type 0 where
  pub index : ℕ
  pub put : PutBlock
  pub stands : slice_get (first_blocks spilling.disk.now spilling.puts.now spilling.admitted) index ≡ Some put
  pub block : catch.block ≡ put.block
  pub unwritten : is_written spilling.items put.block ≡ false
  pub after : put.instant ≤ catch.begin

-- the rows of a free gap: those of its best spill, if any writes something
pub record HasChosen (disk : Disk) (puts : List Put) (row : GapRow) (old new : List SpillItem) : Type 0 where
  pub spill : Option Spill
  pub chosen : IsChosen disk row (pending (put_blocks disk.map puts) old row.gap.now) spill
  pub rows : new ≡ old ++ rows_of disk row (pending (put_blocks disk.map puts) old row.gap.now) spill
