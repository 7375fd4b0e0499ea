-- The blocks into which puts are cut, and when they are pending.
use Rattle.std.specs.Prelude.{ℕ, ◌+◌, List, [], ◌∷◌, ◌++◌, Bool, false, ◌&&◌, not, ◌==◌, nat_le, map, filter}
use Rattle.std.specs.List.{list_any, sum_by}
use Rattle.fb_geometry.specs.Shape.{Shape}
use Rattle.fb_sectormap.specs.Cutting.{cutting}
use Rattle.fb_wanted.specs.declared.block.Block.{Block}
use Rattle.fb_model.specs.Segments.{numbered}
use Rattle.fb_puts.specs.declared.puts.Put.{Put}
use Rattle.fb_bgwrite.specs.declared.items.SpillItem.{SpillItem}
use Rattle.fb_bgwrite.specs.declared.items.SpillItem.TheVariants.{Spill, Wrote}

-- a block of a put, and the put's instant; the block's task is the number of the put, and its weight is 1
pub record PutBlock : Type 0 where
  pub instant : ℕ
  pub block : Block

-- the blocks of the put with this number: at most 2,048 sectors, each passing whole in one turn of a track
abbrev pub blocks_of : Shape → ℕ → Put → List PutBlock
blocks_of disk number put =
    map (λ block. record { instant = put.instant; block = block }) (numbered number 1 0 (cutting disk 2048 put.first put.count))

-- the blocks of puts, which are numbered from this number on
unfoldable pub blocks_from : Shape → ℕ → List Put → List PutBlock
blocks_from disk number [] = []
blocks_from disk number (put ∷ puts) = blocks_of disk number put ++ blocks_from disk (number + 1) puts

-- the blocks of all puts, which are numbered from 1 on
abbrev pub put_blocks : Shape → List Put → List PutBlock
put_blocks disk puts = blocks_from disk 1 puts

-- the row tells that the block was written
abbrev pub writes : Block → SpillItem → Bool
writes block (Spill row) = false
writes block (Wrote row) = (row.put == block.task) && (row.lbn == block.lbn)

-- one of the rows does
abbrev pub is_written : List SpillItem → Block → Bool
is_written items block = list_any (writes block) items

-- the put's instant has come, and the block wasn't written so far
abbrev pub is_pending : List SpillItem → ℕ → PutBlock → Bool
is_pending so_far now put = nat_le put.instant now && not (is_written so_far put.block)

-- the pending blocks
unfoldable pub pending : List PutBlock → List SpillItem → ℕ → List Block
pending blocks so_far now = map (λ put. put.block) (filter (is_pending so_far now) blocks)

-- how many sectors blocks have
abbrev pub sectors : List Block → ℕ
sectors blocks = sum_by (λ block. block.count) blocks
