-- The depth of a sector: the weights together of the registered blocks to which it belongs.
use Rattle.std.specs.Prelude.{◌≡◌, ℕ, ◌+◌, ◌-◌, ◌*◌, ◌≤◌, ◌==◌, List, Bool, true, false, ◌&&◌, Some, nat_le, nat_lt, if◌then◌else◌, length}
use Rattle.std.specs.Prelude.{filter, get_or, slice_get}
use Rattle.std.specs.List.{sum_by}
use Rattle.fb_units.specs.declared.types.Track.{Track}
use Rattle.fb_wanted.specs.declared.block.Block.{Block}
use Rattle.fb_wanted.specs.declared.block.Entry.{Entry}
use Rattle.fb_wanted.specs.declared.depths.Depth.{Depth}
use Rattle.fb_wanted.specs.States.{on_track}
use Rattle.fb_wanted.specs.Numbering.{blocks_of}
use Rattle.fb_wanted.specs.Tracks.{band_of}

-- the sector is one of the block's
abbrev pub is_in : ℕ → Block → Bool
is_in lbn block = nat_le block.lbn lbn && nat_lt lbn (block.lbn + block.count)

-- what a block adds to the depth of a sector
abbrev pub weight_on : ℕ → Entry → ℕ
weight_on lbn entry = if is_in lbn entry.block then entry.block.weight else 0

-- the depth of a sector among the registered blocks of a track
abbrev pub depth_at : Track → ℕ → List Entry → ℕ
depth_at track lbn entries = sum_by (weight_on lbn) (on_track track entries)

-- the depth of a sector among the registered blocks of a band
abbrev pub band_depth : ℕ → ℕ → List Entry → ℕ
band_depth band lbn entries = sum_by (weight_on lbn) (filter (λ entry. band_of entry.block == band) entries)

-- a band with no block
abbrev pub no_depth : Depth
no_depth = record { most = 0; first = 0; count = 0; spare = 0; has_block = false }

-- how much of a block's weight fits under the bound as it is
abbrev pub spare_for : Block → Depth → ℕ
spare_for block depth = if nat_le (depth.first + depth.count) block.lbn then depth.spare else 0

-- the bound of a band with one more block
abbrev pub deepened : Block → Depth → Depth
deepened block depth = record {
  most = depth.most + (block.weight - spare_for block depth);
  first = block.lbn;
  count = block.count;
  spare = spare_for block depth + (block.weight - spare_for block depth);
  has_block = true;
}

-- an upper bound on the depth of each sector of the band, and how far below it depths are behind the block registered last
pub record IsDeep (band : ℕ) (entries : List Entry) (depth : Depth) : Type 0 where
  pub most : (lbn : ℕ) → band_depth band lbn entries ≤ depth.most
  pub behind : (lbn : ℕ) → depth.first + depth.count ≤ lbn → band_depth band lbn entries + depth.spare ≤ depth.most
  pub small : depth.most ≤ 1000 * length entries

-- each band has such a bound, and those with a block are marked
pub record AreDeep (entries : List Entry) (depths : List Depth) : Type 0 where
  pub bounds : (band : ℕ) → IsDeep band entries (get_or depths band no_depth)
  pub marked : (i : ℕ) (block : Block) → slice_get (blocks_of entries) i ≡ Some block
      → (get_or depths (band_of block) no_depth).has_block ≡ true
