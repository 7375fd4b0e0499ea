-- What a read carries, extent by extent.
use Rattle.std.specs.Prelude.{◌≡◌, ℕ, ◌+◌, ◌-◌, ◌^◌, ◌≤◌, List, [], ◌∷◌, ◌++◌, Bool, ◌&&◌, nat_le, nat_lt}
use Rattle.std.specs.Prelude.{filter, map, length}
use Rattle.std.specs.List.{AllByRecursion}
use Rattle.fb_units.specs.declared.types.Request.{Request}
use Rattle.fb_geometry.specs.Shape.{Shape}
use Rattle.fb_geometry.specs.Places.{places}
use Rattle.fb_service.specs.declared.passage.Passage.{Passage}
use Rattle.fb_service.specs.declared.passage.Extent.{Extent}
use Rattle.fb_service.specs.Extents.{IsUnbroken}
use Rattle.fb_wanted.specs.declared.block.Block.{Block}
use Rattle.fb_model.specs.Deliveries.{lies_in, ride_of}
use Rattle.fb_rows.specs.declared.gap.Catch.{Catch}

-- the block's first sector passes in the extent
abbrev pub begins_in : Extent → Block → Bool
begins_in extent block = nat_le extent.first block.lbn && nat_lt block.lbn (extent.first + extent.count)

-- those of a read's blocks that begin in an extent
abbrev pub begun_in : Extent → Request → List Block → List Block
begun_in extent request blocks = filter (λ block. begins_in extent block && lies_in request block) blocks

-- these catches, and of these blocks those that a read carries and that begin in an extent, in their order
abbrev pub added : List Passage → Extent → Request → List Catch → List Block → List Catch
added passages extent request found blocks = found ++ map (ride_of passages) (begun_in extent request blocks)

-- an extent of sectors of the disk
pub record IsExtentOf (disk : Shape) (extent : Extent) : Type 0 where
  pub on_disk : extent.first + extent.count ≤ length (places disk)
  pub within : extent.first + extent.count ≤ 10 ^ 12
  pub early : extent.begin ≤ 10 ^ 19
  pub unbroken : IsUnbroken disk extent

-- each is an extent of sectors of the disk
abbrev pub AreExtents : Shape → List Extent → Type 0
AreExtents disk extents = AllByRecursion (IsExtentOf disk) extents

-- extents laid end to end from a sector on, with this many sectors in all
abbrev pub AreLaid : ℕ → List Extent → ℕ → Type 0
AreLaid first [] count = count ≡ 0
AreLaid first (extent ∷ extents) count =
    (extent.first ≡ first) × (extent.count ≤ count) × AreLaid (first + extent.count) extents (count - extent.count)
