-- The background blocks of a disk.
use Rattle.std.specs.Prelude.{◌≡◌, ◌+◌, ◌<◌, ◌≤◌, length}
use Rattle.fb_geometry.specs.Shape.{Shape}
use Rattle.fb_geometry.specs.Places.{places}
use Rattle.fb_sectormap.specs.Cutting.{IsOneTurn}
use Rattle.fb_sectormap.specs.LookUp.{track_at}
use Rattle.fb_sectormap.specs.Sweeps.{sweep_of}
use Rattle.fb_wanted.specs.declared.block.Block.{Block}

-- a block that can be registered: it is small, lies on the disk, passes whole in one turn of its track, and says how
pub record IsBlockOn (disk : Shape) (block : Block) : Type 0 where
  pub some : 0 < block.count
  pub few : block.count ≤ 2048
  pub light : block.weight ≤ 1000
  pub on_disk : block.lbn + block.count ≤ length (places disk)
  pub track : block.track ≡ track_at disk block.lbn
  pub one_turn : IsOneTurn disk block.lbn block.count
  pub sweep : block.sweep ≡ sweep_of disk block.lbn block.count
