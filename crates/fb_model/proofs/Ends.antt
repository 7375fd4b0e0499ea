-- No passage of a block ends before it is waited for, and a later start never ends it earlier.
use Rattle.fb_model.proofs.Words.{ℕ, ◌+◌, ◌-◌, ◌%◌, ◌<◌, ◌≤◌, arith, Shape, place_at, begin_angle, begin_from, Block, block_begin}
use Rattle.fb_model.proofs.Words.{block_end}
use Rattle.fb_units.proofs.Waits.{next-le}
use Rattle.fb_service.specs.Passing.{end_angle}

pub begin-le : (disk : Shape) (block : Block) (t u : ℕ) → 0 < disk.rotation → t ≤ u → block_begin disk block t ≤ block_begin disk block u
unfolding begin_from
begin-le disk block t u some le = next-le disk.rotation (begin_angle disk (place_at disk block.lbn)) t u some le

pub end-le : (disk : Shape) (block : Block) (t u : ℕ) → 0 < disk.rotation → t ≤ u → block_end disk block t ≤ block_end disk block u
end-le disk block t u some le =
    next-le disk.rotation (end_angle disk (place_at disk (block.lbn + block.count - 1)) % disk.rotation) (block_begin disk block t + 1)
    (block_begin disk block u + 1) some (omega (arith, begin-le disk block t u some le))

pub begin-from-le : (disk : Shape) (block : Block) (t : ℕ) → t ≤ block_begin disk block t
unfolding begin_from
begin-from-le disk block t = omega arith

pub end-from-le : (disk : Shape) (block : Block) (t : ℕ) → t ≤ block_end disk block t
end-from-le disk block t = omega (arith, begin-from-le disk block t)
