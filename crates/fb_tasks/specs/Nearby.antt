-- Which open backups a write looks at. Contracts of inner functions cite it.
use Rattle.std.specs.Prelude.{◌≡◌, ◌<◌, ◌≤◌, ◌^◌, ◌/◌, ◌&&◌, not, ℕ, List, true, Some, slice_get}
use Rattle.std.specs.List.{AllByRecursion}
use Rattle.std.specs.Ordering.{nat_cmp, ordering_then}
use Rattle.std.specs.declared.cmp.Ordering.{Ordering}
use Rattle.fb_script.specs.Sessions.{is_backup}
use Rattle.fb_wanted.specs.declared.block.Block.{Block}
use Rattle.fb_wanted.specs.declared.block.Entry.{Entry}
use Rattle.fb_tasks.specs.declared.near.Chunks.{Chunks}
use Rattle.fb_tasks.specs.declared.session.Session.{Session}

-- the chunk of an LBN: a chunk has 2,048 neighbouring LBNs
abbrev pub chunk_of : ℕ → ℕ
chunk_of lbn = lbn / 2048

-- notes are ordered by chunk, and then by task
abbrev pub pair_cmp : ℕ × ℕ → ℕ × ℕ → Ordering
pair_cmp a b = ordering_then (nat_cmp a.0 b.0) (nat_cmp a.1 b.1)

-- the chunk is one of these
abbrev pub IsAmong : Chunks → ℕ → Type 0
IsAmong chunks chunk = (chunks.first ≤ chunk) × (chunk < chunks.end)

-- the block begins in one of these chunks
abbrev pub BeginsIn : Chunks → Block → Type 0
BeginsIn chunks block = IsAmong chunks (chunk_of block.lbn)

-- the block has at most 2,048 sectors, and if its task is an open backup, it begins in one of that one's chunks
pub record IsNearby (sessions : List Session) (block : Block) : Type 0 where
  pub small : block.lbn < 2 ^ 64
  pub few : block.count ≤ 2048
  pub begins : (session : Session) → slice_get sessions block.task ≡ Some session
      → (is_backup session.kind && not session.sealed) ≡ true → BeginsIn session.chunks block

-- each of the registered blocks is so
abbrev pub AreNearby : List Session → List Entry → Type 0
AreNearby sessions held = AllByRecursion (λ entry. IsNearby sessions entry.block) held
