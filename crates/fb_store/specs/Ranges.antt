-- How the contents of sectors are kept: as ranges, by where they begin, each with a content or none; a range extends to the next one.
-- Contracts speak only of what a sector holds.
use Rattle.std.specs.Prelude.{◌≡◌, ℕ, zero, suc, ◌+◌, List, Option, None, Some, slice_get}
use Rattle.std.specs.Option.{unwrap_or, IsSome}
use Rattle.std.specs.Ordering.{nat_cmp}
use Rattle.std.specs.BTreeMap.{is_at}
use Rattle.std.specs.Map.{lookup}
use Rattle.fb_store.specs.declared.content.Content.{Content}
use Rattle.fb_store.specs.declared.content.ContentRun.{ContentRun}
use Rattle.fb_store.specs.Writes.{unwritten}

-- what a sector holds: the content of the range that begins at it, or what the sector before it holds
abbrev pub held_of : (ℕ → Option (Option Content)) → ℕ → Option Content
held_of begins zero = unwrap_or (begins zero) None
held_of begins (suc lbn) = unwrap_or (begins (suc lbn)) (held_of begins lbn)

-- the content of the range that begins at a sector, if one does
abbrev pub begins_at : List (ℕ × Option Content) → ℕ → Option (Option Content)
begins_at ranges lbn = lookup (is_at (nat_cmp lbn)) ranges

-- what a sector holds according to these ranges, if anything
abbrev pub held_at : List (ℕ × Option Content) → ℕ → Option Content
held_at ranges lbn = held_of (begins_at ranges) lbn

-- the latent sectors of a disk, and its ranges
pub record Holding : Type 0 where
  pub latent : List ℕ
  pub ranges : List (ℕ × Option Content)

-- what a sector of a disk holds: what was written to it, or what was there before any write
abbrev pub content_in : Holding → ℕ → Content
content_in holding lbn = unwrap_or (held_at holding.ranges lbn) (unwritten holding.latent lbn)

-- a range begins at each run and behind it
abbrev pub AreCut : (ℕ → Option (Option Content)) → List ContentRun → Type 0
AreCut begins runs = (i : ℕ) (run : ContentRun) → slice_get runs i ≡ Some run
    → IsSome (begins run.first) × IsSome (begins (run.first + run.count))
