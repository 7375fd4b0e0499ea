-- What one session keeps. Contracts of inner functions cite it.
use Rattle.std.specs.Prelude.{◌≡◌, ℕ, ◌+◌, List, length, map, Bool, true, false, ◌&&◌, ◌||◌, not, ◌==◌, nat_lt, if◌then◌else◌, Option, None}
use Rattle.std.specs.Prelude.{Some}
use Rattle.std.specs.List.{flat_map, list_any}
use Rattle.fb_geometry.specs.Shape.{Shape}
use Rattle.fb_script.specs.declared.call.Kind.{Kind}
use Rattle.fb_script.specs.declared.call.Kind.TheVariants.{Clean}
use Rattle.fb_script.specs.Sessions.{is_backup, is_clean}
use Rattle.fb_sectormap.specs.declared.cut.Cut.{Cut}
use Rattle.fb_sectormap.specs.Cutting.{cutting}
use Rattle.fb_store.specs.declared.content.Content.{Content}
use Rattle.fb_store.specs.Ranges.{held_at}
use Rattle.fb_store.specs.Sparse.{after_take}
use Rattle.fb_store.specs.Writes.{is_within}
use Rattle.fb_wanted.specs.declared.block.Block.{Block}
use Rattle.fb_wanted.specs.declared.block.Counts.{Counts}
use Rattle.fb_wanted.specs.declared.block.Entry.{Entry}
use Rattle.fb_wanted.specs.States.{wanted_unless, is_aborted}
use Rattle.fb_clean.specs.Segments.{Cleaning, taken_for}
use Rattle.fb_tasks.specs.declared.session.Session.{Session}

-- there is no number
abbrev pub is_none : Option ℕ → Bool
is_none None = true
is_none (Some number) = false

-- no work is left in a log that has segments: it was closed, or each segment is chosen and finished
abbrev pub is_worked_off : Bool → Cleaning → Bool
is_worked_off closed log = nat_lt 0 (length log.segments)
    && (closed || (is_none log.unfinished && not (list_any (λ segment. segment.waits) log.segments)))

-- there is a block, and each is delivered or aborted
abbrev pub are_over : Counts → Bool
are_over counts = nat_lt 0 counts.registered && (counts.delivered + counts.aborted == counts.registered)

-- the task of a session that was opened as this kind is complete: a log by its segments, else by its blocks
abbrev pub complete_as : Kind → Session → Counts → Bool
complete_as Clean session counts = is_worked_off session.closed session.log
complete_as _ session counts = are_over counts

-- the task of a session with these counts is complete
abbrev pub complete_by : Session → Counts → Bool
complete_by session counts = complete_as session.kind session counts

-- blocks that a session has just registered
abbrev pub new_entries : Session → List Block → List Entry
new_entries session blocks = map (λ block. record { block = block; state = wanted_unless session.suspended }) blocks

-- the cuttings of blocks that begin at these sectors
abbrev pub cuts_of : Shape → ℕ → List ℕ → List Cut
cuts_of disk block lbns = flat_map (λ lbn. cutting disk block lbn block) lbns

-- what a sector of an image holds after the sectors of an aborted block were dropped
abbrev pub without_aborted : Entry → ℕ → Option Content → Option Content
without_aborted entry lbn before = if is_aborted entry.state && is_within entry.block.lbn entry.block.count lbn then None else before

-- a backup has been sealed if it was due, and nothing else has changed; its image isn't needed afterwards
pub record IsSealed (seals : Bool) (old new : Session) : Type 0 where
  pub same : new ≡ record old { sealed = seals || old.sealed; image = new.image }
  pub image : seals ≡ false → (lbn : ℕ) → held_at new.image lbn ≡ held_at old.image lbn

-- the content of a block was taken into the image of a backup, or for the chosen segment, and nothing else has changed
pub record HasTaken (content_at : ℕ → Content) (block : Block) (old new : Session) : Type 0 where
  pub same : new ≡ record old { image = new.image; log = record old.log { taken = new.log.taken } }
  pub image : is_backup old.kind ≡ true → (lbn : ℕ)
      → held_at new.image lbn ≡ after_take content_at block.lbn block.count lbn (held_at old.image lbn)
  pub log : is_clean old.kind ≡ true → (number lbn : ℕ) → old.log.unfinished ≡ Some number
      → taken_for new.log number lbn ≡ after_take content_at block.lbn block.count lbn (taken_for old.log number lbn)
