-- What the sectors of the reserve hold at a run's end.
use Rattle.std.specs.Prelude.{◌≡◌, ℕ, ◌+◌, ◌^◌, List, [], ◌∷◌, ◌++◌, Bool, true, false, nat_lt, filter, if◌then◌else◌, Option, Some, None}
use Rattle.std.specs.Prelude.{slice_get}
use Rattle.std.specs.List.{AllByRecursion, flat_map}
use Rattle.fb_store.specs.declared.content.Content.{Content}
use Rattle.fb_store.specs.declared.content.Content.TheVariants.{Filled}
use Rattle.fb_store.specs.Writes.{is_within, writer_of, unwritten}
use Rattle.fb_rows.specs.declared.fore.ForeRow.{ForeRow}
use Rattle.fb_rows.specs.declared.run.Run.{Run}
use Rattle.fb_bgwrite.specs.declared.items.SpillItem.{SpillItem}
use Rattle.fb_bgwrite.specs.declared.items.SpillItem.TheVariants.{Spill as ItemSpill, Wrote as ItemWrote}
use Rattle.fb_bgwrite.specs.declared.items.WroteRow.{WroteRow}
use Rattle.fb_puts.specs.declared.range.SectorRange.{SectorRange}
use Rattle.fb_puts.specs.Asked.{request_range}

-- at an instant the sectors of a range get the fill of a writer
pub record Fill : Type 0 where
  pub instant : ℕ
  pub range : SectorRange
  pub writer : ℕ

-- a foreground write takes effect at its finish, and leaves its number in its sectors
abbrev pub fore_fills : ForeRow → List Fill
fore_fills row = if row.request.write
    then record { instant = row.finish; range = request_range row.request; writer = writer_of row.request.name } ∷ []
    else []

abbrev pub wrote_range : WroteRow → SectorRange
wrote_range row = record { first = row.lbn; count = row.count }

-- a put's block that was written takes effect when it has passed; put i leaves 2^32 + i
abbrev pub put_fills : SpillItem → List Fill
put_fills (ItemSpill row) = []
put_fills (ItemWrote row) = record { instant = row.end; range = wrote_range row; writer = 2 ^ 32 + row.put } ∷ []

-- all that is written in a run with these rows of spills
abbrev pub fills : Run → List SpillItem → List Fill
fills run items = flat_map fore_fills run.fore ++ flat_map put_fills items

-- the sector is one of the range
abbrev pub is_in : SectorRange → ℕ → Bool
is_in range lbn = is_within range.first range.count lbn

-- of two the later one, and of equals the second
abbrev pub later : Fill → Option Fill → Fill
later first None = first
later first (Some second) = if nat_lt second.instant first.instant then first else second

-- of all the latest
abbrev pub latest : List Fill → Option Fill
latest [] = None
latest (fill ∷ fills) = Some (later fill (latest fills))

abbrev pub held_by : Option Fill → Content → Content
held_by None before = before
held_by (Some fill) before = Filled fill.writer

-- what a sector holds after all that is written, where these sectors were latent: the fill of the latest that concerns it, or what it held
-- before any write
abbrev pub held : List ℕ → List Fill → ℕ → Content
held latent fills lbn = held_by (latest (filter (λ fill. is_in fill.range lbn) fills)) (unwritten latent lbn)

-- the row tells that the sector was written
abbrev pub is_told : ℕ → SpillItem → Bool
is_told lbn (ItemSpill row) = false
is_told lbn (ItemWrote row) = is_in (wrote_range row) lbn

-- at a run's end each sector of the reserve holds its put's fill where a row tells that it was written, and else what it held before any
-- write
pub record HoldsPuts (run : Run) (reserve : SectorRange) (items : List SpillItem) : Type 0 where
  pub written : (latent : List ℕ) (lbn i : ℕ) (row : WroteRow) → is_in reserve lbn ≡ true → slice_get items i ≡ Some (ItemWrote row)
      → is_told lbn (ItemWrote row) ≡ true
      → held latent (fills run items) lbn ≡ Filled (2 ^ 32 + row.put)
  pub others : (latent : List ℕ) (lbn : ℕ) → is_in reserve lbn ≡ true → AllByRecursion (λ item. is_told lbn item ≡ false) items
      → held latent (fills run items) lbn ≡ unwritten latent lbn
