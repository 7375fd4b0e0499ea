-- What the disk holds, and what deliveries found.
use Rattle.std.specs.Prelude.{◌≡◌, ◌≤◌, ℕ, true}
use Rattle.fb_store.specs.Runs.{runs_of}
use Rattle.fb_store.specs.Ranges.{Holding, content_in}
use Rattle.fb_wanted.specs.declared.block.Block.{Block}
use Rattle.fb_wanted.specs.States.{is_delivered}
use Rattle.fb_rows.specs.declared.back.DeliveryRow.{DeliveryRow}
use Rattle.fb_model.specs.Content.{Medium, content}
use Rattle.fb_model.specs.History.{Past, bare_state, content_of, is_open_backup}
use Rattle.fb_model.specs.Images.{held_at_delivery}
use Rattle.fb_model.specs.Deliveries.{delivery_row}
use Rattle.fb_decide.specs.Contents.{held}
use Rattle.fb_decide.specs.Deliveries.{IsRegistered, held_now}

-- between these instants each sector holds what the disk holds now
abbrev pub Mirrors : Medium → Holding → ℕ → ℕ → Type 0
Mirrors medium holding from to = (lbn t : ℕ) → from ≤ t → t ≤ to → content medium lbn t ≡ content_in holding lbn

-- a delivery between two instants, of what the disk holds
pub record IsFoundIn (holding : Holding) (from to : ℕ) (got : DeliveryRow) : Type 0 where
  pub row : got ≡ delivery_row (held_now holding) got.how (record { block = got.block; begin = got.begin; end = got.end })
  pub begin : from ≤ got.begin
  pub order : got.begin ≤ got.end
  pub end : got.end ≤ to

-- each delivered block was found as it was when its passage began, and a block of an open backup is still the same
pub record IsTrue (medium : Medium) (holding : Holding) (past : Past) : Type 0 where
  pub found : (block : Block) → IsRegistered past block → is_delivered (bare_state past block) ≡ true
      → content_of past block ≡ runs_of (held_at_delivery medium past block)
  pub kept : (block : Block) → IsRegistered past block → is_delivered (bare_state past block) ≡ true → is_open_backup past block.task ≡ true
      → content_of past block ≡ runs_of (held holding block.lbn block.count)
