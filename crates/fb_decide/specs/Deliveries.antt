-- What is delivered from a disk as it is, and what the deliveries make of a history.
use Rattle.std.specs.Prelude.{◌≡◌, ℕ, List, [], ◌∷◌, ◌++◌, false, map, Some, slice_get}
use Rattle.std.specs.List.{AllByRecursion, fold}
use Rattle.fb_geometry.specs.Shape.{Shape}
use Rattle.fb_service.specs.declared.disk.Disk.{Disk}
use Rattle.fb_store.specs.Ranges.{Holding}
use Rattle.fb_wanted.specs.declared.block.Block.{Block}
use Rattle.fb_rows.specs.declared.gap.Plan.{Plan}
use Rattle.fb_rows.specs.declared.back.DeliveryRow.{DeliveryRow}
use Rattle.fb_rows.specs.declared.back.BackRow.{BackRow}
use Rattle.fb_model.specs.Content.{ContentsAt}
use Rattle.fb_model.specs.Plans.{IsBest}
use Rattle.fb_model.specs.PlainReplay.{Served}
use Rattle.fb_model.specs.Decisions.{serving}
use Rattle.fb_model.specs.Deliveries.{due, gap_of}
use Rattle.fb_model.specs.History.{Past, finished, registered, same_block, wanted}
use Rattle.fb_model.specs.Steps.{Delivery, with_delivery, delivery_rows, opening}
use Rattle.fb_tasks.specs.Taken.{delivery_of}
use Rattle.fb_tasks.specs.Telling.{Tells, IsUpToDate}
use Rattle.fb_decide.specs.declared.background.Background.{Background}
use Rattle.fb_decide.specs.Contents.{held}

-- the contents of sectors as the disk is now, whatever the instant
abbrev pub held_now : Holding → ContentsAt
held_now holding lbn n t = held holding lbn n

-- these deliveries one after another, each with its findings and what its test gives
abbrev pub followed : Past → List DeliveryRow → List Delivery
followed past [] = []
followed past (got ∷ gots) = delivery_of past got ∷ followed (with_delivery past (delivery_of past got)) gots

-- the history after these deliveries, each with its test
abbrev pub past_with : Past → List DeliveryRow → Past
past_with past gots = fold with_delivery past (followed past gots)

-- the block stands in the list
abbrev pub IsOneOf : List Block → Block → Type 0
IsOneOf blocks block = (index : ℕ) × (slice_get blocks index ≡ Some block)

-- the block is registered
abbrev pub IsRegistered : Past → Block → Type 0
IsRegistered past block = IsOneOf (registered past) block

-- the sessions and the registered blocks tell the history, and all of it was tested
pub record TellsUpToDate (disk : Shape) (past : Past) (background : Background) : Type 0 where
  pub tells : Tells disk past background.sessions background.blocks
  pub up_to_date : IsUpToDate past

-- no two blocks are the same
abbrev pub AreDistinct : List Block → Type 0
AreDistinct [] = Unit {0}
AreDistinct (block ∷ blocks) = AllByRecursion (λ other. same_block block other ≡ false) blocks × AreDistinct blocks

-- the block that is delivered
abbrev pub block_in : DeliveryRow → Block
block_in got = got.block

-- deliveries of different blocks that are wanted
pub record AreDeliverable (past : Past) (gots : List DeliveryRow) : Type 0 where
  pub each : AllByRecursion (λ got. IsOneOf (wanted past) got.block) gots
  pub distinct : AreDistinct (map block_in gots)

-- these deliveries were made, and their rows added
pub record HasDelivered (disk : Shape) (past : Past) (gots : List DeliveryRow) (rows : List BackRow) (after : Background) : Type 0 where
  pub current : TellsUpToDate disk (past_with past gots) after
  pub rows_after : after.rows ≡ rows ++ delivery_rows (followed past gots)
  pub registered : AllByRecursion (λ got. IsRegistered past got.block) gots

-- the best plan for a request's gap was followed, and what is due in the gap and along with a read was delivered
pub record HasDeliveredAround (disk : Disk) (holding : Holding) (past : Past) (served : Served) (rows : List BackRow)
    (after : Background) : Type 0 where
  pub plan : Plan
  pub best : IsBest disk (gap_of disk served) (wanted past) plan
  pub delivered : HasDelivered disk.map past (due disk (held_now holding) (serving served plan) (wanted past))
      (rows ++ opening disk (serving served plan)) after

-- and then the request has finished, which adds no background row
pub record HasServed (disk : Disk) (holding : Holding) (past : Past) (served : Served) (rows : List BackRow)
    (after : Background) : Type 0 where
  pub around : Background
  pub delivered_around : HasDeliveredAround disk holding past served rows around
  pub open delivered_around use *
  pub tells : Tells disk.map (finished served.request ∷ past_with past (due disk (held_now holding) (serving served plan) (wanted past)))
      after.sessions after.blocks
  pub same_rows : after.rows ≡ around.rows
