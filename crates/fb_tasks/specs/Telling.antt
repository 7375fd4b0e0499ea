-- The sessions and the registered blocks tell what a history has made of tasks and blocks.
use Rattle.std.specs.Prelude.{◌≡◌, ◌≤◌, ◌<◌, ◌^◌, ◌*◌, ◌+◌, ◌-◌, ℕ, List, [], ◌∷◌, Some, length, slice_get}
use Rattle.std.specs.List.{sum_by}
use Rattle.fb_geometry.specs.Shape.{Shape}
use Rattle.fb_script.specs.declared.call.Action.{Action}
use Rattle.fb_script.specs.declared.call.Call.{Call}
use Rattle.fb_script.specs.Allowed.{MayAsk}
use Rattle.fb_wanted.specs.declared.block.Entry.{Entry}
use Rattle.fb_wanted.specs.declared.block.Change.TheVariants.{Deliver}
use Rattle.fb_wanted.specs.States.{after}
use Rattle.fb_rows.specs.declared.back.DeliveryRow.{DeliveryRow}
use Rattle.fb_store.specs.declared.content.Content.{Content}
use Rattle.fb_store.specs.Sparse.{Gives}
use Rattle.fb_model.specs.History.{tested, Past, tasks, task_numbers, registered, wanted}
use Rattle.fb_model.specs.Completion.{is_complete, was_complete, view}
use Rattle.fb_model.specs.Steps.{blocks_by}
use Rattle.fb_tasks.specs.declared.session.Session.{Session}
pub use Rattle.fb_model.specs.History.{calls_of}
pub use Rattle.fb_tasks.specs.Standing.{entry_of, IsBlockOf}
use Rattle.fb_tasks.specs.Standing.{HoldsBlocks, Told, choosable_by}
use Rattle.fb_tasks.specs.Taken.{test_rows_found}

-- one session for each task, in order of opening, and each registered block in its state, in order of registration
pub record Tells (disk : Shape) (past : Past) (sessions : List Session) (held : List Entry) : Type 0 where
  pub as_many : length sessions ≡ length (tasks past)
  pub each : (task : ℕ) (session : Session) → slice_get sessions task ≡ Some session → Told (view past task) session
  pub blocks : HoldsBlocks disk past held
  pub open blocks use *

-- how many blocks the choices of the segments not yet chosen can register
abbrev pub choosable : Shape → Past → ℕ
choosable disk past = sum_by (choosable_by disk past) (task_numbers past)

-- a call that keeps the rules after those before it, and registers no more blocks than there may be
pub record MayTake (disk : Shape) (past : Past) (sessions : List Session) (entries : List Entry) (call : Call) : Type 0 where
  pub tells : Tells disk past sessions entries
  pub asks : MayAsk disk (calls_of past) call.task call.action
  pub few : length (registered past) + length (blocks_by disk past call.task call.action) ≤ 16 * 10 ^ 6
  pub few_calls : length (calls_of past) < 2 ^ 32 - 1

-- the choices don't register more blocks than there may be
pub record MaySettle (disk : Shape) (past : Past) (sessions : List Session) (entries : List Entry) : Type 0 where
  pub tells : Tells disk past sessions entries
  pub few : length (registered past) + choosable disk past ≤ 16 * 10 ^ 6

-- all was tested after the last event that could complete something: one more test would give no row
pub record IsUpToDate (past : Past) : Type 0 where
  pub tested : (task : ℕ) → was_complete past task ≡ is_complete past task
  pub no_rows : (now : ℕ) → test_rows_found past now ≡ []

-- after a test of all tasks at an instant
abbrev pub tested_at : Past → ℕ → Past
tested_at past now = tested (test_rows_found past now) ∷ past

-- a delivery of a wanted block, with the contents of its sectors, after a test
pub record MayDeliver (disk : Shape) (past : Past) (sessions : List Session) (entries : List Entry) (got : DeliveryRow) : Type 0 where
  pub tells : Tells disk past sessions entries
  pub up_to_date : IsUpToDate past
  pub index : ℕ
  pub wanted : slice_get (wanted past) index ≡ Some got.block
  pub content_at : ℕ → Content
  pub content : Gives got.content content_at got.block.lbn got.block.count

-- this is the session of the delivered block's task, and the block is marked as delivered
pub record Delivers (disk : Shape) (past : Past) (sessions : List Session) (held : List Entry) (got : DeliveryRow) (session : Session)
    (now : List Entry) : Type 0 where
  pub may : MayDeliver disk past sessions held got
  pub at : slice_get sessions got.block.task ≡ Some session
  pub is : now ≡ after got.block.task (Deliver got.block.index) held

-- a call of the task with this number, for this action
pub record IsCall (number : ℕ) (does : Action) (call : Call) : Type 0 where
  pub task : call.task ≡ number
  pub action : call.action ≡ does
