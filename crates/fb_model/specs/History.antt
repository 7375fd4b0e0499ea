-- What has happened in a run, and what it says of tasks and blocks. The latest event comes first.
use Rattle.std.specs.Prelude.{ℕ, List, [], ◌∷◌, ◌++◌, length, Bool, true, false, ◌&&◌, ◌||◌, not, ◌==◌, filter, if◌then◌else◌}
use Rattle.std.specs.List.{list_any, range_with_len, slice_index_or}
use Rattle.fb_units.specs.declared.types.Request.{Request}
use Rattle.fb_script.specs.declared.call.Kind.TheVariants.{Plain}
use Rattle.fb_script.specs.Sessions.{is_backup}
pub use Rattle.fb_script.specs.Allowed.{Terms}
use Rattle.fb_script.specs.declared.call.Action.{Action}
use Rattle.fb_script.specs.declared.call.Action.TheVariants.{Open, Abort, Suspend, Resume, Close}
use Rattle.fb_script.specs.declared.call.Call.{Call}
use Rattle.fb_store.specs.declared.content.ContentRun.{ContentRun}
use Rattle.fb_wanted.specs.declared.block.Block.{Block}
use Rattle.fb_wanted.specs.declared.block.State.{State}
use Rattle.fb_wanted.specs.declared.block.State.TheVariants.{Wanted, Suspended, Delivered, Aborted}
use Rattle.fb_wanted.specs.States.{shares, is_wanted, is_delivered}
pub use Rattle.fb_wanted.specs.States.{is_aborted}
use Rattle.fb_rows.specs.declared.back.DeliveryRow.{DeliveryRow}
use Rattle.fb_rows.specs.declared.back.BackRow.{BackRow}
use Rattle.fb_rows.specs.declared.back.BackRow.TheVariants.{Seal as BackSeal}

-- a segment of a log, numbered from 1 in its task
pub record LogSegment : Type 0 where
  pub number : ℕ
  pub first : ℕ
  pub blocks : ℕ
  pub age : ℕ
  pub live : List Bool

-- what can happen: a call takes effect, a task chooses a segment (each with the blocks that it registers), a test of completion gives rows,
-- a block is delivered, a served request finishes
pub data Event : Type 0 where
  called : Call → List Block → Event
  chose : ℕ → LogSegment → List Block → Event
  tested : List BackRow → Event
  delivered : DeliveryRow → Event
  finished : Request → Event

-- what has happened, the latest event first
abbrev pub Past : Type 0
Past = List Event

-- the calls that have taken effect, in order
abbrev pub calls_of : Past → List Call
calls_of [] = []
calls_of (called call blocks ∷ past) = calls_of past ++ call ∷ []
calls_of (_ ∷ past) = calls_of past

-- an open adds a task
abbrev pub opened_by : Action → List Terms → List Terms
opened_by (Open kind weight block) before = before ++ record { kind = kind; weight = weight; block = block } ∷ []
opened_by _ before = before

-- the tasks in order of opening
abbrev pub tasks : Past → List Terms
tasks [] = []
tasks (called call blocks ∷ past) = opened_by call.action (tasks past)
tasks (_ ∷ past) = tasks past

-- their numbers
abbrev pub task_numbers : Past → List ℕ
task_numbers past = range_with_len 0 (length (tasks past))

-- what a task was opened with; only opened tasks are asked, so the last argument is never used
abbrev pub terms_of : Past → ℕ → Terms
terms_of past task = slice_index_or (tasks past) task (record { kind = Plain; weight = 1; block = 1 })

-- the blocks that an event registers
abbrev pub registered_by : Event → List Block
registered_by (called call blocks) = blocks
registered_by (chose task segment blocks) = blocks
registered_by _ = []

-- the blocks of all tasks in order of registration
abbrev pub registered : Past → List Block
registered [] = []
registered (called call blocks ∷ past) = registered past ++ blocks
registered (chose task segment blocks ∷ past) = registered past ++ blocks
registered (_ ∷ past) = registered past

-- those of one task
abbrev pub blocks_of : Past → ℕ → List Block
blocks_of past task = filter (λ block. block.task == task) (registered past)

-- two blocks are one: the same task and the same number in it
abbrev pub same_block : Block → Block → Bool
same_block a b = (a.task == b.task) && (a.index == b.index)

-- the event registers the block
abbrev pub registers : Event → Block → Bool
registers event block = list_any (same_block block) (registered_by event)

-- the event delivers the block
abbrev pub delivers : Event → Block → Bool
delivers (delivered row) block = same_block row.block block
delivers _ block = false

-- the action takes the block from its task: an abort of a range that it shares a sector with, or a close
abbrev pub ends_block : Action → Block → Bool
ends_block (Abort first count) block = shares first count block
ends_block Close block = true
ends_block _ block = false

-- the event is a call of the block's task that takes the block from it
abbrev pub aborts : Event → Block → Bool
aborts (called call blocks) block = (call.task == block.task) && ends_block call.action block
aborts _ block = false

-- the event is the finish of a write to a sector of the block
abbrev pub overwrites : Event → Block → Bool
overwrites (finished request) block = request.write && shares request.lbn request.count block
overwrites _ block = false

-- the row is the task's seal
abbrev pub is_seal_of : ℕ → BackRow → Bool
is_seal_of task (BackSeal row) = row.task == task
is_seal_of task _ = false

-- the seal row of a backup has been given
abbrev pub is_sealed : Past → ℕ → Bool
is_sealed [] task = false
is_sealed (tested rows ∷ past) task = list_any (is_seal_of task) rows || is_sealed past task
is_sealed (_ ∷ past) task = is_sealed past task

-- the task is a backup without its seal
abbrev pub is_open_backup : Past → ℕ → Bool
is_open_backup past task = is_backup (terms_of past task).kind && not (is_sealed past task)

-- the state of a block after an event, from its state before
abbrev pub state_after_event : Past → Event → Block → State → State
state_after_event past event block before =
    if registers event block then Wanted
    else if delivers event block then Delivered
    else if aborts event block && not (is_delivered before) then Aborted
    else if overwrites event block && is_delivered before && is_open_backup past block.task then Wanted
    else before

-- what events make of the state that a block had before them
abbrev pub state_from : State → Past → Block → State
state_from before [] block = before
state_from before (event ∷ past) block = state_after_event past event block (state_from before past block)

-- the state of a registered block, leaving suspension aside; what stands for the state before the first event doesn't matter
-- (StatesBeginWithRegistration)
unfoldable pub bare_state : Past → Block → State
bare_state past block = state_from Wanted past block

-- what the last delivery of a block found; nothing before the first
unfoldable pub content_of : Past → Block → List ContentRun
content_of [] block = []
content_of (delivered row ∷ past) block = if same_block row.block block then row.content else content_of past block
content_of (_ ∷ past) block = content_of past block

-- what a call of the task makes of its suspension
abbrev pub suspended_after : Action → Bool → Bool
suspended_after Suspend before = true
suspended_after Resume before = false
suspended_after _ before = before

-- the task's last suspend or resume was a suspend
abbrev pub is_suspended : Past → ℕ → Bool
is_suspended [] task = false
is_suspended (called call blocks ∷ past) task =
    if call.task == task then suspended_after call.action (is_suspended past task) else is_suspended past task
is_suspended (_ ∷ past) task = is_suspended past task

-- the state of a registered block
abbrev pub state : Past → Block → State
state past block = if is_wanted (bare_state past block) && is_suspended past block.task then Suspended else bare_state past block

-- the wanted blocks, in order of registration
unfoldable pub wanted : Past → List Block
wanted past = filter (λ block. is_wanted (state past block)) (registered past)
