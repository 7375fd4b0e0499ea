-- How a session and its blocks stand after a history. Contracts of inner functions cite it.
use Rattle.std.specs.Prelude.{◌≡◌, ◌≤◌, ◌<◌, ◌+◌, ◌-◌, ◌*◌, ◌^◌, ℕ, List, [], ◌∷◌, ◌++◌, length, map, true, false, ◌&&◌, not, ◌==◌, Option}
use Rattle.std.specs.Prelude.{None, Some, option_map, slice_get}
use Rattle.std.specs.List.{AllByRecursion, flat_map, range_with_len, list_any, sum_by}
use Rattle.fb_geometry.specs.Shape.{Shape}
use Rattle.fb_geometry.specs.Places.{places}
use Rattle.fb_script.specs.Blocks.{live_cuts}
use Rattle.fb_script.specs.Sessions.{is_backup, is_clean}
use Rattle.fb_store.specs.declared.content.Content.{Content}
use Rattle.fb_store.specs.Ranges.{held_at}
use Rattle.fb_store.specs.Sparse.{held_in}
use Rattle.fb_store.specs.Runs.{sectors_of}
use Rattle.fb_store.specs.Writes.{is_within}
use Rattle.fb_wanted.specs.declared.block.Block.{Block}
use Rattle.fb_wanted.specs.declared.block.Entry.{Entry}
use Rattle.fb_wanted.specs.States.{is_delivered}
use Rattle.fb_clean.specs.Segments as clean
use Rattle.fb_rows.specs.declared.back.BackRow.{BackRow}
use Rattle.fb_model.specs.Blocks.{IsBlockOn}
use Rattle.fb_model.specs.History.{Past, LogSegment, tasks, registered, tested, is_seal_of}
use Rattle.fb_model.specs.Completion.{Choice, Work, work, TaskView, view, state_in, is_cleaned, is_over, is_done, is_segment_of}
use Rattle.fb_model.specs.Completion.{is_unsealed}
use Rattle.fb_model.specs.Segments.{is_chosen, is_busy, unchosen}
use Rattle.fb_model.specs.Images.{is_newly_cleaned}
use Rattle.fb_tasks.specs.declared.session.Session.{Session}
use Rattle.fb_tasks.specs.Keeping.{is_none}
use Rattle.fb_tasks.specs.Nearby.{BeginsIn}
use Rattle.fb_tasks.specs.Taken.{segment_rows_found, ends_of}

-- a registered block with its state
abbrev pub entry_in : TaskView → Block → Entry
entry_in view block = record { block = block; state = state_in view block }

-- a registered block with the state that its own task's view gives it
abbrev pub entry_by : (ℕ → TaskView) → Block → Entry
entry_by views block = entry_in (views block.task) block

-- a registered block with its state after a history
abbrev pub entry_of : Past → Block → Entry
entry_of past block = entry_by (view past) block

-- a block on the disk that one of so many tasks has registered; it ends by 10^12, as all sectors of a disk do
pub record IsBlockOf (disk : Shape) (tasks : ℕ) (block : Block) : Type 0 where
  pub task : block.task < tasks
  pub within : block.lbn + block.count ≤ 10 ^ 12
  pub on : IsBlockOn disk block
  pub open on use *

-- blocks are numbered on from n
abbrev pub AreNumbered : ℕ → List Block → Type 0
AreNumbered n [] = Unit {0}
AreNumbered n (block ∷ blocks) = (block.index ≡ n) × AreNumbered (n + 1) blocks

-- blocks ascend from a sector on, and none shares a sector with another
abbrev pub Ascend : ℕ → List Block → Type 0
Ascend from [] = Unit {0}
Ascend from (block ∷ blocks) = (from ≤ block.lbn) × Ascend (block.lbn + block.count) blocks

-- the sectors of a delivered block hold what its last delivery found
abbrev pub HoldsBlock : Work → (ℕ → Option Content) → Block → Type 0
HoldsBlock work held block = is_delivered (work.bare block) ≡ true
    → held_in held (range_with_len block.lbn block.count) ≡ sectors_of (work.found block)

-- and nothing is held of sectors outside the blocks
pub record HoldsImage (work : Work) (held : ℕ → Option Content) : Type 0 where
  pub each : AllByRecursion (HoldsBlock work held) work.blocks
  pub only : (lbn : ℕ) → list_any (λ block. is_within block.lbn block.count lbn) work.blocks ≡ false → held lbn ≡ None

-- a segment as the session that cleans the log keeps it
abbrev pub kept_segment : Work → LogSegment → clean.LogSegment
kept_segment work segment = record {
  number = segment.number;
  blocks = segment.blocks;
  age = segment.age;
  live = clean.live_blocks work.terms.block segment.first segment.live;
  waits = not (is_chosen work.choices segment) && not work.closed;
}

-- the choice, if there is one
abbrev pub choice_in : Option Choice → List Choice
choice_in None = []
choice_in (Some choice) = choice ∷ []

-- the blocks of a choice, laid end to end, are those of the segment that are live
abbrev pub IsCutFrom : ℕ → Choice → Type 0
IsCutFrom block choice = flat_map (λ part. range_with_len part.lbn part.count) choice.blocks
    ≡ flat_map (λ lbn. range_with_len lbn block) (clean.live_blocks block choice.segment.first choice.segment.live)

-- what a log has taken for a choice's segment holds what the last deliveries of its blocks found
abbrev pub HoldsChoice : Work → clean.Cleaning → Choice → Type 0
HoldsChoice work log choice = AllByRecursion (HoldsBlock work (clean.taken_for log choice.segment.number)) choice.blocks

-- a choice's segment stands at its number among the task's
abbrev pub IsAtNumber : List LogSegment → Choice → Type 0
IsAtNumber segments choice = slice_get segments (choice.segment.number - 1) ≡ Some choice.segment

-- a log's segments are cleaned one after another: those that were chosen are cleaned (`done`), but for the last one, which may still
-- be under way (`current`)
pub record CleansBy (work : Work) (log : clean.Cleaning) (done : List Choice) (current : Option Choice) : Type 0 where
  pub block : log.block ≡ work.terms.block
  pub chosen : work.choices ≡ done ++ choice_in current
  pub cleaned : AllByRecursion (λ choice. is_cleaned work choice ≡ true) done
  pub unfinished : log.unfinished ≡ option_map (λ choice. choice.segment.number) current
  pub blocks : work.blocks ≡ flat_map (λ choice. choice.blocks) work.choices
  pub cut : AllByRecursion (IsCutFrom log.block) work.choices
  pub taken : AllByRecursion (HoldsChoice work log) (choice_in current)
  pub numbers : AllByRecursion (λ choice. choice.segment.number ≤ length work.segments) work.choices
  pub distinct : AllByRecursion (λ now. AllByRecursion (λ choice. (choice.segment.number == now.segment.number) ≡ false) done)
      (choice_in current)
  pub ascend : AllByRecursion (λ choice. Ascend 0 choice.blocks) (choice_in current)
  pub known : AllByRecursion (IsAtNumber work.segments) (choice_in current)
  pub unreported : AllByRecursion (λ now. work.reported now.segment.number ≡ false) (choice_in current)
  pub reported : (number : ℕ) → work.reported number ≡ true → list_any (λ choice. choice.segment.number == number) work.choices ≡ true
  pub over : work.closed ≡ true → AllByRecursion (λ block. is_over (work.bare block) ≡ true) work.blocks
  pub segments : log.segments ≡ map (kept_segment work) work.segments

-- of the segments that were chosen all but the last are cleaned
pub record Cleans (work : Work) (log : clean.Cleaning) : Type 0 where
  pub done : List Choice
  pub current : Option Choice
  pub by : CleansBy work log done current
  pub open by use *

-- a session is as its task stands
pub record Stands (view : TaskView) (session : Session) : Type 0 where
  pub terms : view.terms ≡ record { kind = session.kind; weight = session.weight; block = session.block }
  pub weight : session.weight ≤ 1000
  pub block : (0 < session.block) × (session.block ≤ 2048)
  pub suspended : session.suspended ≡ view.suspended
  pub closed : session.closed ≡ view.closed
  pub complete : session.complete ≡ view.was_complete
  pub sealed : session.sealed ≡ view.sealed
  pub ascend : is_backup session.kind ≡ true → Ascend 0 view.blocks
  pub unwanted : is_backup session.kind ≡ true → view.wants ≡ false → view.blocks ≡ []
  pub image : is_unsealed view ≡ true → HoldsImage view.work (held_at session.image)
  pub near : is_unsealed view ≡ true → AllByRecursion (BeginsIn session.chunks) view.blocks
  pub log : is_clean session.kind ≡ true → Cleans view.work session.log
  pub unchosen : is_clean session.kind ≡ false → view.choices ≡ []

-- no event has concerned the task
pub record IsUntouched (view : TaskView) : Type 0 where
  pub suspended : view.suspended ≡ false
  pub closed : view.closed ≡ false
  pub complete : view.was_complete ≡ false
  pub sealed : view.sealed ≡ false
  pub segments : view.segments ≡ []
  pub choices : view.choices ≡ []
  pub reported : (number : ℕ) → view.reported number ≡ false

-- the segments of a task lie on the disk
abbrev pub IsSegmentOf : Shape → ℕ → LogSegment → Type 0
IsSegmentOf disk block segment =
    (segment.first + segment.blocks * block ≤ length (places disk)) × (length segment.live ≡ segment.blocks) × (segment.blocks ≤ 4096)

-- the blocks and the segments of a task are in place
pub record IsPlaced (disk : Shape) (work : Work) : Type 0 where
  pub numbered : AreNumbered 0 work.blocks
  pub segments : AllByRecursion (IsSegmentOf disk work.terms.block) work.segments

-- the registered blocks tell the history, whatever the sessions
pub record HoldsBlocks (disk : Shape) (past : Past) (held : List Entry) : Type 0 where
  pub entries : held ≡ map (entry_of past) (registered past)
  pub on_disk : AllByRecursion (IsBlockOf disk (length (tasks past))) (registered past)
  pub placed : (task : ℕ) → IsPlaced disk (view past task).work
  pub unopened : (task : ℕ) → length (tasks past) ≤ task → IsUntouched (view past task)

-- each cleaned segment has its row
abbrev pub AreReported : Work → Type 0
AreReported work = AllByRecursion (λ choice. is_newly_cleaned work choice ≡ false) work.choices

-- a segment is unfinished where a chosen one is not cleaned
abbrev pub IsAtWork : Work → Session → Type 0
IsAtWork work session = is_clean session.kind ≡ true → is_none session.log.unfinished ≡ not (is_busy work)

-- the task has no segment to choose
abbrev pub HasNoChoice : TaskView → Type 0
HasNoChoice view = (is_clean view.terms.kind && not view.closed) ≡ true → is_busy view.work ≡ false → unchosen view.work ≡ []

-- neither a choice nor a test would find anything: the task is as its last test saw it
pub record IsQuiet (view : TaskView) : Type 0 where
  pub tested : view.was_complete ≡ is_done view.work
  pub sealed : (is_unsealed view && is_done view.work) ≡ false
  pub chosen : HasNoChoice view

-- a session is as its task stands, its cleaned segments have their rows, and a choice or a test finds something only where it was touched
pub record Told (view : TaskView) (session : Session) : Type 0 where
  pub stands : Stands view session
  pub open stands use *
  pub at_work : IsAtWork view.work session
  pub reported : AreReported view.work
  pub quiet : session.touched ≡ false → IsQuiet view

-- these rows seal the task, and report its segments, as a test has to
pub record AreTestRowsOf (task : ℕ) (view : TaskView) (rows : List BackRow) : Type 0 where
  pub seals : list_any (is_seal_of task) rows ≡ (is_unsealed view && is_done view.work)
  pub segments : (number : ℕ) → list_any (is_segment_of task number) rows
      ≡ list_any (λ choice. (choice.segment.number == number) && is_newly_cleaned view.work choice) view.choices

-- a session is tested: it is as its task stands after a test that gives these rows and any of other tasks
pub record StandsAfterTest (past : Past) (task now : ℕ) (new : Session) (old more : List BackRow) : Type 0 where
  pub session : (all : List BackRow) → AreTestRowsOf task (view past task) all
      → (Stands (view (tested all ∷ past) task) new) × (IsAtWork (view (tested all ∷ past) task).work new)
  pub rows : more ≡ old ++ ends_of past now task

-- a session may finish its segment: each other one that is cleaned has its row
pub record MayFinish (disk : Shape) (past : Past) (task : ℕ) (session : Session) (held : List Entry) : Type 0 where
  pub blocks : HoldsBlocks disk past held
  pub stands : Stands (view past task) session
  pub reported : AllByRecursion (λ choice. (session.log.unfinished ≡ Some choice.segment.number → ⊥)
      → is_newly_cleaned (view past task).work choice ≡ false) (view past task).choices

-- how many blocks the choices of the segments that a task has not chosen can register
abbrev pub choosable_by : Shape → Past → ℕ → ℕ
choosable_by disk past task =
    sum_by (λ segment. length (live_cuts disk (view past task).terms.block segment.first segment.live)) (unchosen (view past task).work)

-- a session may choose
pub record MayChoose (disk : Shape) (past : Past) (task : ℕ) (session : Session) (held : List Entry) : Type 0 where
  pub blocks : HoldsBlocks disk past held
  pub stands : Stands (view past task) session
  pub at_work : IsAtWork (view past task).work session
  pub few : length (registered past) + choosable_by disk past task ≤ 16 * 10 ^ 6

-- choices were made up to a later history: the session may choose on, and the rows of what they cleaned at once follow
pub record HasChosenUpTo (disk : Shape) (past new : Past) (task now : ℕ) (session : Session) (held : List Entry)
    (old more : List BackRow) : Type 0 where
  pub may : MayChoose disk new task session held
  pub rows : (before : List BackRow) → old ≡ before ++ segment_rows_found past now task → more
      ≡ before ++ segment_rows_found new now task

-- a session has chosen
pub record HasChosen (disk : Shape) (past : Past) (task : ℕ) (session : Session) (held : List Entry) : Type 0 where
  pub blocks : HoldsBlocks disk past held
  pub stands : Stands (view past task) session
  pub at_work : IsAtWork (view past task).work session

-- a session has chosen, and a test finds something only where it was touched
pub record MayBeTested (view : TaskView) (session : Session) : Type 0 where
  pub stands : Stands view session
  pub at_work : IsAtWork view.work session
  pub chosen : HasNoChoice view
  pub quiet : session.touched ≡ false → IsQuiet view

-- after all choices, before their test
pub record HaveChosen (disk : Shape) (past : Past) (sessions : List Session) (held : List Entry) : Type 0 where
  pub as_many : length sessions ≡ length (tasks past)
  pub each : (task : ℕ) (session : Session) → slice_get sessions task ≡ Some session → MayBeTested (view past task) session
  pub blocks : HoldsBlocks disk past held
