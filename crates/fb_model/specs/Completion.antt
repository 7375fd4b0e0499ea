-- How a task stands, when it is complete, and what each kind of event makes of it.
use Rattle.std.specs.Prelude.{ℕ, ◌+◌, List, [], ◌∷◌, ◌++◌, length, Bool, true, false, ◌&&◌, ◌||◌, not, ◌==◌, nat_lt, Option, Some, None}
use Rattle.std.specs.Prelude.{find, if◌then◌else◌}
use Rattle.std.specs.List.{list_any, list_all}
use Rattle.fb_units.specs.declared.types.Request.{Request}
use Rattle.fb_script.specs.declared.call.Kind.{Kind}
use Rattle.fb_script.specs.declared.call.Kind.TheVariants.{Clean}
use Rattle.fb_script.specs.declared.call.Action.{Action}
use Rattle.fb_script.specs.declared.call.Action.TheVariants.{Close, Segment}
use Rattle.fb_script.specs.Allowed.{has_want}
use Rattle.fb_script.specs.Sessions.{is_backup}
use Rattle.fb_store.specs.declared.content.ContentRun.{ContentRun}
use Rattle.fb_wanted.specs.declared.block.Block.{Block}
use Rattle.fb_wanted.specs.declared.block.State.{State}
use Rattle.fb_wanted.specs.declared.block.State.TheVariants.{Wanted, Suspended, Delivered, Aborted}
use Rattle.fb_wanted.specs.States.{shares, is_delivered, is_wanted}
use Rattle.fb_rows.specs.declared.back.BackRow.{BackRow}
use Rattle.fb_rows.specs.declared.back.DeliveryRow.{DeliveryRow}
use Rattle.fb_rows.specs.declared.back.BackRow.TheVariants.{Segment as BackSegment}
use Rattle.fb_model.specs.History.{called, chose, tested, Past, LogSegment, Terms, terms_of, blocks_of, calls_of, same_block, is_seal_of}
use Rattle.fb_model.specs.History.{bare_state, content_of, is_aborted, is_suspended, is_sealed}

-- a segment call adds a segment; they are numbered from 1
abbrev pub segment_by : Action → List LogSegment → List LogSegment
segment_by (Segment first blocks age live) before =
    before ++ record { number = length before + 1; first = first; blocks = blocks; age = age; live = live } ∷ []
segment_by _ before = before

-- the segments of a task in line order
abbrev pub segments : Past → ℕ → List LogSegment
segments [] task = []
segments (called call blocks ∷ past) task = if call.task == task then segment_by call.action (segments past task) else segments past task
segments (_ ∷ past) task = segments past task

-- a chosen segment and the blocks that were registered for it
pub record Choice : Type 0 where
  pub segment : LogSegment
  pub blocks : List Block

-- the segments that a task has chosen, in order
abbrev pub choices : Past → ℕ → List Choice
choices [] task = []
choices (chose chooser segment blocks ∷ past) task =
    if chooser == task then choices past task ++ record { segment = segment; blocks = blocks } ∷ [] else choices past task
choices (_ ∷ past) task = choices past task

-- the action is a close
abbrev pub is_close : Action → Bool
is_close Close = true
is_close _ = false

-- a close of the task has taken effect
abbrev pub is_closed : Past → ℕ → Bool
is_closed [] task = false
is_closed (called call blocks ∷ past) task = ((call.task == task) && is_close call.action) || is_closed past task
is_closed (_ ∷ past) task = is_closed past task

-- the row tells of the task's segment of this number
abbrev pub is_segment_of : ℕ → ℕ → BackRow → Bool
is_segment_of task number (BackSegment row) = (row.task == task) && (row.segment == number)
is_segment_of task number _ = false

-- the segment's row has been given
abbrev pub is_reported : Past → ℕ → ℕ → Bool
is_reported [] task number = false
is_reported (tested rows ∷ past) task number = list_any (is_segment_of task number) rows || is_reported past task number
is_reported (_ ∷ past) task number = is_reported past task number

-- a task's block of the same number: a task answers only for its own blocks
abbrev pub own_of : ℕ → Block → Block
own_of task block = record block { task = task }

-- what a task has to do, and how far it has come
pub record Work : Type 0 where
  -- what it was opened with, and whether it was closed
  pub terms : Terms
  pub closed : Bool
  -- its segments in line order, those it has chosen in order of choice, and which numbers have their rows
  pub segments : List LogSegment
  pub choices : List Choice
  pub reported : ℕ → Bool
  -- its blocks in order of registration, their states but for suspension, and what their last deliveries found
  pub blocks : List Block
  pub bare : Block → State
  pub found : Block → List ContentRun

-- the work of a task after a history
abbrev pub work : Past → ℕ → Work
work past task = record {
  terms = terms_of past task;
  closed = is_closed past task;
  segments = segments past task;
  choices = choices past task;
  reported = λ number. is_reported past task number;
  blocks = blocks_of past task;
  bare = λ block. bare_state past (own_of task block);
  found = λ block. content_of past (own_of task block);
}

-- each block of the chosen segment is delivered
abbrev pub is_cleaned : Work → Choice → Bool
is_cleaned work choice = list_all (λ block. is_delivered (work.bare block)) choice.blocks

-- the choice is that of the segment
abbrev pub is_choice_of : LogSegment → Choice → Bool
is_choice_of segment choice = choice.segment.number == segment.number

-- the segment is done with: it is cleaned, or a close dropped it or aborted one of its blocks
abbrev pub is_through : Work → Option Choice → Bool
is_through work None = work.closed
is_through work (Some choice) = is_cleaned work choice
    || (work.closed && list_any (λ block. is_aborted (work.bare block)) choice.blocks)

-- delivered or aborted
abbrev pub is_over : State → Bool
is_over state = is_delivered state || is_aborted state

-- a clean task is complete once it has a segment and is done with each; any other once it has a block, and each is delivered or aborted
abbrev pub is_complete_as : Work → Kind → Bool
is_complete_as work Clean = nat_lt 0 (length work.segments)
    && list_all (λ segment. is_through work (find (is_choice_of segment) work.choices)) work.segments
is_complete_as work _ = nat_lt 0 (length work.blocks)
    && list_all (λ block. is_over (work.bare block)) work.blocks

-- the task's work is done
abbrev pub is_done : Work → Bool
is_done work = is_complete_as work work.terms.kind

-- the task is complete after a history
unfoldable pub is_complete : Past → ℕ → Bool
is_complete past task = is_done (work past task)

-- complete at the last test
abbrev pub was_complete : Past → ℕ → Bool
was_complete [] task = false
was_complete (tested rows ∷ past) task = is_complete past task
was_complete (_ ∷ past) task = was_complete past task

-- what a history says of a task: its work, and how far its calls, its seal and its last test have come
pub record TaskView : Type 0 where
  pub work : Work
  pub open work use *
  -- its last suspend or resume was a suspend
  pub suspended : Bool
  -- one of its calls wanted a range
  pub wants : Bool
  -- its seal row has been given
  pub sealed : Bool
  -- it was complete at the last test
  pub was_complete : Bool

-- the task after a history
unfoldable pub view : Past → ℕ → TaskView
view past task = record {
  work = work past task;
  suspended = is_suspended past task;
  wants = has_want (calls_of past) task;
  sealed = is_sealed past task;
  was_complete = was_complete past task;
}

-- a backup that has not been sealed
abbrev pub is_unsealed : TaskView → Bool
is_unsealed view = is_backup view.terms.kind && not view.sealed

-- the state of one of its blocks
abbrev pub state_in : TaskView → Block → State
state_in view block = if is_wanted (view.bare block) && view.suspended then Suspended else view.bare block

-- the states of its blocks change
abbrev pub with_states : (Block → State → State) → TaskView → TaskView
with_states change view = record view { work = record view.work { bare = λ block. change block (view.bare block) } }

-- a block that is hit is aborted, if it isn't delivered
abbrev pub ended : Bool → State → State
ended hit before = if hit && not (is_delivered before) then Aborted else before

-- an abort of a range
abbrev pub aborted_view : ℕ → ℕ → TaskView → TaskView
aborted_view first count view = with_states (λ block. ended (shares first count block)) view

-- a close
abbrev pub closed_view : TaskView → TaskView
closed_view view = record view { work = record view.work { closed = true; bare = λ block. ended true (view.bare block) } }

-- a block that is hit is wanted again, if it is delivered
abbrev pub rewanted : Bool → State → State
rewanted hit before = if hit && is_delivered before then Wanted else before

-- a write has finished, for a backup that isn't sealed
abbrev pub written_view : Request → TaskView → TaskView
written_view request view = with_states (λ block. rewanted (shares request.lbn request.count block)) view

-- a segment call
abbrev pub added_view : LogSegment → TaskView → TaskView
added_view segment view = record view { work = record view.work { segments = view.segments ++ segment ∷ [] } }

-- blocks are registered
abbrev pub registering : ℕ → List Block → Work → Work
registering task blocks work = record work {
  blocks = work.blocks ++ blocks;
  bare = λ block. if list_any (same_block (own_of task block)) blocks then Wanted else work.bare block;
}

-- a want call
abbrev pub wanted_view : ℕ → List Block → TaskView → TaskView
wanted_view task blocks view = record view { wants = true; work = registering task blocks view.work }

-- a choice of a segment
abbrev pub chosen_view : ℕ → Choice → TaskView → TaskView
chosen_view task choice view =
    record view { work = registering task choice.blocks (record view.work { choices = view.choices ++ choice ∷ [] }) }

-- a delivery of one of its blocks
abbrev pub delivered_view : DeliveryRow → TaskView → TaskView
delivered_view row view = record view {
  work = record view.work {
    bare = λ block. if row.block.index == block.index then Delivered else view.bare block;
    found = λ block. if row.block.index == block.index then row.content else view.found block;
  };
}

-- a test of completion that gives these rows
abbrev pub tested_view : ℕ → List BackRow → TaskView → TaskView
tested_view task rows view = record view {
  work = record view.work { reported = λ number. list_any (is_segment_of task number) rows || view.reported number };
  sealed = list_any (is_seal_of task) rows || view.sealed;
  was_complete = is_done view.work;
}
