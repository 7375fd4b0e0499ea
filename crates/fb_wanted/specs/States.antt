-- How the states of registered blocks change.
use Rattle.std.specs.Prelude.{ℕ, ◌+◌, List, Bool, true, false, ◌&&◌, ◌==◌, nat_lt, max, min, filter, map, if◌then◌else◌}
use Rattle.fb_units.specs.declared.types.Track.{Track}
use Rattle.fb_units.specs.Tracks.{same_track}
use Rattle.fb_wanted.specs.declared.block.Block.{Block}
use Rattle.fb_wanted.specs.declared.block.Change.{Change}
use Rattle.fb_wanted.specs.declared.block.Change.TheVariants.{Abort, Deliver, Rewant, Suspend, Resume}
use Rattle.fb_wanted.specs.declared.block.Entry.{Entry}
use Rattle.fb_wanted.specs.declared.block.State.{State}
use Rattle.fb_wanted.specs.declared.block.State.TheVariants.{Wanted, Suspended, Delivered, Aborted}

-- the block shares a sector with the range
abbrev pub shares : ℕ → ℕ → Block → Bool
shares first count block = nat_lt (max block.lbn first) (min (block.lbn + block.count) (first + count))

abbrev pub is_wanted : State → Bool
is_wanted Wanted = true
is_wanted Suspended = false
is_wanted Delivered = false
is_wanted Aborted = false

abbrev pub is_suspended : State → Bool
is_suspended Wanted = false
is_suspended Suspended = true
is_suspended Delivered = false
is_suspended Aborted = false

abbrev pub is_delivered : State → Bool
is_delivered Wanted = false
is_delivered Suspended = false
is_delivered Delivered = true
is_delivered Aborted = false

abbrev pub is_aborted : State → Bool
is_aborted Wanted = false
is_aborted Suspended = false
is_aborted Delivered = false
is_aborted Aborted = true

-- the block is neither delivered nor aborted
abbrev pub is_open : State → Bool
is_open Wanted = true
is_open Suspended = true
is_open Delivered = false
is_open Aborted = false

-- the state of a block that is to be read: suspended if its task is, else wanted
abbrev pub wanted_unless : Bool → State
wanted_unless suspended = if suspended then Suspended else Wanted

-- the state of a block of the task after a change
abbrev pub state_after : Change → Block → State → State
state_after (Abort first count) block state = if shares first count block && is_open state then Aborted else state
state_after (Deliver index) block state = if block.index == index then Delivered else state
state_after (Rewant first count suspended) block state =
    if shares first count block && is_delivered state then wanted_unless suspended else state
state_after Suspend block state = if is_wanted state then Suspended else state
state_after Resume block state = if is_suspended state then Wanted else state

-- a registered block after a change of a task's blocks: only blocks of that task change
abbrev pub entry_after : ℕ → Change → Entry → Entry
entry_after task change entry = record {
  block = entry.block;
  state = if entry.block.task == task then state_after change entry.block entry.state else entry.state;
}

-- all registered blocks after a change of a task's blocks
abbrev pub after : ℕ → Change → List Entry → List Entry
after task change entries = map (entry_after task change) entries

-- an abort of the task's blocks in the range changes the block
abbrev pub is_abortable : ℕ → ℕ → ℕ → Entry → Bool
is_abortable task first count entry = (entry.block.task == task) && (shares first count entry.block && is_open entry.state)

-- the blocks of a track in order of registration
abbrev pub on_track : Track → List Entry → List Entry
on_track track entries = filter (λ entry. same_track track entry.block.track) entries

-- the blocks that are wanted, in order of registration
abbrev pub wanted_of : List Entry → List Block
wanted_of entries = map (λ entry. entry.block) (filter (λ entry. is_wanted entry.state) entries)

-- the block is the task's with this index
abbrev pub is_block : ℕ → ℕ → Entry → Bool
is_block task index entry = (entry.block.task == task) && (entry.block.index == index)
