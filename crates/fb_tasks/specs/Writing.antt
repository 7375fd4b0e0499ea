-- What a write leaves of the registered blocks. Contracts of inner functions cite it.
use Rattle.std.specs.Prelude.{ℕ, List, Option, None, Some, ◌==◌, ◌&&◌, not, slice_get, if◌then◌else◌}
use Rattle.fb_script.specs.Sessions.{is_backup}
use Rattle.fb_wanted.specs.declared.block.Entry.{Entry}
use Rattle.fb_wanted.specs.declared.block.State.{State}
use Rattle.fb_wanted.specs.States.{shares, is_delivered, wanted_unless}
use Rattle.fb_tasks.specs.declared.session.Session.{Session}

-- a block's state after a write of the range: a delivered block of an open backup that shares a sector with it is wanted again, or
-- suspended if its task is; any other stays as it is
abbrev pub state_left : ℕ → ℕ → Option Session → Entry → State
state_left first count None entry = entry.state
state_left first count (Some session) entry =
    if (is_backup session.kind && not session.sealed) && (shares first count entry.block && is_delivered entry.state)
    then wanted_unless session.suspended else entry.state

-- a registered block after a write of the range
abbrev pub left_by_write : List Session → ℕ → ℕ → Entry → Entry
left_by_write sessions first count entry =
    record { block = entry.block; state = state_left first count (slice_get sessions entry.block.task) entry }

-- the same for the blocks of one task alone
abbrev pub left_in : ℕ → List Session → ℕ → ℕ → Entry → Entry
left_in task sessions first count entry = if entry.block.task == task then left_by_write sessions first count entry else entry
