-- Which calls are allowed after the calls before them, and why others are refused.
use Rattle.std.specs.Prelude.{ℕ, ◌+◌, ◌*◌, ◌^◌, List, [], ◌∷◌, ◌++◌, length, Bool, not, ◌&&◌, ◌==◌, nat_le, nat_lt, is_some, Result, Ok}
use Rattle.fb_units.specs.Judging.{◌>>=◌, ◌>>◌, or_refuse, refuse}
use Rattle.fb_geometry.specs.Shape.{Shape}
use Rattle.fb_geometry.specs.Places.{places}
use Rattle.fb_script.specs.declared.call.Action.{Action}
use Rattle.fb_script.specs.declared.call.Action.TheVariants.{Open, Want, Abort, Promote, Segment}
use Rattle.fb_script.specs.declared.call.Call.{Call}
use Rattle.fb_calls.specs.declared.fault.CallsReason.{CallsReason}
use Rattle.fb_calls.specs.declared.fault.CallsReason.TheVariants.{OutOfOrder, TaskTaken, UnknownTask, Closed, WrongKind, WantedTwice}
use Rattle.fb_calls.specs.declared.fault.CallsReason.TheVariants.{Empty, BeyondDisk, TooLarge, WeightOutOfRange, BlockOutOfRange}
use Rattle.fb_calls.specs.declared.fault.CallsReason.TheVariants.{TooManyBlocks, TooMany}
use Rattle.fb_calls.specs.declared.opened_task.OpenedTask.{OpenedTask}
use Rattle.fb_script.specs.Blocks.{blocks_in, reads_in}
use Rattle.fb_calls.specs.Line.{Entry}
use Rattle.fb_script.specs.Sessions.{is_backup, is_clean}
use Rattle.fb_calls.specs.Sessions.{task_of, session_of, names_after, sessions_after}

-- the calls so far: the instant of the last, the tasks' names and sessions in order of opening, the number of blocks that are cut,
-- the number of promotes and requests of the trace together, and the calls
pub record Progress : Type 0 where
  pub instant : ℕ
  pub names : List (List ℕ)
  pub sessions : List OpenedTask
  pub blocks : ℕ
  pub reads : ℕ
  pub calls : List Call

-- `count` sectors from first on go past the end of the disk
abbrev pub is_beyond : Shape → ℕ → ℕ → Bool
is_beyond disk first count = nat_lt (length (places disk)) (first + count)

-- Ok if a range has sectors, and all of them are on the disk
abbrev pub some_on_disk : Shape → ℕ → ℕ → Result (Unit {0}) CallsReason
some_on_disk disk first count = do
  refuse Empty (count == 0)
  refuse BeyondDisk (is_beyond disk first count)

-- with this many more there are more than 16,000,000 blocks
abbrev pub are_too_many : ℕ → ℕ → Bool
are_too_many before more = nat_lt (16 * 10 ^ 6) (before + more)

-- the number of the task that an open opens, which is the next one; or why it may not
unfoldable pub opened : List (List ℕ) → List ℕ → ℕ → ℕ → Result ℕ CallsReason
opened names name weight block = do
  refuse TaskTaken (is_some (task_of names name))
  refuse WeightOutOfRange (not (nat_le 1 weight && nat_le weight 1000))
  refuse BlockOutOfRange (not (nat_le 1 block && nat_le block 2048))
  Ok (length names)

-- Ok if a session that isn't closed is allowed an action, else the first reason why not
unfoldable pub allowed : Shape → Progress → OpenedTask → Action → Result (Unit {0}) CallsReason
allowed disk so_far session (Want first count) = do
  refuse WrongKind (is_clean session.kind)
  refuse WantedTwice (is_backup session.kind && session.wanted)
  some_on_disk disk first count
  refuse TooManyBlocks (are_too_many so_far.blocks (blocks_in disk session.block (Want first count)))
allowed disk so_far session (Abort first count) = do
  refuse WrongKind (is_clean session.kind)
  some_on_disk disk first count
allowed disk so_far session (Promote first count) = do
  some_on_disk disk first count
  refuse TooLarge (nat_lt 2048 count)
  refuse TooMany (nat_lt (10 ^ 6) (so_far.reads + 1))
allowed disk so_far session (Segment first blocks age live) = do
  refuse WrongKind (not (is_clean session.kind))
  refuse BeyondDisk (is_beyond disk first (blocks * session.block))
  refuse TooLarge (nat_lt 4096 blocks)
  refuse TooManyBlocks (are_too_many so_far.blocks (blocks_in disk session.block (Segment first blocks age live)))
allowed disk so_far session _ = Ok tt

-- the number of the opened task with this name, if its session is allowed the action
unfoldable pub allowed_for : Shape → Progress → List ℕ → Action → Result ℕ CallsReason
allowed_for disk so_far name action = do
  task ← or_refuse UnknownTask (task_of so_far.names name)
  refuse Closed (session_of so_far.sessions task).closed
  allowed disk so_far (session_of so_far.sessions task) action
  Ok task

-- the number of the task with this name, if it is allowed the action
unfoldable pub task_for : Shape → Progress → List ℕ → Action → Result ℕ CallsReason
task_for disk so_far name (Open kind weight block) = opened so_far.names name weight block
task_for disk so_far name action = allowed_for disk so_far name action

-- the call of an entry, on the line with this number
unfoldable pub call_of : Shape → Progress → ℕ → Entry → Result Call CallsReason
call_of disk so_far number entry = do
  refuse OutOfOrder (nat_lt entry.instant so_far.instant)
  action ← entry.asked
  task ← task_for disk so_far entry.name action
  Ok (record { line = number; instant = entry.instant; task = task; action = action })

-- the calls so far and one more, of the task with this name, which is cut into this many blocks
abbrev pub with_blocks : ℕ → List ℕ → Progress → Call → Progress
with_blocks blocks name so_far call = record {
  instant = call.instant;
  names = names_after so_far.names name call.action;
  sessions = sessions_after so_far.sessions call.task call.action;
  blocks = so_far.blocks + blocks;
  reads = so_far.reads + reads_in call.action;
  calls = so_far.calls ++ call ∷ [];
}

-- the calls so far and one more, of the task with this name
abbrev pub with_call : Shape → List ℕ → Progress → Call → Progress
with_call disk name so_far call = with_blocks (blocks_in disk (session_of so_far.sessions call.task).block call.action) name so_far call
