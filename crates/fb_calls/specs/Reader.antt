-- What the reader holds of the lines so far, as the values of the definitions.
use Rattle.std.specs.Prelude.{◌≡◌, ℕ, ◌+◌, ◌*◌, ◌^◌, ◌<◌, ◌≤◌, List, length, take, true, Option, Some, None, Result, Ok, Err}
use Rattle.std.specs.List.{AllByRecursion}
use Rattle.fb_units.specs.Judging.{◌>>=◌}
use Rattle.fb_script.specs.declared.call.Action.{Action}
use Rattle.fb_script.specs.declared.call.Action.TheVariants.{Open, Want, Abort, Promote, Suspend, Resume, Close, Segment}
use Rattle.fb_calls.specs.declared.entry.Asked.{Asked}
use Rattle.fb_calls.specs.declared.entry.Asked.TheVariants.{Open as AskedOpen, Want as AskedWant, Abort as AskedAbort}
use Rattle.fb_calls.specs.declared.entry.Asked.TheVariants.{Promote as AskedPromote, Suspend as AskedSuspend, Resume as AskedResume}
use Rattle.fb_calls.specs.declared.entry.Asked.TheVariants.{Close as AskedClose, Segment as AskedSegment}
use Rattle.fb_calls.specs.declared.entry.Entry.{Entry}
use Rattle.fb_calls.specs.declared.fault.CallsReason.{CallsReason}
use Rattle.fb_calls.specs.declared.reader.Reader.{Reader}
use Rattle.fb_calls.specs.declared.opened_task.OpenedTask.{OpenedTask}
use Rattle.fb_calls.specs.Live.{bits, is_live}
use Rattle.fb_calls.specs.Line as line
use Rattle.fb_calls.specs.Judgement.{Progress, with_call}
use Rattle.fb_script.specs.Blocks.{blocks_in}
use Rattle.fb_calls.specs.Sessions.{session_of, task_of}
use Rattle.fb_script.specs.declared.call.Call.{Call}
use Rattle.fb_calls.specs.declared.judgement.Step.{Step}
use Rattle.fb_geometry.specs.Shape.{Shape}

-- the action that is asked for
abbrev pub action : Asked → Action
action (AskedOpen kind weight block) = Open kind weight block
action (AskedWant first count) = Want first count
action (AskedAbort first count) = Abort first count
action (AskedPromote first count) = Promote first count
action AskedSuspend = Suspend
action AskedResume = Resume
action AskedClose = Close
action (AskedSegment segment) = Segment segment.first segment.blocks segment.age (take segment.blocks (bits segment.live.now))

abbrev pub asked : Result Asked CallsReason → Result Action CallsReason
asked known = known >>= (λ asked. Ok (action asked))

-- the values of an entry
abbrev pub said : Entry → line.Entry
said read = record { instant = read.instant; name = read.name.now; asked = asked read.asked }

-- numbers are within the limit, and live blocks are of their form
abbrev pub IsWithin : Asked → Type 0
IsWithin (AskedWant first count) = (first ≤ 10 ^ 15) × (count ≤ 10 ^ 15)
IsWithin (AskedAbort first count) = (first ≤ 10 ^ 15) × (count ≤ 10 ^ 15)
IsWithin (AskedPromote first count) = (first ≤ 10 ^ 15) × (count ≤ 10 ^ 15)
IsWithin (AskedSegment segment) =
    (segment.first ≤ 10 ^ 15) × (segment.blocks ≤ 10 ^ 15) × (segment.age ≤ 10 ^ 15) × (is_live segment.blocks segment.live.now ≡ true)
IsWithin _ = Unit {0}

abbrev pub IsAskedWithin : Result Asked CallsReason → Type 0
IsAskedWithin (Ok asked) = IsWithin asked
IsAskedWithin (Err reason) = Unit {0}

-- the weight, the block size and the counts fit into the 32 bits of a call
abbrev pub IsSmall : Asked → Type 0
IsSmall (AskedOpen kind weight block) = (weight ≤ 1000) × (1 ≤ block) × (block ≤ 2048)
IsSmall (AskedPromote first count) = count ≤ 2048
IsSmall (AskedSegment segment) = segment.blocks ≤ 4096
IsSmall _ = Unit {0}

-- the calls so far
abbrev pub progress : Reader → Progress
progress reader = record {
  instant = reader.instant;
  names = reader.names;
  sessions = reader.sessions.items;
  blocks = reader.blocks;
  reads = reader.reads;
  calls = reader.calls.items;
}

-- the session has a block size in its range
abbrev pub HasBlock : OpenedTask → Type 0
HasBlock session = (1 ≤ session.block) × (session.block ≤ 2048)

-- what holds of a reader: it has one session for each name, no more of them than calls, and its counts are within their limits
pub record IsReader (reader : Reader) : Type 0 where
  pub tasks : length reader.sessions.items ≡ length reader.names
  pub sessions : AllByRecursion HasBlock reader.sessions.items
  pub few_blocks : reader.blocks ≤ 16 * 10 ^ 6
  pub few_tasks : length reader.sessions.items ≤ length reader.calls.items
  pub few_calls : length reader.calls.items < 2 ^ 32

-- the action is on an opened session: it isn't an open
abbrev pub IsOnSession : Asked → Type 0
IsOnSession (AskedOpen kind weight block) = ⊥
IsOnSession _ = Unit {0}

-- the task of an open is the next one, that of any other action is opened
abbrev pub IsTaskFor : List OpenedTask → Asked → ℕ → Type 0
IsTaskFor sessions (AskedOpen kind weight block) task = task ≡ length sessions
IsTaskFor sessions _ task = task < length sessions

-- the name of an open is new
abbrev pub IsNameFor : List (List ℕ) → Asked → List ℕ → Type 0
IsNameFor names (AskedOpen kind weight block) name = task_of names name ≡ None
IsNameFor names _ name = Unit {0}

-- with a promote there are at most a million promotes and requests of the trace together
abbrev pub HasRoom : ℕ → Asked → Type 0
HasRoom reads (AskedPromote first count) = reads + 1 ≤ 10 ^ 6
HasRoom reads _ = Unit {0}

-- an action on a session is cut into this many blocks, and with them there are at most 16,000,000
pub record AreBlocksOf (disk : Shape) (before block : ℕ) (asked : Asked) (blocks : ℕ) : Type 0 where
  pub value : blocks ≡ blocks_in disk block (action asked)
  pub few : before + blocks ≤ 16 * 10 ^ 6

-- the task is allowed the action, which is cut into this many blocks
pub record IsAllowed (disk : Shape) (so_far : Progress) (name : List ℕ) (asked : Asked) (number blocks : ℕ) : Type 0 where
  pub task : IsTaskFor so_far.sessions asked number
  pub free : IsNameFor so_far.names asked name
  pub room : HasRoom so_far.reads asked
  pub cuts : AreBlocksOf disk so_far.blocks (session_of so_far.sessions number).block asked blocks
  pub small : IsSmall asked

-- the call of a step
abbrev pub call : Step → Call
call step = record { line = step.line; instant = step.instant; task = step.task; action = action step.asked }

-- the step is one that is allowed next
pub record IsStep (disk : Shape) (so_far : Progress) (step : Step) : Type 0 where
  pub allowed : IsAllowed disk so_far step.name.now step.asked step.task step.blocks
  pub within : IsWithin step.asked

-- the step of a line, if it has one, is allowed next
abbrev pub MayFollow : Shape → Progress → Option Step → Type 0
MayFollow disk so_far None = Unit {0}
MayFollow disk so_far (Some step) = IsStep disk so_far step

-- the calls so far and that of a line's step, if it has one
abbrev pub with_step : Shape → Progress → Option Step → Progress
with_step disk so_far None = so_far
with_step disk so_far (Some step) = with_call disk step.name.now so_far (call step)
