-- Short words for the inputs and the rows of a run.
use Rattle.std.specs.Prelude.{ℕ, ◌*◌, ◌%◌, List, Bool, true, false}
use Rattle.fb_units.specs.declared.types.Sweep.{Sweep}
use Rattle.fb_units.specs.declared.types.Track.{Track}
use Rattle.fb_units.specs.declared.types.Request.{Request}
use Rattle.fb_units.specs.declared.types.Name.{Name}
use Rattle.fb_store.specs.declared.content.Content.TheVariants.{Filled, Unreadable}
use Rattle.fb_store.specs.declared.content.ContentRun.{ContentRun}
use Rattle.fb_script.specs.declared.call.Action.{Action}
use Rattle.fb_script.specs.declared.call.Call.{Call}
use Rattle.fb_script.specs.declared.call.Kind.{Kind}
use Rattle.fb_wanted.specs.declared.block.Block.{Block}
use Rattle.fb_rows.specs.declared.fore.ForeRow.{ForeRow}
use Rattle.fb_rows.specs.declared.gap.Gap.{Gap}
use Rattle.fb_rows.specs.declared.gap.Plan.{Plan}
use Rattle.fb_rows.specs.declared.gap.How.{How}
use Rattle.fb_rows.specs.declared.back.DeliveryRow.{DeliveryRow}
use Rattle.fb_rows.specs.declared.back.BackRow.{BackRow}
use Rattle.fb_rows.specs.declared.back.BackRow.TheVariants.{Gap as BackGap, Idle as BackIdle, Got as BackGot, Bad as BackBad}
use Rattle.fb_rows.specs.declared.back.BackRow.TheVariants.{Seal as BackSeal, Segment as BackSegment, Complete as BackComplete}
use Rattle.fb_rows.specs.declared.back.BackRow.TheVariants.{Task as BackTask}
use Rattle.fb_rows.specs.declared.run.Run.{Run}
use Rattle.fb_model.specs.Inputs.{Inputs}

-- a run, and what it is made from
pub record Worked : Type 0 where
  pub inputs : Inputs
  pub run : Run

-- cylinder and head
abbrev pub at : ℕ → ℕ → Track
at cylinder head = record { cylinder = cylinder; head = head }

-- requests: name, arrival, first sector, number of sectors
abbrev pub reading : Name → ℕ → ℕ → ℕ → Request
reading name arrival lbn count = record { name = name; arrival = arrival; lbn = lbn; count = count; write = false }

abbrev pub writing : Name → ℕ → ℕ → ℕ → Request
writing name arrival lbn count = record { name = name; arrival = arrival; lbn = lbn; count = count; write = true }

-- contents of sectors: first one and number
abbrev pub untouched : ℕ → ℕ → ContentRun
untouched first count = record { first = first; count = count; content = Filled 0 }

-- what the request of this number has written
abbrev pub written : ℕ → ℕ → ℕ → ContentRun
written writer first count = record { first = first; count = count; content = Filled writer }

abbrev pub unreadable : ℕ → ℕ → ContentRun
unreadable first count = record { first = first; count = count; content = Unreadable }

-- start, media time, finish, unreadable sectors, contents
abbrev pub row : Request → ℕ → ℕ → ℕ → ℕ → List ContentRun → ForeRow
row request start media finish bad content =
    record { request = request; start = start; media = media; finish = finish; bad = bad; content = content }

-- line, instant, task
abbrev pub call : ℕ → ℕ → ℕ → Action → Call
call line instant task action = record { line = line; instant = instant; task = task; action = action }

-- task, number, first sector, number of sectors, track, weight, and how it passes
abbrev pub swept_block : ℕ → ℕ → ℕ → ℕ → Track → ℕ → Sweep → Block
swept_block task number lbn count track weight sweep =
    record { task = task; index = number; lbn = lbn; count = count; track = track; weight = weight; sweep = sweep }

-- the same where each track has twelve sectors, each of which takes 100 ns to pass
abbrev pub block : ℕ → ℕ → ℕ → ℕ → Track → ℕ → Block
block task number lbn count track weight =
    swept_block task number lbn count track weight (record { begin = lbn % 12 * 100; length = count * 100 })

-- begin, end, how, unreadable sectors, contents
abbrev pub got : Block → ℕ → ℕ → How → ℕ → List ContentRun → DeliveryRow
got block begin end how bad content = record { block = block; begin = begin; end = end; how = how; bad = bad; content = content }

abbrev pub got_row : DeliveryRow → BackRow
got_row row = BackGot row

-- source, target, start, deadline, whether the request writes
abbrev pub gap : Track → Track → ℕ → ℕ → Bool → Gap
gap source target now deadline write = record { source = source; target = target; now = now; deadline = deadline; write = write }

-- and the gap's plan
abbrev pub gap_row : Name → Track → Track → ℕ → ℕ → Bool → Plan → BackRow
gap_row name source target now deadline write plan =
    BackGap (record { name = name; gap = gap source target now deadline write; plan = plan })

abbrev pub idle_row : Track → ℕ → ℕ → BackRow
idle_row track begin end = BackIdle (record { track = track; begin = begin; end = end })

-- task and instant
abbrev pub done_row : ℕ → ℕ → BackRow
done_row task instant = BackComplete (record { task = task; instant = instant })

-- task and sector
abbrev pub bad_row : ℕ → ℕ → BackRow
bad_row task lbn = BackBad (record { task = task; lbn = lbn })

abbrev pub seal_row : ℕ → ℕ → List ContentRun → BackRow
seal_row task instant content = BackSeal (record { task = task; instant = instant; content = content })

-- task, segment, instant, live blocks, contents
abbrev pub segment_row : ℕ → ℕ → ℕ → ℕ → List ContentRun → BackRow
segment_row task segment instant live content =
    BackSegment (record { task = task; segment = segment; instant = instant; live = live; content = content })

-- blocks registered, delivered and aborted, and whether the task is complete
abbrev pub task_row : ℕ → Kind → ℕ → ℕ → ℕ → Bool → BackRow
task_row task kind registered delivered aborted complete = BackTask (record {
  task = task;
  kind = kind;
  registered = registered;
  delivered = delivered;
  aborted = aborted;
  complete = complete;
})
