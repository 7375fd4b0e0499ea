-- The background report.
use Rattle.std.specs.Prelude.{ℕ, ◌-◌, map, List, [], ◌∷◌, ◌++◌, Bool, decimal, codes, if◌then◌else◌, slice_index_or}
use Rattle.std.specs.List.{flat_map, sum_by}
use Rattle.fb_store.specs.declared.content.ContentRun.{ContentRun}
use Rattle.fb_script.specs.declared.call.Kind.{Kind}
use Rattle.fb_script.specs.declared.call.Kind.TheVariants.{Plain, Backup, Scrub, Clean}
use Rattle.fb_rows.specs.declared.gap.Plan.{Plan}
use Rattle.fb_rows.specs.declared.gap.Plan.TheVariants.{Direct, Detour}
use Rattle.fb_rows.specs.declared.gap.Dwell.{Dwell}
use Rattle.fb_rows.specs.declared.gap.How.{How}
use Rattle.fb_rows.specs.declared.gap.How.TheVariants.{Gap as ByGap, Idle as ByIdle, Ride as ByRide}
use Rattle.fb_rows.specs.declared.back.GapRow.{GapRow}
use Rattle.fb_rows.specs.declared.back.DeliveryRow.{DeliveryRow}
use Rattle.fb_rows.specs.declared.back.BadRow.{BadRow}
use Rattle.fb_rows.specs.declared.back.CompleteRow.{CompleteRow}
use Rattle.fb_rows.specs.declared.back.SealRow.{SealRow}
use Rattle.fb_rows.specs.declared.back.SegmentRow.{SegmentRow}
use Rattle.fb_rows.specs.declared.back.TaskRow.{TaskRow}
use Rattle.fb_rows.specs.declared.back.BackRow.{BackRow}
use Rattle.fb_rows.specs.declared.back.BackRow.TheVariants.{Gap, Idle, Got, Bad, Seal, Segment, Complete, Task}
use Rattle.fb_rows.specs.declared.run.Run.{Run}
use Rattle.fb_report.specs.declared.bytes.Bytes.{Bytes}
use Rattle.fb_report.specs.Lines.{first_line, line_of, name_text, track_text}
use Rattle.fb_report.specs.Shown.{digested, shown}

-- what a task is called
abbrev pub task_text : List (List ℕ) → ℕ → List ℕ
task_text names task = slice_index_or names task []

abbrev pub task_kind_text : Kind → List ℕ
task_kind_text Plain = codes "plain"
task_kind_text Backup = codes "backup"
task_kind_text Scrub = codes "scrub"
task_kind_text Clean = codes "clean"

-- the way through a gap: straight to the target, or by another track
abbrev pub plan_fields : Plan → List (List ℕ)
plan_fields (Direct leave) = codes "direct" ∷ decimal leave ∷ []
plan_fields (Detour track leave) = codes "detour" ∷ track_text track ∷ decimal leave ∷ []

-- what delivered a block
abbrev pub how_text : How → List ℕ
how_text ByGap = codes "gap"
how_text ByIdle = codes "idle"
how_text ByRide = codes "ride"

-- the digest of bytes, wherever bytes are shown
abbrev pub digest_text : Bytes → ℕ → List ContentRun → List ℕ
digest_text bytes size runs = shown (digested bytes) size runs

-- request, source, target, now, deadline and plan
abbrev pub gap_fields : GapRow → List (List ℕ)
gap_fields row = name_text row.name ∷ track_text row.gap.source ∷ track_text row.gap.target
    ∷ decimal row.gap.now ∷ decimal row.gap.deadline ∷ plan_fields row.plan

-- the line of a gap
abbrev pub gap_line : GapRow → List ℕ
gap_line row = line_of (codes "gap") (gap_fields row)

-- track, begin and end
abbrev pub idle_line : Dwell → List ℕ
idle_line dwell = line_of (codes "idle") (track_text dwell.track ∷ decimal dwell.begin ∷ decimal dwell.end ∷ [])

-- task, number in it, first LBN, count, begin, end, how, bad sectors and the bytes found
abbrev pub got_fields : List (List ℕ) → DeliveryRow → List ℕ → List (List ℕ)
got_fields names row found = task_text names row.block.task ∷ decimal row.block.index ∷ decimal row.block.lbn ∷ decimal row.block.count
    ∷ decimal row.begin ∷ decimal row.end ∷ how_text row.how ∷ decimal row.bad ∷ found ∷ []

-- the line of a delivery
abbrev pub got_line : List (List ℕ) → ℕ → Bytes → DeliveryRow → List ℕ
got_line names size bytes row = line_of (codes "got") (got_fields names row (shown bytes size row.content))

-- task, instant, sectors of the image and digest
abbrev pub seal_line : List (List ℕ) → ℕ → Bytes → SealRow → List ℕ
seal_line names size bytes row = line_of (codes "seal") (task_text names row.task ∷ decimal row.instant
    ∷ decimal (sum_by (λ run. run.count) row.content) ∷ digest_text bytes size row.content ∷ [])

-- task, segment, instant, live blocks and digest
abbrev pub segment_fields : List (List ℕ) → SegmentRow → List ℕ → List (List ℕ)
segment_fields names row digest = task_text names row.task ∷ decimal row.segment ∷ decimal row.instant ∷ decimal row.live ∷ digest ∷ []

-- the line of a cleaned segment
abbrev pub segment_line : List (List ℕ) → ℕ → Bytes → SegmentRow → List ℕ
segment_line names size bytes row = line_of (codes "seg") (segment_fields names row (digest_text bytes size row.content))

abbrev pub is_complete_text : Bool → List ℕ
is_complete_text complete = if complete then codes "complete" else codes "open"

-- task, kind, how many blocks are registered, delivered, aborted and left, and whether it is complete
abbrev pub task_fields : List (List ℕ) → TaskRow → List (List ℕ)
task_fields names row =
    task_text names row.task ∷ task_kind_text row.kind ∷ decimal row.registered ∷ decimal row.delivered ∷ decimal row.aborted
    ∷ decimal (row.registered - row.delivered - row.aborted) ∷ is_complete_text row.complete ∷ []

-- the line of a task at the end
abbrev pub task_line : List (List ℕ) → TaskRow → List ℕ
task_line names row = line_of (codes "task") (task_fields names row)

-- task and LBN
abbrev pub bad_line : List (List ℕ) → BadRow → List ℕ
bad_line names row = line_of (codes "bad") (task_text names row.task ∷ decimal row.lbn ∷ [])

-- task and instant
abbrev pub complete_line : List (List ℕ) → CompleteRow → List ℕ
complete_line names row = line_of (codes "done") (task_text names row.task ∷ decimal row.instant ∷ [])

-- the line of a row
abbrev pub back_line : List (List ℕ) → ℕ → Bytes → BackRow → List ℕ
back_line names size bytes (Gap row) = gap_line row
back_line names size bytes (Idle dwell) = idle_line dwell
back_line names size bytes (Got row) = got_line names size bytes row
back_line names size bytes (Bad row) = bad_line names row
back_line names size bytes (Seal row) = seal_line names size bytes row
back_line names size bytes (Segment row) = segment_line names size bytes row
back_line names size bytes (Complete row) = complete_line names row
back_line names size bytes (Task row) = task_line names row

abbrev pub back_first : List ℕ
back_first = first_line (codes "back")

-- the run's end
abbrev pub back_last : ℕ → List ℕ
back_last end = line_of (codes "end") (decimal end ∷ [])

-- the first line, a line for each row in order, and the last
unfoldable pub back_lines : List (List ℕ) → ℕ → Bytes → Run → List (List ℕ)
back_lines names size bytes run = back_first ∷ (map (back_line names size bytes) run.back ++ back_last run.end ∷ [])

abbrev pub back_text : List (List ℕ) → ℕ → Bytes → Run → List ℕ
back_text names size bytes run = flat_map (λ line. line) (back_lines names size bytes run)
