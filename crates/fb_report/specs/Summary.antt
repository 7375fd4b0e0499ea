-- The summary of a run.
use Rattle.std.specs.Prelude.{ℕ, ◌-◌, max, map, List, [], ◌∷◌, length, decimal, codes, Option, Some, None}
use Rattle.std.specs.List.{flat_map, filter_map, sum_by, count_by, fold}
use Rattle.fb_rows.specs.declared.back.GapRow.{GapRow}
use Rattle.fb_rows.specs.declared.back.DeliveryRow.{DeliveryRow}
use Rattle.fb_rows.specs.declared.back.TaskRow.{TaskRow}
use Rattle.fb_rows.specs.declared.back.BackRow.{BackRow}
use Rattle.fb_rows.specs.declared.back.BackRow.TheVariants.{Gap, Got, Task}
use Rattle.fb_rows.specs.declared.run.Run.{Run}
use Rattle.fb_report.specs.Lines.{line_of}

-- the gap of a row, if it is one
abbrev pub gap_in : BackRow → Option GapRow
gap_in (Gap row) = Some row
gap_in _ = None

-- the delivery of a row, if it is one
abbrev pub delivery_in : BackRow → Option DeliveryRow
delivery_in (Got row) = Some row
delivery_in _ = None

-- the task of a row, if it is one
abbrev pub task_in : BackRow → Option TaskRow
task_in (Task row) = Some row
task_in _ = None

-- the greatest finish, 0 without requests
abbrev pub last_finish : Run → ℕ
last_finish run = fold max 0 (map (λ row. row.finish) run.fore)

-- what is told of a run, each by its name: sums over the foreground's rows, over gaps, over deliveries and over tasks
unfoldable pub summary_lines : Run → List (List ℕ)
summary_lines run =
    let deliveries = filter_map delivery_in run.back in
    let tasks = filter_map task_in run.back in
    line_of (codes "requests") (decimal (length run.fore) ∷ [])
    ∷ line_of (codes "passed") (decimal run.passed_over ∷ [])
    ∷ line_of (codes "sectors") (decimal (sum_by (λ row. row.request.count) run.fore) ∷ [])
    ∷ line_of (codes "finish") (decimal (last_finish run) ∷ [])
    ∷ line_of (codes "response") (decimal (sum_by (λ row. row.finish - row.request.arrival) run.fore) ∷ [])
    ∷ line_of (codes "gaps") (decimal (length (filter_map gap_in run.back)) ∷ [])
    ∷ line_of (codes "delivered") (decimal (length deliveries) ∷ decimal (sum_by (λ row. row.block.count) deliveries) ∷ [])
    ∷ line_of (codes "bad") (decimal (sum_by (λ row. row.bad) deliveries) ∷ [])
    ∷ line_of (codes "complete") (decimal (count_by (λ row. row.complete) tasks) ∷ decimal (length tasks) ∷ [])
    ∷ line_of (codes "end") (decimal run.end ∷ [])
    ∷ []

abbrev pub summary_text : Run → List ℕ
summary_text run = flat_map (λ line. line) (summary_lines run)
