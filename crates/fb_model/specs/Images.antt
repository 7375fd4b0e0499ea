-- The rows that a delivery or a test of completion gives: findings, seals with their images, segments with their bytes, completions.
use Rattle.std.specs.Prelude.{ℕ, List, [], ◌∷◌, ◌++◌, Bool, true, false, ◌&&◌, not, filter, map, if◌then◌else◌}
use Rattle.std.specs.List.{flat_map, range_with_len}
use Rattle.fb_script.specs.declared.call.Kind.{Kind}
use Rattle.fb_script.specs.declared.call.Kind.TheVariants.{Scrub}
use Rattle.fb_store.specs.declared.content.Content.{Content}
use Rattle.fb_store.specs.declared.content.Content.TheVariants.{Unreadable}
use Rattle.fb_store.specs.declared.content.ContentRun.{ContentRun}
use Rattle.fb_store.specs.Runs.{runs_of, same_content}
use Rattle.fb_wanted.specs.declared.block.Block.{Block}
use Rattle.fb_rows.specs.declared.back.DeliveryRow.{DeliveryRow}
use Rattle.fb_rows.specs.declared.back.BackRow.{BackRow}
use Rattle.fb_rows.specs.declared.back.BackRow.TheVariants.{Bad as BackBad, Seal as BackSeal, Segment as BackSegment}
use Rattle.fb_rows.specs.declared.back.BackRow.TheVariants.{Complete as BackComplete}
use Rattle.fb_model.specs.Content.{Medium, contents_at}
use Rattle.fb_wanted.specs.States.{is_delivered}
use Rattle.fb_model.specs.History.{delivered, Past, terms_of, task_numbers, blocks_of, same_block, is_open_backup}
use Rattle.fb_model.specs.Completion.{Choice, choices, Work, work, is_cleaned, is_complete, was_complete}
use Rattle.fb_model.specs.Segments.{live_count}

-- the sectors that can't be read
abbrev pub bad_sectors : List ContentRun → List ℕ
bad_sectors runs = flat_map (λ run. if same_content run.content Unreadable then range_with_len run.first run.count else []) runs

-- the kind is scrub
abbrev pub is_scrub : Kind → Bool
is_scrub Scrub = true
is_scrub _ = false

-- the findings of a scrub's delivery
abbrev pub findings : Past → DeliveryRow → List BackRow
findings past row = if is_scrub (terms_of past row.block.task).kind
    then map (λ lbn. BackBad (record { task = row.block.task; lbn = lbn })) (bad_sectors row.content)
    else []

-- what the delivered blocks of a task hold at one instant
abbrev pub image : Medium → Past → ℕ → ℕ → List ContentRun
image medium past task now = runs_of (flat_map (λ block. contents_at medium block.lbn block.count now)
    (filter (λ block. is_delivered ((work past task).bare block)) (blocks_of past task)))

-- what a block's sectors held as its last delivery began; nothing if it was never delivered
abbrev pub held_at_delivery : Medium → Past → Block → List (ℕ × Content)
held_at_delivery medium [] block = []
held_at_delivery medium (delivered row ∷ past) block = if same_block row.block block
    then contents_at medium block.lbn block.count row.begin
    else held_at_delivery medium past block
held_at_delivery medium (_ ∷ past) block = held_at_delivery medium past block

-- what the blocks that were registered for a chosen segment held, each as its last delivery began, as the fewest runs
abbrev pub packed : Medium → Past → Choice → List ContentRun
packed medium past choice = runs_of (flat_map (held_at_delivery medium past) choice.blocks)

-- cleaned, and its row hasn't been given
abbrev pub is_newly_cleaned : Work → Choice → Bool
is_newly_cleaned work choice = is_cleaned work choice && not (work.reported choice.segment.number)

-- the row of a segment that was cleaned, with these contents
abbrev pub segment_row : ℕ → ℕ → List ContentRun → Choice → BackRow
segment_row now task content choice = BackSegment
    (record { task = task; segment = choice.segment.number; instant = now; live = live_count choice.segment; content = content })

-- the rows of the segments that are cleaned and have none yet, each with the contents given for it
abbrev pub segment_rows : (Choice → List ContentRun) → Past → ℕ → ℕ → List BackRow
segment_rows content past now task = map (λ choice. segment_row now task (content choice) choice)
    (filter (is_newly_cleaned (work past task)) (choices past task))

-- a backup is sealed, with these contents, at the first test at which it is complete
abbrev pub seal_rows : List ContentRun → Past → ℕ → ℕ → List BackRow
seal_rows content past now task = if is_open_backup past task && is_complete past task
    then BackSeal (record { task = task; instant = now; content = content }) ∷ []
    else []

-- a completion row stands where a task is complete and wasn't at the test before
abbrev pub complete_rows : Past → ℕ → ℕ → List BackRow
complete_rows past now task = if is_complete past task && not (was_complete past task)
    then BackComplete (record { task = task; instant = now }) ∷ []
    else []

-- the rows of a test of completion: all segment rows, and then task by task its seal and its completion
unfoldable pub test_rows : Medium → Past → ℕ → List BackRow
test_rows medium past now = flat_map (segment_rows (packed medium past) past now) (task_numbers past)
    ++ flat_map (λ task. seal_rows (image medium past task now) past now task ++ complete_rows past now task) (task_numbers past)
