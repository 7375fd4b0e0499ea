-- What the deliveries of blocks found: seals and segments take their contents from it.
use Rattle.std.specs.Prelude.{ℕ, List, ◌∷◌, ◌++◌, filter}
use Rattle.std.specs.List.{flat_map}
use Rattle.fb_store.specs.declared.content.ContentRun.{ContentRun}
use Rattle.fb_store.specs.Runs.{runs_of, sectors_of}
use Rattle.fb_wanted.specs.declared.block.Block.{Block}
use Rattle.fb_wanted.specs.States.{is_delivered}
use Rattle.fb_rows.specs.declared.back.DeliveryRow.{DeliveryRow}
use Rattle.fb_rows.specs.declared.back.BackRow.{BackRow}
use Rattle.fb_model.specs.History.{delivered, Past, task_numbers}
use Rattle.fb_model.specs.Completion.{Work, work}
use Rattle.fb_model.specs.Images.{findings, segment_rows, seal_rows, complete_rows}
use Rattle.fb_model.specs.Steps.{Delivery}

-- what the last deliveries of these blocks found, in their order, as the fewest runs
abbrev pub found_for : Work → List Block → List ContentRun
found_for work blocks = runs_of (flat_map (λ block. sectors_of (work.found block)) blocks)

-- segment rows with what was found of the blocks that were registered for each segment
abbrev pub segment_rows_found : Past → ℕ → ℕ → List BackRow
segment_rows_found past now task = segment_rows (λ choice. found_for (work past task) choice.blocks) past now task

-- a seal row with what was found of the task's delivered blocks
abbrev pub seal_rows_found : Past → ℕ → ℕ → List BackRow
seal_rows_found past now task =
    let so_far = work past task in
    seal_rows (found_for so_far (filter (λ block. is_delivered (so_far.bare block)) so_far.blocks)) past now task

-- the rows of a task's seal and of its completion
abbrev pub ends_of : Past → ℕ → ℕ → List BackRow
ends_of past now task = seal_rows_found past now task ++ complete_rows past now task

-- the rows of a test as a sound run has them, but with what the deliveries found in place of what the disk holds
unfoldable pub test_rows_found : Past → ℕ → List BackRow
test_rows_found past now = flat_map (segment_rows_found past now) (task_numbers past)
    ++ flat_map (ends_of past now) (task_numbers past)

-- the rows that follow a delivery: its findings, and those of its test
abbrev pub rows_after : Past → DeliveryRow → List BackRow
rows_after past got = findings past got ++ test_rows_found (delivered got ∷ past) got.end

-- the delivery with those rows
abbrev pub delivery_of : Past → DeliveryRow → Delivery
delivery_of past got = record { got = got; after = rows_after past got }
