-- Runs that are wrong, each in one way.
use Rattle.std.specs.Prelude.{ℕ, List, [], ◌∷◌, true, false}
use Rattle.fb_units.specs.declared.types.Name.TheVariants.{Traced}
use Rattle.fb_script.specs.declared.call.Call.{Call}
use Rattle.fb_script.specs.declared.call.Kind.TheVariants.{Plain}
use Rattle.fb_script.specs.declared.call.Action.TheVariants.{Open, Want, Abort}
use Rattle.fb_wanted.specs.declared.block.Block.{Block}
use Rattle.fb_rows.specs.declared.gap.Gap.{Gap}
use Rattle.fb_rows.specs.declared.gap.Plan.TheVariants.{Direct, Detour}
use Rattle.fb_rows.specs.declared.gap.How.TheVariants.{Gap as ByGap, Idle as ByIdle}
use Rattle.fb_rows.specs.declared.back.BackRow.{BackRow}
use Rattle.fb_model.specs.PlainReplay.{fcfs}
use Rattle.fb_model.specs.Inputs.{Inputs}
use Rattle.by_hand.specs.SmallDisk.{small_disk, quick_disk}
use Rattle.by_hand.specs.Rows.{Worked, at, gap, reading, writing, untouched, written, row, call, block, got, got_row, gap_row}
use Rattle.by_hand.specs.Rows.{idle_row, done_row, task_row}

-- calls alone, and the head idle from the beginning
abbrev pub idle_inputs : List Call → ℕ → Inputs
idle_inputs calls until = record { disk = small_disk; latent = []; trace = []; passed_over = 0; calls = calls; key = fcfs; until = until }

abbrev pub idle_run : List Call → ℕ → List BackRow → Worked
idle_run calls until rows = record {
  inputs = idle_inputs calls until;
  run = record { fore = []; back = idle_row (at 0 0) 0 until ∷ rows; passed_over = 0; end = until };
}

-- the block ends a nanosecond after the dwell
abbrev pub delivered_too_late : Worked
delivered_too_late = idle_run (call 1 0 0 (Open Plain 1 1) ∷ call 2 0 0 (Want 5 1) ∷ []) 599 (
    got_row (got (block 0 0 5 1 (at 0 0) 1) 500 600 ByIdle 0 (untouched 5 1 ∷ []))
    ∷ done_row 0 600
    ∷ task_row 0 Plain 1 1 0 true
    ∷ [])

abbrev pub delivered_twice : Worked
delivered_twice = idle_run (call 1 0 0 (Open Plain 1 1) ∷ call 2 0 0 (Want 6 1) ∷ []) 2400 (
    got_row (got (block 0 0 6 1 (at 0 0) 1) 600 700 ByIdle 0 (untouched 6 1 ∷ []))
    ∷ done_row 0 700
    ∷ got_row (got (block 0 0 6 1 (at 0 0) 1) 1800 1900 ByIdle 0 (untouched 6 1 ∷ []))
    ∷ task_row 0 Plain 1 1 0 true
    ∷ [])

abbrev pub delivered_after_abort : Worked
delivered_after_abort = idle_run (call 1 0 0 (Open Plain 1 1) ∷ call 2 0 0 (Want 6 2) ∷ call 3 0 0 (Abort 7 1) ∷ []) 1200 (
    got_row (got (block 0 0 6 1 (at 0 0) 1) 600 700 ByIdle 0 (untouched 6 1 ∷ []))
    ∷ got_row (got (block 0 1 7 1 (at 0 0) 1) 700 800 ByIdle 0 (untouched 7 1 ∷ []))
    ∷ done_row 0 800
    ∷ task_row 0 Plain 2 2 0 true
    ∷ [])

abbrev pub completion_left_out : Worked
completion_left_out = idle_run (call 1 0 0 (Open Plain 1 1) ∷ call 2 0 0 (Want 6 1) ∷ []) 1200 (
    got_row (got (block 0 0 6 1 (at 0 0) 1) 600 700 ByIdle 0 (untouched 6 1 ∷ []))
    ∷ task_row 0 Plain 1 1 0 true
    ∷ [])

-- this one is sound, but a block that passes isn't delivered
abbrev pub delivery_left_out : Worked
delivery_left_out = idle_run (call 1 0 0 (Open Plain 1 1) ∷ call 2 0 0 (Want 6 1) ∷ []) 1200 (task_row 0 Plain 1 0 0 false ∷ [])

-- a delivery with what was written after it
abbrev pub contents_of_later : Worked
contents_of_later = record {
  inputs = record {
    disk = small_disk;
    latent = [];
    trace = writing (Traced 1) 700 6 1 ∷ [];
    passed_over = 0;
    calls = call 1 0 0 (Open Plain 1 1) ∷ call 2 0 0 (Want 6 1) ∷ [];
    key = fcfs;
    until = 0;
  };
  run = record {
    fore = row (writing (Traced 1) 700 6 1) 700 1800 1900 0 [] ∷ [];
    back =
        idle_row (at 0 0) 0 700
        ∷ got_row (got (block 0 0 6 1 (at 0 0) 1) 600 700 ByIdle 0 (written 1 6 1 ∷ []))
        ∷ done_row 0 700
        ∷ gap_row (Traced 1) (at 0 0) (at 0 0) 700 1800 true (Direct 700)
        ∷ task_row 0 Plain 1 1 0 true
        ∷ [];
    passed_over = 0;
    end = 1900;
  };
}

-- a detour before a write, which leaves no time to settle
abbrev pub settling_gap : Gap
settling_gap = gap (at 0 0) (at 1 0) 0 1200 true

abbrev pub detour_without_settle : Worked
detour_without_settle = record {
  inputs = record {
    disk = small_disk;
    latent = [];
    trace = writing (Traced 1) 0 24 1 ∷ [];
    passed_over = 0;
    calls = call 1 0 0 (Open Plain 1 1) ∷ call 2 0 0 (Want 20 1) ∷ [];
    key = fcfs;
    until = 0;
  };
  run = record {
    fore = row (writing (Traced 1) 0 24 1) 0 1200 1300 0 [] ∷ [];
    back =
        gap_row (Traced 1) (at 0 0) (at 1 0) 0 1200 true (Detour (at 0 1) 900)
        ∷ got_row (got (block 0 0 20 1 (at 0 1) 1) 800 900 ByGap 0 (untouched 20 1 ∷ []))
        ∷ done_row 0 900
        ∷ task_row 0 Plain 1 1 0 true
        ∷ [];
    passed_over = 0;
    end = 1300;
  };
}

-- a request served as soon as a detour has reached its track, a rotation before its time
abbrev pub served_sooner : Worked
served_sooner = record {
  inputs = record {
    disk = quick_disk;
    latent = [];
    trace = reading (Traced 1) 0 51 1 ∷ [];
    passed_over = 0;
    calls = call 1 0 0 (Open Plain 1 1) ∷ call 2 0 0 (Want 25 1) ∷ [];
    key = fcfs;
    until = 0;
  };
  run = record {
    fore = row (reading (Traced 1) 0 51 1) 0 300 400 0 (untouched 51 1 ∷ []) ∷ [];
    back =
        gap_row (Traced 1) (at 0 0) (at 2 0) 0 300 false (Detour (at 1 0) 200)
        ∷ got_row (got (block 0 0 25 1 (at 1 0) 1) 100 200 ByGap 0 (untouched 25 1 ∷ []))
        ∷ done_row 0 200
        ∷ task_row 0 Plain 1 1 0 true
        ∷ [];
    passed_over = 0;
    end = 400;
  };
}

-- a gap with three wanted blocks, two on the source and one on the target
abbrev pub gap_with_three : Gap
gap_with_three = gap (at 0 0) (at 1 0) 600 1200 false

abbrev pub three_blocks : List Block
three_blocks = block 0 0 6 1 (at 0 0) 1 ∷ block 0 1 7 1 (at 0 0) 1 ∷ block 0 2 35 1 (at 1 0) 1 ∷ []

-- a gap with a block on a track on the way, or one on the target, which passes while the head is on the direct way
abbrev pub gap_with_one : Gap
gap_with_one = gap (at 0 0) (at 2 0) 0 1500 false

abbrev pub block_on_target : List Block
block_on_target = block 0 0 51 1 (at 2 0) 1 ∷ []

abbrev pub block_on_the_way : List Block
block_on_the_way = block 0 0 25 1 (at 1 0) 1 ∷ []
