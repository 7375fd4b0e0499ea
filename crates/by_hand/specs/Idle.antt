-- Runs that show idle dwells and rides.
use Rattle.std.specs.Prelude.{[], ◌∷◌, true, false}
use Rattle.fb_units.specs.declared.types.Name.TheVariants.{Traced, Promoted}
use Rattle.fb_script.specs.declared.call.Kind.TheVariants.{Plain}
use Rattle.fb_script.specs.declared.call.Action.TheVariants.{Open, Want, Promote}
use Rattle.fb_rows.specs.declared.gap.Plan.TheVariants.{Direct}
use Rattle.fb_rows.specs.declared.gap.How.TheVariants.{Gap as ByGap, Idle as ByIdle, Ride as ByRide}
use Rattle.fb_model.specs.PlainReplay.{fcfs}
use Rattle.by_hand.specs.SmallDisk.{small_disk, remapped_disk}
use Rattle.by_hand.specs.Rows.{Worked, at, reading, untouched, row, call, block, got, got_row, gap_row, idle_row, done_row, task_row}

-- a block that ends as the idle dwell does
abbrev pub idle_to_the_end : Worked
idle_to_the_end = record {
  inputs = record {
    disk = small_disk;
    latent = [];
    trace = reading (Traced 1) 600 24 1 ∷ [];
    passed_over = 0;
    calls = call 1 0 0 (Open Plain 1 1) ∷ call 2 0 0 (Want 5 1) ∷ [];
    key = fcfs;
    until = 0;
  };
  run = record {
    fore = row (reading (Traced 1) 600 24 1) 600 1200 1300 0 (untouched 24 1 ∷ []) ∷ [];
    back =
        idle_row (at 0 0) 0 600
        ∷ got_row (got (block 0 0 5 1 (at 0 0) 1) 500 600 ByIdle 0 (untouched 5 1 ∷ []))
        ∷ done_row 0 600
        ∷ gap_row (Traced 1) (at 0 0) (at 1 0) 600 1200 false (Direct 600)
        ∷ task_row 0 Plain 1 1 0 true
        ∷ [];
    passed_over = 0;
    end = 1300;
  };
}

-- a nanosecond less, and it isn't caught
abbrev pub idle_too_short : Worked
idle_too_short = record {
  inputs = record {
    disk = small_disk;
    latent = [];
    trace = reading (Traced 1) 599 24 1 ∷ [];
    passed_over = 0;
    calls = call 1 0 0 (Open Plain 1 1) ∷ call 2 0 0 (Want 5 1) ∷ [];
    key = fcfs;
    until = 0;
  };
  run = record {
    fore = row (reading (Traced 1) 599 24 1) 599 1200 1300 0 (untouched 24 1 ∷ []) ∷ [];
    back =
        idle_row (at 0 0) 0 599
        ∷ gap_row (Traced 1) (at 0 0) (at 1 0) 599 1200 false (Direct 599)
        ∷ task_row 0 Plain 1 0 0 false
        ∷ [];
    passed_over = 0;
    end = 1300;
  };
}

-- a range that a moved sector cuts into three blocks, of which two pass
abbrev pub grown_defect_cuts : Worked
grown_defect_cuts = record {
  inputs = record {
    disk = remapped_disk;
    latent = [];
    trace = [];
    passed_over = 0;
    calls = call 1 0 0 (Open Plain 1 8) ∷ call 2 0 0 (Want 2 3) ∷ [];
    key = fcfs;
    until = 1200;
  };
  run = record {
    fore = [];
    back =
        idle_row (at 0 0) 0 1200
        ∷ got_row (got (block 0 0 2 1 (at 0 0) 1) 200 300 ByIdle 0 (untouched 2 1 ∷ []))
        ∷ got_row (got (block 0 2 4 1 (at 0 0) 1) 400 500 ByIdle 0 (untouched 4 1 ∷ []))
        ∷ task_row 0 Plain 3 2 0 false
        ∷ [];
    passed_over = 0;
    end = 1200;
  };
}

-- a promoted read that carries two blocks
abbrev pub promoted_read_carries : Worked
promoted_read_carries = record {
  inputs = record {
    disk = small_disk;
    latent = [];
    trace = [];
    passed_over = 0;
    calls =
        call 1 0 0 (Open Plain 1 1)
        ∷ call 2 0 0 (Want 5 2)
        ∷ call 3 1700 0 (Want 7 2)
        ∷ call 4 1700 0 (Promote 5 4)
        ∷ [];
    key = fcfs;
    until = 0;
  };
  run = record {
    fore = row (reading (Promoted 1) 1700 5 4) 1700 1700 2100 0 (untouched 5 4 ∷ []) ∷ [];
    back =
        idle_row (at 0 0) 0 1700
        ∷ got_row (got (block 0 0 5 1 (at 0 0) 1) 500 600 ByIdle 0 (untouched 5 1 ∷ []))
        ∷ got_row (got (block 0 1 6 1 (at 0 0) 1) 600 700 ByIdle 0 (untouched 6 1 ∷ []))
        ∷ done_row 0 700
        ∷ gap_row (Promoted 1) (at 0 0) (at 0 0) 1700 1700 false (Direct 1700)
        ∷ got_row (got (block 0 2 7 1 (at 0 0) 1) 1900 2000 ByRide 0 (untouched 7 1 ∷ []))
        ∷ got_row (got (block 0 3 8 1 (at 0 0) 1) 2000 2100 ByRide 0 (untouched 8 1 ∷ []))
        ∷ done_row 0 2100
        ∷ task_row 0 Plain 4 4 0 true
        ∷ [];
    passed_over = 0;
    end = 2100;
  };
}

-- a block that the gap catches doesn't ride with the read
abbrev pub caught_not_carried : Worked
caught_not_carried = record {
  inputs = record {
    disk = small_disk;
    latent = [];
    trace = reading (Traced 1) 100 0 12 ∷ [];
    passed_over = 0;
    calls = call 1 0 0 (Open Plain 1 1) ∷ call 2 0 0 (Want 6 1) ∷ [];
    key = fcfs;
    until = 0;
  };
  run = record {
    fore = row (reading (Traced 1) 100 0 12) 100 1200 2400 0 (untouched 0 12 ∷ []) ∷ [];
    back =
        idle_row (at 0 0) 0 100
        ∷ gap_row (Traced 1) (at 0 0) (at 0 0) 100 1200 false (Direct 100)
        ∷ got_row (got (block 0 0 6 1 (at 0 0) 1) 600 700 ByGap 0 (untouched 6 1 ∷ []))
        ∷ done_row 0 700
        ∷ task_row 0 Plain 1 1 0 true
        ∷ [];
    passed_over = 0;
    end = 2400;
  };
}
