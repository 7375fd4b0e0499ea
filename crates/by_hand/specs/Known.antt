-- Two runs that are the same up to an instant.
use Rattle.std.specs.Prelude.{[], ◌∷◌, true, false}
use Rattle.fb_units.specs.declared.types.Name.TheVariants.{Traced}
use Rattle.fb_script.specs.declared.call.Kind.TheVariants.{Plain}
use Rattle.fb_script.specs.declared.call.Action.TheVariants.{Open, Want}
use Rattle.fb_rows.specs.declared.gap.Plan.TheVariants.{Direct}
use Rattle.fb_rows.specs.declared.gap.How.TheVariants.{Gap as ByGap}
use Rattle.fb_model.specs.PlainReplay.{fcfs}
use Rattle.by_hand.specs.SmallDisk.{small_disk}
use Rattle.by_hand.specs.Rows.{Worked, at, reading, untouched, row, call, block, got, got_row, gap_row, idle_row, done_row, task_row}

-- a run
abbrev pub run_without_third : Worked
run_without_third = record {
  inputs = record {
    disk = small_disk;
    latent = [];
    trace = reading (Traced 1) 0 5 1 ∷ reading (Traced 2) 0 24 1 ∷ [];
    passed_over = 0;
    calls = call 1 0 0 (Open Plain 1 1) ∷ call 2 0 0 (Want 6 2) ∷ call 3 0 0 (Want 35 1) ∷ [];
    key = fcfs;
    until = 10000;
  };
  run = record {
    fore =
        row (reading (Traced 1) 0 5 1) 0 500 600 0 (untouched 5 1 ∷ [])
        ∷ row (reading (Traced 2) 0 24 1) 600 1200 1300 0 (untouched 24 1 ∷ [])
        ∷ [];
    back =
        gap_row (Traced 1) (at 0 0) (at 0 0) 0 500 false (Direct 0)
        ∷ gap_row (Traced 2) (at 0 0) (at 1 0) 600 1200 false (Direct 800)
        ∷ got_row (got (block 0 0 6 1 (at 0 0) 1) 600 700 ByGap 0 (untouched 6 1 ∷ []))
        ∷ got_row (got (block 0 1 7 1 (at 0 0) 1) 700 800 ByGap 0 (untouched 7 1 ∷ []))
        ∷ got_row (got (block 0 2 35 1 (at 1 0) 1) 1100 1200 ByGap 0 (untouched 35 1 ∷ []))
        ∷ done_row 0 1200
        ∷ idle_row (at 1 0) 1300 10000
        ∷ task_row 0 Plain 3 3 0 true
        ∷ [];
    passed_over = 0;
    end = 10000;
  };
}

-- the run of the same inputs with a third request, which arrives later
abbrev pub run_with_third : Worked
run_with_third = record {
  inputs = record {
    disk = small_disk;
    latent = [];
    trace = reading (Traced 1) 0 5 1 ∷ reading (Traced 2) 0 24 1 ∷ reading (Traced 3) 1260 72 1 ∷ [];
    passed_over = 0;
    calls = call 1 0 0 (Open Plain 1 1) ∷ call 2 0 0 (Want 6 2) ∷ call 3 0 0 (Want 35 1) ∷ [];
    key = fcfs;
    until = 10000;
  };
  run = record {
    fore =
        row (reading (Traced 1) 0 5 1) 0 500 600 0 (untouched 5 1 ∷ [])
        ∷ row (reading (Traced 2) 0 24 1) 600 1200 1300 0 (untouched 24 1 ∷ [])
        ∷ row (reading (Traced 3) 1260 72 1) 1300 2400 2500 0 (untouched 72 1 ∷ [])
        ∷ [];
    back =
        gap_row (Traced 1) (at 0 0) (at 0 0) 0 500 false (Direct 0)
        ∷ gap_row (Traced 2) (at 0 0) (at 1 0) 600 1200 false (Direct 800)
        ∷ got_row (got (block 0 0 6 1 (at 0 0) 1) 600 700 ByGap 0 (untouched 6 1 ∷ []))
        ∷ got_row (got (block 0 1 7 1 (at 0 0) 1) 700 800 ByGap 0 (untouched 7 1 ∷ []))
        ∷ got_row (got (block 0 2 35 1 (at 1 0) 1) 1100 1200 ByGap 0 (untouched 35 1 ∷ []))
        ∷ done_row 0 1200
        ∷ gap_row (Traced 3) (at 1 0) (at 3 0) 1300 2400 false (Direct 1300)
        ∷ idle_row (at 3 0) 2500 10000
        ∷ task_row 0 Plain 3 3 0 true
        ∷ [];
    passed_over = 0;
    end = 10000;
  };
}
