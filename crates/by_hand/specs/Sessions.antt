-- Runs that show what calls do to a session.
use Rattle.std.specs.Prelude.{[], ◌∷◌, true, false}
use Rattle.fb_units.specs.declared.types.Name.TheVariants.{Traced}
use Rattle.fb_script.specs.declared.call.Kind.TheVariants.{Plain}
use Rattle.fb_script.specs.declared.call.Action.TheVariants.{Open, Want, Abort, Suspend, Close}
use Rattle.fb_rows.specs.declared.gap.Plan.TheVariants.{Direct}
use Rattle.fb_rows.specs.declared.gap.How.TheVariants.{Gap as ByGap}
use Rattle.fb_model.specs.PlainReplay.{fcfs}
use Rattle.by_hand.specs.SmallDisk.{small_disk}
use Rattle.by_hand.specs.Rows.{Worked, at, reading, untouched, row, call, block, got, got_row, gap_row, done_row, task_row}

-- an abort as the second request starts
abbrev pub abort_while_waiting : Worked
abort_while_waiting = record {
  inputs = record {
    disk = small_disk;
    latent = [];
    trace = reading (Traced 1) 0 5 1 ∷ reading (Traced 2) 0 24 1 ∷ [];
    passed_over = 0;
    calls =
        call 1 0 0 (Open Plain 1 1)
        ∷ call 2 0 0 (Want 6 2)
        ∷ call 3 0 0 (Want 35 1)
        ∷ call 4 600 0 (Abort 7 1)
        ∷ [];
    key = fcfs;
    until = 0;
  };
  run = record {
    fore =
        row (reading (Traced 1) 0 5 1) 0 500 600 0 (untouched 5 1 ∷ [])
        ∷ row (reading (Traced 2) 0 24 1) 600 1200 1300 0 (untouched 24 1 ∷ [])
        ∷ [];
    back =
        gap_row (Traced 1) (at 0 0) (at 0 0) 0 500 false (Direct 0)
        ∷ gap_row (Traced 2) (at 0 0) (at 1 0) 600 1200 false (Direct 700)
        ∷ got_row (got (block 0 0 6 1 (at 0 0) 1) 600 700 ByGap 0 (untouched 6 1 ∷ []))
        ∷ got_row (got (block 0 2 35 1 (at 1 0) 1) 1100 1200 ByGap 0 (untouched 35 1 ∷ []))
        ∷ done_row 0 1200
        ∷ task_row 0 Plain 3 2 1 true
        ∷ [];
    passed_over = 0;
    end = 1300;
  };
}

-- an abort later on, which takes effect after the block was delivered
abbrev pub abort_too_late : Worked
abort_too_late = record {
  inputs = record {
    disk = small_disk;
    latent = [];
    trace = reading (Traced 1) 0 5 1 ∷ reading (Traced 2) 0 24 1 ∷ [];
    passed_over = 0;
    calls =
        call 1 0 0 (Open Plain 1 1)
        ∷ call 2 0 0 (Want 6 2)
        ∷ call 3 0 0 (Want 35 1)
        ∷ call 4 650 0 (Abort 7 1)
        ∷ [];
    key = fcfs;
    until = 0;
  };
  run = record {
    fore =
        row (reading (Traced 1) 0 5 1) 0 500 600 0 (untouched 5 1 ∷ [])
        ∷ row (reading (Traced 2) 0 24 1) 600 1200 1300 0 (untouched 24 1 ∷ [])
        ∷ [];
    back =
        gap_row (Traced 1) (at 0 0) (at 0 0) 0 500 false (Direct 0)
        ∷ gap_row (Traced 2) (at 0 0) (at 1 0) 600 1200 false (Direct 800)
        ∷ got_row (got (block 0 0 6 1 (at 0 0) 1) 600 700 ByGap 0 (untouched 6 1 ∷ []))
        ∷ got_row (got (block 0 1 7 1 (at 0 0) 1) 700 800 ByGap 0 (untouched 7 1 ∷ []))
        ∷ got_row (got (block 0 2 35 1 (at 1 0) 1) 1100 1200 ByGap 0 (untouched 35 1 ∷ []))
        ∷ done_row 0 1200
        ∷ task_row 0 Plain 3 3 0 true
        ∷ [];
    passed_over = 0;
    end = 1300;
  };
}

-- a session that is suspended before its blocks pass
abbrev pub suspended : Worked
suspended = record {
  inputs = record {
    disk = small_disk;
    latent = [];
    trace = reading (Traced 1) 0 5 1 ∷ reading (Traced 2) 0 24 1 ∷ [];
    passed_over = 0;
    calls =
        call 1 0 0 (Open Plain 1 1)
        ∷ call 2 0 0 (Want 6 2)
        ∷ call 3 0 0 (Want 35 1)
        ∷ call 4 600 0 Suspend
        ∷ [];
    key = fcfs;
    until = 0;
  };
  run = record {
    fore =
        row (reading (Traced 1) 0 5 1) 0 500 600 0 (untouched 5 1 ∷ [])
        ∷ row (reading (Traced 2) 0 24 1) 600 1200 1300 0 (untouched 24 1 ∷ [])
        ∷ [];
    back =
        gap_row (Traced 1) (at 0 0) (at 0 0) 0 500 false (Direct 0)
        ∷ gap_row (Traced 2) (at 0 0) (at 1 0) 600 1200 false (Direct 600)
        ∷ task_row 0 Plain 3 0 0 false
        ∷ [];
    passed_over = 0;
    end = 1300;
  };
}

-- a session that is closed before its blocks pass
abbrev pub closed : Worked
closed = record {
  inputs = record {
    disk = small_disk;
    latent = [];
    trace = reading (Traced 1) 0 5 1 ∷ reading (Traced 2) 0 24 1 ∷ [];
    passed_over = 0;
    calls =
        call 1 0 0 (Open Plain 1 1)
        ∷ call 2 0 0 (Want 6 2)
        ∷ call 3 0 0 (Want 35 1)
        ∷ call 4 600 0 Close
        ∷ [];
    key = fcfs;
    until = 0;
  };
  run = record {
    fore =
        row (reading (Traced 1) 0 5 1) 0 500 600 0 (untouched 5 1 ∷ [])
        ∷ row (reading (Traced 2) 0 24 1) 600 1200 1300 0 (untouched 24 1 ∷ [])
        ∷ [];
    back =
        gap_row (Traced 1) (at 0 0) (at 0 0) 0 500 false (Direct 0)
        ∷ done_row 0 600
        ∷ gap_row (Traced 2) (at 0 0) (at 1 0) 600 1200 false (Direct 600)
        ∷ task_row 0 Plain 3 0 3 true
        ∷ [];
    passed_over = 0;
    end = 1300;
  };
}
