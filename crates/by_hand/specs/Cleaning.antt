-- Runs that show the cleaning of segments.
use Rattle.std.specs.Prelude.{[], ◌∷◌, true, false}
use Rattle.fb_units.specs.declared.types.Name.TheVariants.{Traced}
use Rattle.fb_script.specs.declared.call.Kind.TheVariants.{Clean}
use Rattle.fb_script.specs.declared.call.Action.TheVariants.{Open, Suspend, Resume, Close, Segment}
use Rattle.fb_rows.specs.declared.gap.Plan.TheVariants.{Direct}
use Rattle.fb_rows.specs.declared.gap.How.TheVariants.{Gap as ByGap, Idle as ByIdle}
use Rattle.fb_model.specs.PlainReplay.{fcfs}
use Rattle.by_hand.specs.SmallDisk.{small_disk}
use Rattle.by_hand.specs.Rows.{Worked, at, reading, writing, untouched, row, call, block, got, got_row, gap_row, idle_row, done_row}
use Rattle.by_hand.specs.Rows.{segment_row, task_row}

-- two segments, the later one with the greater ratio of benefit to cost
abbrev pub segments_by_benefit : Worked
segments_by_benefit = record {
  inputs = record {
    disk = small_disk;
    latent = [];
    trace = reading (Traced 1) 700 11 1 ∷ [];
    passed_over = 0;
    calls =
        call 1 0 0 (Open Clean 1 1)
        ∷ call 2 0 0 (Segment 0 4 10 (true ∷ false ∷ true ∷ false ∷ []))
        ∷ call 3 0 0 (Segment 4 4 9 (false ∷ true ∷ false ∷ false ∷ []))
        ∷ [];
    key = fcfs;
    until = 3000;
  };
  run = record {
    fore = row (reading (Traced 1) 700 11 1) 700 1100 1200 0 (untouched 11 1 ∷ []) ∷ [];
    back =
        idle_row (at 0 0) 0 700
        ∷ got_row (got (block 0 0 5 1 (at 0 0) 1) 500 600 ByIdle 0 (untouched 5 1 ∷ []))
        ∷ segment_row 0 2 600 1 (untouched 5 1 ∷ [])
        ∷ gap_row (Traced 1) (at 0 0) (at 0 0) 700 1100 false (Direct 700)
        ∷ idle_row (at 0 0) 1200 3000
        ∷ got_row (got (block 0 1 0 1 (at 0 0) 1) 1200 1300 ByIdle 0 (untouched 0 1 ∷ []))
        ∷ got_row (got (block 0 2 2 1 (at 0 0) 1) 1400 1500 ByIdle 0 (untouched 2 1 ∷ []))
        ∷ segment_row 0 1 1500 2 (untouched 0 1 ∷ untouched 2 1 ∷ [])
        ∷ done_row 0 1500
        ∷ task_row 0 Clean 3 3 0 true
        ∷ [];
    passed_over = 0;
    end = 3000;
  };
}

-- a segment without live blocks
abbrev pub segment_without_live_blocks : Worked
segment_without_live_blocks = record {
  inputs = record {
    disk = small_disk;
    latent = [];
    trace = [];
    passed_over = 0;
    calls = call 1 0 0 (Open Clean 1 1) ∷ call 2 0 0 (Segment 0 4 10 (false ∷ false ∷ false ∷ false ∷ [])) ∷ [];
    key = fcfs;
    until = 0;
  };
  run = record {
    fore = [];
    back = segment_row 0 1 0 0 [] ∷ done_row 0 0 ∷ task_row 0 Clean 0 0 0 true ∷ [];
    passed_over = 0;
    end = 0;
  };
}

-- a segment one of whose blocks is overwritten before its row
abbrev pub segment_keeps_its_passages : Worked
segment_keeps_its_passages = record {
  inputs = record {
    disk = small_disk;
    latent = [];
    trace = writing (Traced 1) 150 0 1 ∷ reading (Traced 2) 2000 15 1 ∷ [];
    passed_over = 0;
    calls =
        call 1 0 0 (Open Clean 1 1)
        ∷ call 2 0 0
        (Segment 0 13 10 (true ∷ false ∷ false ∷ false ∷ false ∷ false ∷ false ∷ false ∷ false ∷ false ∷ false ∷ false ∷ true ∷ []))
        ∷ [];
    key = fcfs;
    until = 0;
  };
  run = record {
    fore =
        row (writing (Traced 1) 150 0 1) 150 1200 1300 0 []
        ∷ row (reading (Traced 2) 2000 15 1) 2000 2700 2800 0 (untouched 15 1 ∷ [])
        ∷ [];
    back =
        idle_row (at 0 0) 0 150
        ∷ got_row (got (block 0 0 0 1 (at 0 0) 1) 0 100 ByIdle 0 (untouched 0 1 ∷ []))
        ∷ gap_row (Traced 1) (at 0 0) (at 0 0) 150 1200 true (Direct 150)
        ∷ idle_row (at 0 0) 1300 2000
        ∷ gap_row (Traced 2) (at 0 0) (at 0 1) 2000 2700 false (Direct 2000)
        ∷ got_row (got (block 0 1 12 1 (at 0 1) 1) 2400 2500 ByGap 0 (untouched 12 1 ∷ []))
        ∷ segment_row 0 1 2500 2 (untouched 0 1 ∷ untouched 12 1 ∷ [])
        ∷ done_row 0 2500
        ∷ task_row 0 Clean 2 2 0 true
        ∷ [];
    passed_over = 0;
    end = 2800;
  };
}

-- a session that is closed with a segment chosen
abbrev pub closed_with_chosen_segment : Worked
closed_with_chosen_segment = record {
  inputs = record {
    disk = small_disk;
    latent = [];
    trace = [];
    passed_over = 0;
    calls =
        call 1 0 0 (Open Clean 1 1)
        ∷ call 2 0 0
        (Segment 0 13 10 (false ∷ false ∷ false ∷ false ∷ false ∷ false ∷ false ∷ false ∷ false ∷ false ∷ false ∷ false ∷ true ∷ []))
        ∷ call 3 100 0 Close
        ∷ [];
    key = fcfs;
    until = 0;
  };
  run = record {
    fore = [];
    back = idle_row (at 0 0) 0 100 ∷ done_row 0 100 ∷ task_row 0 Clean 1 0 1 true ∷ [];
    passed_over = 0;
    end = 100;
  };
}

-- a suspended session, which chooses a segment and reads it after the resume
abbrev pub suspended_session_chooses : Worked
suspended_session_chooses = record {
  inputs = record {
    disk = small_disk;
    latent = [];
    trace = [];
    passed_over = 0;
    calls =
        call 1 0 0 (Open Clean 1 1)
        ∷ call 2 0 0 Suspend
        ∷ call 3 0 0 (Segment 0 1 1 (true ∷ []))
        ∷ call 4 200 0 Resume
        ∷ [];
    key = fcfs;
    until = 2000;
  };
  run = record {
    fore = [];
    back =
        idle_row (at 0 0) 0 200
        ∷ idle_row (at 0 0) 200 2000
        ∷ got_row (got (block 0 0 0 1 (at 0 0) 1) 1200 1300 ByIdle 0 (untouched 0 1 ∷ []))
        ∷ segment_row 0 1 1300 1 (untouched 0 1 ∷ [])
        ∷ done_row 0 1300
        ∷ task_row 0 Clean 1 1 0 true
        ∷ [];
    passed_over = 0;
    end = 2000;
  };
}
