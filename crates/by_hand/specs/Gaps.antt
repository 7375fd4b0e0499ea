-- Runs that show the plans of gaps.
use Rattle.std.specs.Prelude.{[], ◌∷◌, true, false}
use Rattle.fb_units.specs.declared.types.Name.TheVariants.{Traced}
use Rattle.fb_script.specs.declared.call.Kind.TheVariants.{Plain}
use Rattle.fb_script.specs.declared.call.Action.TheVariants.{Open, Want}
use Rattle.fb_wanted.specs.declared.block.Block.{Block}
use Rattle.fb_rows.specs.declared.gap.Plan.TheVariants.{Direct, Detour}
use Rattle.fb_rows.specs.declared.gap.How.TheVariants.{Gap as ByGap}
use Rattle.fb_model.specs.PlainReplay.{fcfs}
use Rattle.by_hand.specs.SmallDisk.{small_disk, quick_disk, turned_disk}
use Rattle.by_hand.specs.Rows.{Worked, at, reading, writing, untouched, row, call, block, swept_block, got, got_row, gap_row, done_row}
use Rattle.by_hand.specs.Rows.{task_row}

-- three blocks that the two dwells of a gap catch
abbrev pub both_dwells : Worked
both_dwells = record {
  inputs = record {
    disk = small_disk;
    latent = [];
    trace = reading (Traced 1) 0 5 1 ∷ reading (Traced 2) 0 24 1 ∷ [];
    passed_over = 0;
    calls = call 1 0 0 (Open Plain 1 1) ∷ call 2 0 0 (Want 6 2) ∷ call 3 0 0 (Want 35 1) ∷ [];
    key = fcfs;
    until = 0;
  };
  run = record {
    fore =
        row (reading (Traced 1) 0 5 1) 0 500 600 0 (untouched 5 1 ∷ [])
        ∷ row (reading (Traced 2) 0 24 1) 600 1200 1300 0 (untouched 24 1 ∷ [])
        ∷ [];
    back =
        gap_row (Traced 1) (at 0 0) (at 0 0) 0 500 false (Direct 0)
        ∷ gap_row (Traced 2) (at 0 0) (at 1 0) 600 1200 false (Direct 800)
        ∷ got_row (got (block 0 0 6 1 (at 0 0) 1) 600 700 ByGap 0 (untouched 6 1 ∷ []))
        ∷ got_row (got (block 0 1 7 1 (at 0 0) 1) 700 800 ByGap 0 (untouched 7 1 ∷ []))
        ∷ got_row (got (block 0 2 35 1 (at 1 0) 1) 1100 1200 ByGap 0 (untouched 35 1 ∷ []))
        ∷ done_row 0 1200
        ∷ task_row 0 Plain 3 3 0 true
        ∷ [];
    passed_over = 0;
    end = 1300;
  };
}

-- a block that only a detour catches, which is back as the request's sector begins
abbrev pub detour : Worked
detour = record {
  inputs = record {
    disk = small_disk;
    latent = [];
    trace = reading (Traced 1) 0 5 1 ∷ reading (Traced 2) 0 24 1 ∷ [];
    passed_over = 0;
    calls = call 1 0 0 (Open Plain 1 1) ∷ call 2 0 0 (Want 20 1) ∷ [];
    key = fcfs;
    until = 0;
  };
  run = record {
    fore =
        row (reading (Traced 1) 0 5 1) 0 500 600 0 (untouched 5 1 ∷ [])
        ∷ row (reading (Traced 2) 0 24 1) 600 1200 1300 0 (untouched 24 1 ∷ [])
        ∷ [];
    back =
        gap_row (Traced 1) (at 0 0) (at 0 0) 0 500 false (Direct 0)
        ∷ gap_row (Traced 2) (at 0 0) (at 1 0) 600 1200 false (Detour (at 0 1) 900)
        ∷ got_row (got (block 0 0 20 1 (at 0 1) 1) 800 900 ByGap 0 (untouched 20 1 ∷ []))
        ∷ done_row 0 900
        ∷ task_row 0 Plain 1 1 0 true
        ∷ [];
    passed_over = 0;
    end = 1300;
  };
}

-- the same before a write, whose settle leaves no time for the detour
abbrev pub no_time_to_settle : Worked
no_time_to_settle = record {
  inputs = record {
    disk = small_disk;
    latent = [];
    trace = reading (Traced 1) 0 5 1 ∷ writing (Traced 2) 0 24 1 ∷ [];
    passed_over = 0;
    calls = call 1 0 0 (Open Plain 1 1) ∷ call 2 0 0 (Want 20 1) ∷ [];
    key = fcfs;
    until = 0;
  };
  run = record {
    fore =
        row (reading (Traced 1) 0 5 1) 0 500 600 0 (untouched 5 1 ∷ [])
        ∷ row (writing (Traced 2) 0 24 1) 600 1200 1300 0 []
        ∷ [];
    back =
        gap_row (Traced 1) (at 0 0) (at 0 0) 0 500 false (Direct 0)
        ∷ gap_row (Traced 2) (at 0 0) (at 1 0) 600 1200 true (Direct 600)
        ∷ task_row 0 Plain 1 0 0 false
        ∷ [];
    passed_over = 0;
    end = 1300;
  };
}

-- a detour by which the head reaches the target sooner than by the direct move; the request begins no sooner
abbrev pub detour_on_the_way : Worked
detour_on_the_way = record {
  inputs = record {
    disk = quick_disk;
    latent = [];
    trace = reading (Traced 1) 0 51 1 ∷ [];
    passed_over = 0;
    calls = call 1 0 0 (Open Plain 1 1) ∷ call 2 0 0 (Want 25 1) ∷ [];
    key = fcfs;
    until = 0;
  };
  run = record {
    fore = row (reading (Traced 1) 0 51 1) 0 1500 1600 0 (untouched 51 1 ∷ []) ∷ [];
    back =
        gap_row (Traced 1) (at 0 0) (at 2 0) 0 1500 false (Detour (at 1 0) 200)
        ∷ got_row (got (block 0 0 25 1 (at 1 0) 1) 100 200 ByGap 0 (untouched 25 1 ∷ []))
        ∷ done_row 0 200
        ∷ task_row 0 Plain 1 1 0 true
        ∷ [];
    passed_over = 0;
    end = 1600;
  };
}

-- a detour over a track without a wanted block, for one on the target that the direct move misses
abbrev pub detour_over_nothing : Worked
detour_over_nothing = record {
  inputs = record {
    disk = quick_disk;
    latent = [];
    trace = reading (Traced 1) 0 51 1 ∷ [];
    passed_over = 0;
    calls = call 1 0 0 (Open Plain 1 1) ∷ call 2 0 0 (Want 51 1) ∷ [];
    key = fcfs;
    until = 0;
  };
  run = record {
    fore = row (reading (Traced 1) 0 51 1) 0 1500 1600 0 (untouched 51 1 ∷ []) ∷ [];
    back =
        gap_row (Traced 1) (at 0 0) (at 2 0) 0 1500 false (Detour (at 1 0) 100)
        ∷ got_row (got (block 0 0 51 1 (at 2 0) 1) 300 400 ByGap 0 (untouched 51 1 ∷ []))
        ∷ done_row 0 400
        ∷ task_row 0 Plain 1 1 0 true
        ∷ [];
    passed_over = 0;
    end = 1600;
  };
}

-- two blocks, or one of greater weight
abbrev pub weight_decides : Worked
weight_decides = record {
  inputs = record {
    disk = small_disk;
    latent = [];
    trace = reading (Traced 1) 0 5 1 ∷ reading (Traced 2) 0 24 1 ∷ [];
    passed_over = 0;
    calls =
        call 1 0 0 (Open Plain 1 1)
        ∷ call 2 0 0 (Want 6 2)
        ∷ call 3 0 1 (Open Plain 5 1)
        ∷ call 4 0 1 (Want 33 1)
        ∷ [];
    key = fcfs;
    until = 0;
  };
  run = record {
    fore =
        row (reading (Traced 1) 0 5 1) 0 500 600 0 (untouched 5 1 ∷ [])
        ∷ row (reading (Traced 2) 0 24 1) 600 1200 1300 0 (untouched 24 1 ∷ [])
        ∷ [];
    back =
        gap_row (Traced 1) (at 0 0) (at 0 0) 0 500 false (Direct 0)
        ∷ gap_row (Traced 2) (at 0 0) (at 1 0) 600 1200 false (Direct 600)
        ∷ got_row (got (block 1 0 33 1 (at 1 0) 5) 900 1000 ByGap 0 (untouched 33 1 ∷ []))
        ∷ done_row 1 1000
        ∷ task_row 0 Plain 2 0 0 false
        ∷ task_row 1 Plain 1 1 0 true
        ∷ [];
    passed_over = 0;
    end = 1300;
  };
}

-- the block that passes in the last slot of a turn and the first of the next
abbrev pub last_and_first : Block
last_and_first = swept_block 0 0 12 2 (at 0 1) 1 (record { begin = 1100; length = 200 })

-- a block whose second sector is the first slot of its track
abbrev pub block_over_the_turn : Worked
block_over_the_turn = record {
  inputs = record {
    disk = turned_disk;
    latent = [];
    trace = reading (Traced 1) 0 14 1 ∷ [];
    passed_over = 0;
    calls = call 1 0 0 (Open Plain 1 2) ∷ call 2 0 0 (Want 12 2) ∷ [];
    key = fcfs;
    until = 0;
  };
  run = record {
    fore = row (reading (Traced 1) 0 14 1) 0 1300 1400 0 (untouched 14 1 ∷ []) ∷ [];
    back =
        gap_row (Traced 1) (at 0 0) (at 0 1) 0 1300 false (Direct 0)
        ∷ got_row (got last_and_first 1100 1300 ByGap 0 (untouched 12 2 ∷ []))
        ∷ done_row 0 1300
        ∷ task_row 0 Plain 1 1 0 true
        ∷ [];
    passed_over = 0;
    end = 1400;
  };
}
