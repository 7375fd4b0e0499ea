-- Runs that show the contents that a delivery finds.
use Rattle.std.specs.Prelude.{[], ◌∷◌, true}
use Rattle.fb_units.specs.declared.types.Name.TheVariants.{Traced}
use Rattle.fb_script.specs.declared.call.Kind.TheVariants.{Plain, Scrub}
use Rattle.fb_script.specs.declared.call.Action.TheVariants.{Open, Want}
use Rattle.fb_wanted.specs.declared.block.Block.{Block}
use Rattle.fb_rows.specs.declared.gap.Plan.TheVariants.{Direct}
use Rattle.fb_rows.specs.declared.gap.How.TheVariants.{Idle as ByIdle}
use Rattle.fb_model.specs.PlainReplay.{fcfs}
use Rattle.by_hand.specs.SmallDisk.{small_disk, one_sector_disk}
use Rattle.by_hand.specs.Rows.{Worked, at, writing, untouched, written, unreadable, row, call, block, swept_block, got, got_row}
use Rattle.by_hand.specs.Rows.{gap_row, idle_row, done_row, bad_row, task_row}

-- a sector that is read before it is written and after it
abbrev pub overwritten_between : Worked
overwritten_between = record {
  inputs = record {
    disk = small_disk;
    latent = [];
    trace = writing (Traced 1) 700 6 1 ∷ [];
    passed_over = 0;
    calls = call 1 0 0 (Open Plain 1 1) ∷ call 2 0 0 (Want 6 1) ∷ call 3 2000 0 (Want 6 1) ∷ [];
    key = fcfs;
    until = 4000;
  };
  run = record {
    fore = row (writing (Traced 1) 700 6 1) 700 1800 1900 0 [] ∷ [];
    back =
        idle_row (at 0 0) 0 700
        ∷ got_row (got (block 0 0 6 1 (at 0 0) 1) 600 700 ByIdle 0 (untouched 6 1 ∷ []))
        ∷ done_row 0 700
        ∷ gap_row (Traced 1) (at 0 0) (at 0 0) 700 1800 true (Direct 700)
        ∷ idle_row (at 0 0) 1900 2000
        ∷ idle_row (at 0 0) 2000 4000
        ∷ got_row (got (block 0 1 6 1 (at 0 0) 1) 3000 3100 ByIdle 0 (written 1 6 1 ∷ []))
        ∷ done_row 0 3100
        ∷ task_row 0 Plain 2 2 0 true
        ∷ [];
    passed_over = 0;
    end = 4000;
  };
}

-- the same where the sector is unreadable until it is written
abbrev pub latent_until_written : Worked
latent_until_written = record {
  inputs = record {
    disk = small_disk;
    latent = 6 ∷ [];
    trace = writing (Traced 1) 700 6 1 ∷ [];
    passed_over = 0;
    calls = call 1 0 0 (Open Plain 1 1) ∷ call 2 0 0 (Want 6 1) ∷ call 3 2000 0 (Want 6 1) ∷ [];
    key = fcfs;
    until = 4000;
  };
  run = record {
    fore = row (writing (Traced 1) 700 6 1) 700 1800 1900 0 [] ∷ [];
    back =
        idle_row (at 0 0) 0 700
        ∷ got_row (got (block 0 0 6 1 (at 0 0) 1) 600 700 ByIdle 1 (unreadable 6 1 ∷ []))
        ∷ done_row 0 700
        ∷ gap_row (Traced 1) (at 0 0) (at 0 0) 700 1800 true (Direct 700)
        ∷ idle_row (at 0 0) 1900 2000
        ∷ idle_row (at 0 0) 2000 4000
        ∷ got_row (got (block 0 1 6 1 (at 0 0) 1) 3000 3100 ByIdle 0 (written 1 6 1 ∷ []))
        ∷ done_row 0 3100
        ∷ task_row 0 Plain 2 2 0 true
        ∷ [];
    passed_over = 0;
    end = 4000;
  };
}

-- the only block of a track with one sector, which passes for a whole turn
abbrev pub whole_track : Block
whole_track = swept_block 0 0 0 1 (at 0 0) 1 (record { begin = 0; length = 1200 })

-- a delivery that begins as the write of its sector ends
abbrev pub read_as_the_write_ends : Worked
read_as_the_write_ends = record {
  inputs = record {
    disk = one_sector_disk;
    latent = [];
    trace = writing (Traced 1) 0 0 1 ∷ [];
    passed_over = 0;
    calls = call 1 0 0 (Open Plain 1 1) ∷ call 2 100 0 (Want 0 1) ∷ [];
    key = fcfs;
    until = 3000;
  };
  run = record {
    fore = row (writing (Traced 1) 0 0 1) 0 0 1200 0 [] ∷ [];
    back =
        gap_row (Traced 1) (at 0 0) (at 0 0) 0 0 true (Direct 0)
        ∷ idle_row (at 0 0) 1200 3000
        ∷ got_row (got whole_track 1200 2400 ByIdle 0 (written 1 0 1 ∷ []))
        ∷ done_row 0 2400
        ∷ task_row 0 Plain 1 1 0 true
        ∷ [];
    passed_over = 0;
    end = 3000;
  };
}

-- a scrub that finds an unreadable sector
abbrev pub scrub_finds_latent : Worked
scrub_finds_latent = record {
  inputs = record {
    disk = small_disk;
    latent = 6 ∷ [];
    trace = [];
    passed_over = 0;
    calls = call 1 0 0 (Open Scrub 1 4) ∷ call 2 0 0 (Want 4 4) ∷ [];
    key = fcfs;
    until = 1200;
  };
  run = record {
    fore = [];
    back =
        idle_row (at 0 0) 0 1200
        ∷ got_row (got (block 0 0 4 4 (at 0 0) 1) 400 800 ByIdle 1 (untouched 4 2 ∷ unreadable 6 1 ∷ untouched 7 1 ∷ []))
        ∷ bad_row 0 6
        ∷ done_row 0 800
        ∷ task_row 0 Scrub 1 1 0 true
        ∷ [];
    passed_over = 0;
    end = 1200;
  };
}
