-- Runs that show backups.
use Rattle.std.specs.Prelude.{[], ◌∷◌, true}
use Rattle.fb_units.specs.declared.types.Name.TheVariants.{Traced}
use Rattle.fb_script.specs.declared.call.Kind.TheVariants.{Backup}
use Rattle.fb_script.specs.declared.call.Action.TheVariants.{Open, Want, Abort}
use Rattle.fb_rows.specs.declared.gap.Plan.TheVariants.{Direct}
use Rattle.fb_rows.specs.declared.gap.How.TheVariants.{Idle as ByIdle}
use Rattle.fb_model.specs.PlainReplay.{fcfs}
use Rattle.by_hand.specs.SmallDisk.{small_disk}
use Rattle.by_hand.specs.Rows.{Worked, at, writing, untouched, written, row, call, block, got, got_row, gap_row, idle_row, done_row}
use Rattle.by_hand.specs.Rows.{seal_row, task_row}

-- a backup whose block is overwritten after its delivery, and delivered again
abbrev pub overwritten_backup : Worked
overwritten_backup = record {
  inputs = record {
    disk = small_disk;
    latent = [];
    trace = writing (Traced 1) 250 0 1 ∷ [];
    passed_over = 0;
    calls = call 1 0 0 (Open Backup 1 2) ∷ call 2 0 0 (Want 0 4) ∷ [];
    key = fcfs;
    until = 4000;
  };
  run = record {
    fore = row (writing (Traced 1) 250 0 1) 250 1200 1300 0 [] ∷ [];
    back =
        idle_row (at 0 0) 0 250
        ∷ got_row (got (block 0 0 0 2 (at 0 0) 1) 0 200 ByIdle 0 (untouched 0 2 ∷ []))
        ∷ gap_row (Traced 1) (at 0 0) (at 0 0) 250 1200 true (Direct 250)
        ∷ idle_row (at 0 0) 1300 4000
        ∷ got_row (got (block 0 1 2 2 (at 0 0) 1) 1400 1600 ByIdle 0 (untouched 2 2 ∷ []))
        ∷ got_row (got (block 0 0 0 2 (at 0 0) 1) 2400 2600 ByIdle 0 (written 1 0 1 ∷ untouched 1 1 ∷ []))
        ∷ seal_row 0 2600 (written 1 0 1 ∷ untouched 1 3 ∷ [])
        ∷ done_row 0 2600
        ∷ task_row 0 Backup 2 2 0 true
        ∷ [];
    passed_over = 0;
    end = 4000;
  };
}

-- a backup one of whose two blocks is aborted, and which is sealed before the write
abbrev pub backup_without_aborted : Worked
backup_without_aborted = record {
  inputs = record {
    disk = small_disk;
    latent = [];
    trace = writing (Traced 1) 250 0 1 ∷ [];
    passed_over = 0;
    calls = call 1 0 0 (Open Backup 1 2) ∷ call 2 0 0 (Want 0 4) ∷ call 3 0 0 (Abort 2 2) ∷ [];
    key = fcfs;
    until = 4000;
  };
  run = record {
    fore = row (writing (Traced 1) 250 0 1) 250 1200 1300 0 [] ∷ [];
    back =
        idle_row (at 0 0) 0 250
        ∷ got_row (got (block 0 0 0 2 (at 0 0) 1) 0 200 ByIdle 0 (untouched 0 2 ∷ []))
        ∷ seal_row 0 200 (untouched 0 2 ∷ [])
        ∷ done_row 0 200
        ∷ gap_row (Traced 1) (at 0 0) (at 0 0) 250 1200 true (Direct 250)
        ∷ idle_row (at 0 0) 1300 4000
        ∷ task_row 0 Backup 2 1 1 true
        ∷ [];
    passed_over = 0;
    end = 4000;
  };
}
