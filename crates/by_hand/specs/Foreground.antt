-- The foreground reports of small traces, in the order of arrival and with the bytes shown.
use Rattle.std.specs.Prelude.{◌≡◌, ℕ, List, [], ◌∷◌, false, codes}
use Rattle.fb_units.specs.declared.types.Request.{Request}
use Rattle.fb_units.specs.declared.types.Name.TheVariants.{Traced}
use Rattle.fb_service.specs.declared.disk.Disk.{Disk}
use Rattle.fb_rows.specs.declared.run.Run.{Run}
use Rattle.fb_model.specs.PlainReplay.{fcfs}
use Rattle.fb_model.specs.Content.{fore_rows}
use Rattle.fb_report.specs.declared.bytes.Bytes.TheVariants.{Dump}
use Rattle.fb_report.specs.Fore.{fore_text}
use Rattle.by_hand.specs.SmallDisk.{small_disk, uneven_disk, skewed_disk, slipped_disk, remapped_disk}

-- the first request of a trace
abbrev pub read : ℕ → ℕ → ℕ → Request
read arrival lbn count = record { name = Traced 1; arrival = arrival; lbn = lbn; count = count; write = false }

-- the run of a trace without calls
abbrev pub run_of : Disk → List Request → Run
run_of disk trace = record {
  fore = fore_rows (record { disk = disk; latent = []; trace = trace; passed_over = 0; calls = []; key = fcfs; until = 0 });
  back = [];
  passed_over = 0;
  end = 0;
}

abbrev pub text_of : Disk → List Request → List ℕ
text_of disk trace = fore_text 16 Dump (run_of disk trace)

abbrev pub FirstRead : Type 0
FirstRead =
    text_of small_disk (read 0 5 1 ∷ []) ≡ codes "freeblock fore 1\n1 R 5 1 0 0 500 600 0 00000000000000000000000000000005\nend 1 0\n"

abbrev pub ReadInTime : Type 0
ReadInTime =
    text_of small_disk (read 500 5 1 ∷ []) ≡ codes "freeblock fore 1\n1 R 5 1 500 500 500 600 0 00000000000000000000000000000005\nend 1 0\n"

abbrev pub ReadTooLate : Type 0
ReadTooLate = text_of small_disk (read 501 5 1 ∷ [])
    ≡ codes "freeblock fore 1\n1 R 5 1 501 501 1700 1800 0 00000000000000000000000000000005\nend 1 0\n"

abbrev pub ReadOverTracks : Type 0
ReadOverTracks = text_of small_disk (read 0 11 2 ∷ [])
    ≡ codes "freeblock fore 1\n1 R 11 2 0 0 1100 2500 0 0000000000000000000000000000000b0000000000000000000000000000000c\nend 1 0\n"

abbrev pub ReadOverSkewedTracks : Type 0
ReadOverSkewedTracks = text_of skewed_disk (read 0 11 2 ∷ [])
    ≡ codes "freeblock fore 1\n1 R 11 2 0 0 1100 1500 0 0000000000000000000000000000000b0000000000000000000000000000000c\nend 1 0\n"

abbrev pub ReadOverSlip : Type 0
ReadOverSlip = text_of slipped_disk (read 0 2 2 ∷ [])
    ≡ codes "freeblock fore 1\n1 R 2 2 0 0 200 500 0 0000000000000000000000000000000200000000000000000000000000000003\nend 1 0\n"

abbrev pub ReadOverMoved : Type 0
ReadOverMoved = text_of remapped_disk (read 0 2 3 ∷ [])
    ≡ codes "freeblock fore 1\n1 R 2 3 0 0 200 1700 0 000000000000000000000000000000020000000000000000000000000000000300000000000000000000000000000004\nend 1 0\n"

abbrev pub ReadOfUnevenSlots : Type 0
ReadOfUnevenSlots =
    text_of uneven_disk (read 0 3 1 ∷ []) ≡ codes "freeblock fore 1\n1 R 3 1 0 0 514 685 0 00000000000000000000000000000003\nend 1 0\n"

abbrev pub ReadOfNothing : Type 0
ReadOfNothing = text_of small_disk [] ≡ codes "freeblock fore 1\nend 0 0\n"
