-- The call script of a rebuild.
use Rattle.std.specs.Prelude.{ℕ, List, [], ◌∷◌, ◌++◌, length, decimal, codes, Result, Ok, Err, if◌then◌else◌}
use Rattle.fb_geometry.specs.Shape.{Shape}
use Rattle.fb_geometry.specs.Places.{places}
use Rattle.fb_script.specs.declared.call.Action.TheVariants.{Open, Want}
use Rattle.fb_script.specs.declared.call.Call.{Call}
use Rattle.fb_script.specs.declared.call.Kind.TheVariants.{Backup}
use Rattle.fb_calls.specs.declared.fault.CallsFault.{CallsFault}
use Rattle.fb_calls.specs.declared.fault.CallsReason.TheVariants.{TooManyBlocks}
use Rattle.fb_script.specs.Blocks.{blocks_in}
use Rattle.fb_calls.specs.Judgement.{are_too_many}
use Rattle.fb_calls.specs.Reading.{Accepted, fault_at}

-- the text of the script: a backup named `rebuild`, which wants all sectors of the disk
abbrev pub rebuild_text : Shape → List ℕ
rebuild_text disk = codes "0 open rebuild backup 1 16\n0 want rebuild 0 " ++ decimal (length (places disk)) ++ 10 ∷ []

-- the calls of its two lines
abbrev pub rebuild_calls : Shape → List Call
rebuild_calls disk =
    record { line = 1; instant = 0; task = 0; action = Open Backup 1 16 }
    ∷ record { line = 2; instant = 0; task = 0; action = Want 0 (length (places disk)) }
    ∷ []

-- the number of blocks of at most 16 sectors into which the whole disk is cut
abbrev pub disk_blocks : Shape → ℕ
disk_blocks disk = blocks_in disk 16 (Want 0 (length (places disk)))

-- what the script reads as: one task with these calls, or too many blocks on line 2
abbrev pub rebuild_reading : Shape → Result Accepted CallsFault
rebuild_reading disk = if are_too_many 0 (disk_blocks disk)
    then Err (fault_at 2 TooManyBlocks)
    else Ok (record { names = codes "rebuild" ∷ []; calls = rebuild_calls disk })
