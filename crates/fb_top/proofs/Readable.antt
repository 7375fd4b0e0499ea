-- A full run of accepted files has reports that can be read.
use Rattle.fb_top.proofs.Words.{ℕ, List, Option, Some, None, sym, subst, arith, Disk, Run, DeskView, ReplayTerms, ReadsScript}
use Rattle.fb_top.proofs.Words.{inputs_of_files, key_of, CanBeRead, IsRunOf}
use Rattle.fb_calls.specs.Reading.{Accepted as Script}
use Rattle.fb_report.specs.Printed.{AreNames}
use Rattle.fb_check.proofs.PrintingNames.{scripts_name}
use Rattle.fb_check.proofs.PrintingRows.{can_be_printed}

named : (desk : DeskView) (given : Option (List ℕ)) (disk : Disk) (traced : ℕ) (script : Script) → ReadsScript desk given disk traced script
    → AreNames script.names
named desk None disk traced script reads = subst (λ (s : Script). AreNames s.names) (sym reads) tt
named desk (Some name) disk traced script reads = scripts_name disk.map traced reads.bytes script reads.spells

pub run_can_be_read : (desk : DeskView) (terms : ReplayTerms) (run : Run) (is_run : IsRunOf desk terms run) → CanBeRead is_run.files run
run_can_be_read desk terms run is_run =
    let rows = can_be_printed (inputs_of_files is_run.files (key_of terms.policy) terms.until) run is_run.accepted is_run.full in
    record {
      some_bytes = let bytes = is_run.files.disk.some_bytes in omega arith;
      names = named desk terms.calls is_run.files.disk _ is_run.files.script is_run.accepts.script;
      fore = rows.0;
      back = rows.1;
    }
