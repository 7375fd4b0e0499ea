-- What the printer needs of full runs and of scripts.
use Rattle.std.specs.Prelude.{◌≡◌, ℕ, List, Ok}
use Rattle.std.specs.List.{AllByRecursion}
use Rattle.fb_geometry.specs.Shape.{Shape}
use Rattle.fb_calls.specs.Reading.{Accepted, calls_of}
use Rattle.fb_rows.specs.declared.run.Run.{Run}
use Rattle.fb_model.specs.Inputs.{Inputs}
use Rattle.fb_model.specs.Accepted.{IsAccepted}
use Rattle.fb_model.specs.FullRun.{IsFull}
use Rattle.fb_report.specs.Printed.{ReadsSectors, CountsSectors, AreNames}

-- in each full run of accepted inputs reads and deliveries have a sector, and sealed images fewer than 2^64
abbrev pub RunsCanBePrinted : Type 0
RunsCanBePrinted = (inputs : Inputs) (run : Run) → IsAccepted inputs → IsFull inputs run
    → AllByRecursion ReadsSectors run.fore × AllByRecursion CountsSectors run.back

-- each task of a script that was read has a name
abbrev pub ScriptsNameTasks : Type 0
ScriptsNameTasks = (disk : Shape) (traced : ℕ) (text : List ℕ) (script : Accepted) → calls_of disk traced text ≡ Ok script
    → AreNames script.names
