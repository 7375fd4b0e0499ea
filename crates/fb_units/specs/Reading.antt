-- What the result of a reader says of what it read.
use Rattle.std.specs.Prelude.{◌≡◌, Result, Ok, Err}
use Rattle.fb_units.specs.declared.read_error.ReadError.{ReadError}
use Rattle.fb_units.specs.declared.read_error.ReadError.TheVariants.{Fault, NoMemory}

-- the result is the verdict, or it is out of memory
abbrev pub Answers : {A B F : Type 0} → (A → B) → Result A (ReadError F) → Result B F → Type 0
Answers seen (Ok a) verdict = verdict ≡ Ok (seen a)
Answers seen (Err (Fault fault)) verdict = verdict ≡ Err fault
Answers seen (Err NoMemory) verdict = Unit {0}
