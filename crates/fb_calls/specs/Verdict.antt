-- What the result of reading says of the text.
use Rattle.std.specs.Prelude.{◌≡◌, Result, Ok, Err}
pub use Rattle.fb_units.specs.Reading.{Answers}
use Rattle.fb_script.specs.declared.call.Calls.{Calls}
use Rattle.fb_calls.specs.Reading.{Accepted}

-- the value of a script
abbrev pub accepted : Calls → Accepted
accepted calls = record { names = calls.names; calls = calls.calls.items }

-- the result of a step that doesn't allocate is the verdict
abbrev pub Agrees : {A B E : Type 0} → (A → B) → Result A E → Result B E → Type 0
Agrees seen (Ok a) verdict = verdict ≡ Ok (seen a)
Agrees seen (Err reason) verdict = verdict ≡ Err reason
