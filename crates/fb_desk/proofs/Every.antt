-- What holds of each input.
use Rattle.fb_desk.specs.declared.desk.Input.{Input}
use Rattle.fb_desk.specs.declared.desk.Input.TheVariants.{Params, Trace, Calls, Puts, ForeReport, BackReport}
use Rattle.fb_desk.specs.declared.each.EachInput.{EachInput}
use Rattle.fb_desk.specs.Each.{of_input, with_input}

-- what holds of the value of each input, and of a new value, holds of each input when one of them has the new value
pub every-with_input : {T : Type 0} (P : T → Type 0) (each : EachInput T) (which : Input) (thing : T)
    → ((other : Input) → P (of_input each other)) → P thing
    → (other : Input) → P (of_input (with_input each which thing) other)
every-with_input P each Params thing all here =
    elim [
      | Params ↦ here
      | Trace ↦ all Trace
      | Calls ↦ all Calls
      | Puts ↦ all Puts
      | ForeReport ↦ all ForeReport
      | BackReport ↦ all BackReport
    ]
every-with_input P each Trace thing all here =
    elim [
      | Params ↦ all Params
      | Trace ↦ here
      | Calls ↦ all Calls
      | Puts ↦ all Puts
      | ForeReport ↦ all ForeReport
      | BackReport ↦ all BackReport
    ]
every-with_input P each Calls thing all here =
    elim [
      | Params ↦ all Params
      | Trace ↦ all Trace
      | Calls ↦ here
      | Puts ↦ all Puts
      | ForeReport ↦ all ForeReport
      | BackReport ↦ all BackReport
    ]
every-with_input P each Puts thing all here =
    elim [
      | Params ↦ all Params
      | Trace ↦ all Trace
      | Calls ↦ all Calls
      | Puts ↦ here
      | ForeReport ↦ all ForeReport
      | BackReport ↦ all BackReport
    ]
every-with_input P each ForeReport thing all here =
    elim [ Params ↦ all Params | Trace ↦ all Trace | Calls ↦ all Calls | Puts ↦ all Puts | ForeReport ↦ here | BackReport ↦ all BackReport ]
every-with_input P each BackReport thing all here =
    elim [ Params ↦ all Params | Trace ↦ all Trace | Calls ↦ all Calls | Puts ↦ all Puts | ForeReport ↦ all ForeReport | BackReport ↦ here ]
