-- The calls that take effect at a decision, and what is chosen and tested there before the head acts.
use Rattle.std.specs.Prelude.{◌≡◌, ◌<◌, ◌^◌, ℕ, List, [], ◌++◌, length, map, IfSome, slice_get}
use Rattle.fb_units.specs.Rising.{IsRising}
use Rattle.fb_geometry.specs.Shape.{Shape}
use Rattle.fb_script.specs.declared.call.Call.{Call}
use Rattle.fb_script.specs.Allowed.{AreAllowed}
use Rattle.fb_rows.specs.declared.back.BackRow.{BackRow}
use Rattle.fb_model.specs.History.{Past}
use Rattle.fb_model.specs.Steps.{chosen_by}
use Rattle.fb_tasks.specs.Taken.{test_rows_found}
use Rattle.fb_tasks.specs.Telling.{tested_at}
pub use Rattle.fb_tasks.specs.Script.{IsCalled}
use Rattle.fb_decide.specs.declared.background.Background.{Background}
use Rattle.fb_decide.specs.Deliveries.{TellsUpToDate}

-- calls in order of instant, each of which keeps the rules behind those before it
pub record IsScriptOf (disk : Shape) (calls : List Call) : Type 0 where
  pub instants : IsRising (map (λ call. call.instant) calls)
  pub allowed : AreAllowed disk [] calls
  pub few : length calls < 2 ^ 32

-- the rows of the test after the calls and choices of an instant
abbrev pub test_rows_by : Shape → List Call → Past → ℕ → List BackRow
test_rows_by disk calls past now = test_rows_found (chosen_by disk calls past now) now

-- after that test
abbrev pub tested_by : Shape → List Call → Past → ℕ → Past
tested_by disk calls past now = tested_at (chosen_by disk calls past now) now

-- all calls up to now have taken effect, the tasks have chosen segments, and all tasks were tested
pub record HasPrepared (disk : Shape) (calls : List Call) (past : Past) (now later : ℕ) (rows : List BackRow)
    (after : Background) : Type 0 where
  pub current : TellsUpToDate disk (tested_by disk calls past now) after
  pub called : IsCalled disk calls (tested_by disk calls past now) later
  pub rows_after : after.rows ≡ rows ++ test_rows_by disk calls past now
  pub ahead : IfSome (slice_get calls later) (λ call. now < call.instant)
