-- The course of a script: its calls take effect one after another.
use Rattle.std.specs.Prelude.{◌≡◌, ◌≤◌, ℕ, ◌+◌, ◌*◌, ◌^◌, List, length, take, drop}
use Rattle.fb_geometry.specs.Shape.{Shape}
use Rattle.fb_script.specs.declared.call.Call.{Call}
use Rattle.fb_script.specs.Allowed.{blocks_from}
use Rattle.fb_model.specs.History.{Past, registered}
use Rattle.fb_tasks.specs.Telling.{calls_of, choosable}

-- the first calls have taken effect, and what all of them can register fits
pub record IsCalled (disk : Shape) (calls : List Call) (past : Past) (next : ℕ) : Type 0 where
  pub within : next ≤ length calls
  pub taken : calls_of past ≡ take next calls
  pub few : length (registered past) + choosable disk past + blocks_from disk (take next calls) (drop next calls) ≤ 16 * 10 ^ 6
