-- The course of a script: its calls take effect one after another, and deliveries and writes between them.
use Rattle.std.specs.Prelude.{◌≡◌, ℕ, List, Bool, true}
use Rattle.fb_geometry.specs.Shape.{Shape}
use Rattle.fb_script.specs.declared.call.Call.{Call}
use Rattle.fb_script.specs.Allowed.{IsScript}
use Rattle.fb_wanted.specs.declared.block.Entry.{Entry}
use Rattle.fb_model.specs.History.{Past}
use Rattle.fb_tasks.specs.declared.session.Session.{Session}
use Rattle.fb_tasks.specs.Script.{IsCalled}
use Rattle.fb_tasks.specs.Telling.{Tells, IsUpToDate}

-- the sessions and the registered blocks tell a history in which the first calls have taken effect, and perhaps all was tested
pub record Follows (up_to_date : Bool) (disk : Shape) (calls : List Call) (next : ℕ) (sessions : List Session)
    (held : List Entry) : Type 0 where
  pub script : IsScript disk 0 calls
  pub past : Past
  pub called : IsCalled disk calls past next
  pub tells : Tells disk past sessions held
  pub tested : up_to_date ≡ true → IsUpToDate past
