-- The requests between two decisions.
use Rattle.std.specs.Prelude.{◌≡◌, ℕ, ◌≤◌, ◌^◌, List, [], ◌∷◌, length, ◌++◌, drop}
use Rattle.std.specs.List.{AllByRecursion}
use Rattle.fb_units.specs.declared.types.Request.{Request}
use Rattle.fb_service.specs.declared.disk.Disk.{Disk}
use Rattle.fb_model.specs.Accepted.{IsRequestOf}
use Rattle.fb_decide.specs.RunState.{RunState}

-- the requests that have not been served: those that wait, and those that haven't joined yet
abbrev pub left : List Request → ℕ → List Request → List Request
left requests joined waiting = waiting ++ drop joined requests

-- the requests that wait have arrived, and lie on the disk
pub record IsWaiting (disk : Disk) (state : RunState) : Type 0 where
  pub within : state.course.joined ≤ length state.requests
  pub counted : state.joined ≡ state.course.joined
  pub arrived : AllByRecursion (λ r. r.arrival ≤ state.course.now) state.pending
  pub on_disk : AllByRecursion (IsRequestOf disk.map) (left state.requests state.course.joined state.pending)

-- requests in order of arrival
abbrev pub AreByArrival : List Request → Type 0
AreByArrival [] = Unit {0}
AreByArrival (request ∷ requests) = AllByRecursion (λ other. request.arrival ≤ other.arrival) requests × AreByArrival requests

-- requests that the disk can serve, by arrival
pub record IsForegroundOf (disk : Disk) (requests : List Request) : Type 0 where
  pub order : AreByArrival requests
  pub on_disk : AllByRecursion (IsRequestOf disk.map) requests
  pub few : length requests ≤ 10 ^ 6
