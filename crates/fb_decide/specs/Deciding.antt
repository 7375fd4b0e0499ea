-- What one decision makes of where a replay stands.
use Rattle.std.specs.Prelude.{◌≡◌, ◌≤◌, ◌<◌, ◌+◌, ◌-◌, ◌*◌, ◌^◌, ℕ, List, [], ◌∷◌, ◌++◌, Bool, true, false, Option, None, Some, min, length}
use Rattle.std.specs.Prelude.{take, IfSome, slice_get}
use Rattle.std.specs.List.{AllByRecursion}
use Rattle.fb_units.specs.declared.types.Request.{Request}
use Rattle.fb_geometry.specs.Shape.{Shape, IsTrackOf}
use Rattle.fb_geometry.specs.Places.{places}
use Rattle.fb_sectormap.specs.LookUp.{place_at}
use Rattle.fb_service.specs.Passing.{length_of}
use Rattle.fb_service.specs.declared.disk.Disk.{Disk}
use Rattle.fb_service.specs.Service.{passages}
use Rattle.fb_script.specs.declared.call.Call.{Call}
use Rattle.fb_store.specs.Writes.{unwritten}
use Rattle.fb_store.specs.Ranges.{content_in}
use Rattle.fb_tasks.specs.Telling.{Tells}
use Rattle.fb_rows.specs.declared.fore.ForeRow.{ForeRow}
use Rattle.fb_rows.specs.declared.gap.Dwell.{Dwell}
use Rattle.fb_rows.specs.declared.gap.How.TheVariants.{Idle as ByIdle}
use Rattle.fb_rows.specs.declared.back.BackRow.TheVariants.{Idle as BackIdle}
use Rattle.fb_model.specs.PlainReplay.{first_track, service, last_track, finish, first_least}
use Rattle.fb_model.specs.Inputs.{Inputs}
use Rattle.fb_model.specs.History.{Past, wanted}
use Rattle.fb_model.specs.Deliveries.{caught_rows}
use Rattle.fb_decide.specs.declared.background.Background.{Background}
use Rattle.fb_decide.specs.declared.deciding.Course.{Course}
use Rattle.fb_decide.specs.Contents.{left_by, IsRowOf}
use Rattle.fb_decide.specs.RunState.{RunState}
use Rattle.fb_decide.specs.Waiting.{left, IsWaiting, IsForegroundOf}
use Rattle.fb_decide.specs.Deliveries.{TellsUpToDate, HasDelivered, HasServed, held_now}
use Rattle.fb_decide.specs.Calls.{HasPrepared, IsScriptOf}

-- each sector of the disk takes some time to pass
abbrev pub PassagesTakeTime : Shape → Type 0
PassagesTakeTime disk = (lbn : ℕ) → lbn < length (places disk) → 0 < length_of disk (place_at disk lbn)

-- no sector was written, no task opened, nothing served
pub record IsInitial (latent : List ℕ) (course : Course) : Type 0 where
  pub unwritten_yet : (lbn : ℕ) → content_in course.store lbn ≡ unwritten latent lbn
  pub none_opened : (disk : Shape) → Tells disk [] course.background.sessions []
  pub none_wanted : course.background.blocks ≡ []
  pub none_joined : course.joined ≡ 0
  pub none_called : course.called ≡ 0
  pub first_head : course.head ≡ first_track
  pub first_instant : course.now ≡ 0

-- the earlier one of the next arrival and the next call
abbrev pub next_of : Option Request → Option Call → Option ℕ
next_of None None = None
next_of (Some request) None = Some request.arrival
next_of None (Some call) = Some call.instant
next_of (Some request) (Some call) = Some (min request.arrival call.instant)

-- a request was served, from where the head was before and from that instant on
pub record HasServedNext (disk : Disk) (request : Request) (before after : Course) : Type 0 where
  pub row : ForeRow
  pub is_row : IsRowOf before.store (service disk before.head before.now request) row
  pub more : after.fore ≡ before.fore ++ row ∷ []
  pub contents : (lbn : ℕ) → content_in after.store lbn ≡ left_by request lbn (content_in before.store lbn)
  pub stands : after.head ≡ last_track disk (service disk before.head before.now request)
  pub finished : after.now ≡ finish (service disk before.head before.now request)
  pub on_disk : IsTrackOf disk.map after.head
  pub each : AllByRecursion (λ passage. passage.begin < passage.end)
      (passages disk before.head before.now request.write request.lbn request.count)
  pub later : before.now < after.now
  pub soon : after.now ≤ before.now + 2048 * (4 * 10 ^ 9)
  pub served : (past : Past) → TellsUpToDate disk.map past before.background
      → HasServed disk before.store past (service disk before.head before.now request) before.background.rows after.background
  pub same_joined : after.joined ≡ before.joined
  pub same_called : after.called ≡ before.called

-- the stay from now until an instant
abbrev pub dwell_until : Course → ℕ → Dwell
dwell_until course instant = record { track = course.head; begin = course.now; end = instant }

-- the head stayed until an instant
pub record HasStayed (disk : Disk) (instant : ℕ) (before after : Course) : Type 0 where
  pub delivered : (past : Past) → TellsUpToDate disk.map past before.background
      → HasDelivered disk.map past (caught_rows disk (held_now before.store) ByIdle (dwell_until before instant) (wanted past))
      (before.background.rows ++ BackIdle (dwell_until before instant) ∷ []) after.background
  pub until : after.now ≡ instant
  pub same_store : after.store ≡ before.store
  pub same_fore : after.fore ≡ before.fore
  pub same_head : after.head ≡ before.head
  pub same_joined : after.joined ≡ before.joined
  pub same_called : after.called ≡ before.called

-- the next instant at which a request arrives or a call takes effect
abbrev pub next_instant : Inputs → RunState → Option ℕ
next_instant inputs state = next_of (slice_get state.requests state.course.joined) (slice_get inputs.calls state.course.called)

-- what a decision does: the pick of the waiting requests is served, or the head stays until the next instant or the end;
-- another decision follows each but the last
pub data HasActed (inputs : Inputs) (before : RunState) : Bool → RunState → Type 0 where
  serves_pick : (request : Request) (course : Course) (others : List Request)
      → first_least (inputs.key inputs.disk before.course.head before.course.now) before.pending ≡ Some (request, others)
      → HasServedNext inputs.disk request before.course course
      → HasActed inputs before true (record before { course = course; pending = others })
  stays_on : (instant : ℕ) (course : Course) → before.pending ≡ [] → next_instant inputs before ≡ Some instant
      → HasStayed inputs.disk instant before.course course → HasActed inputs before true (record before { course = course })
  stays_last : (course : Course) → before.pending ≡ [] → next_instant inputs before ≡ None → before.course.now < inputs.until
      → HasStayed inputs.disk inputs.until before.course course → HasActed inputs before false (record before { course = course })
  ends_here : before.pending ≡ [] → next_instant inputs before ≡ None → inputs.until ≤ before.course.now
      → HasActed inputs before false before

-- what a decision needs: requests and calls that a replay can have; whatever waits has arrived; the head is on a track of the disk; and
-- it is so early that one more service ends by 9 * 10^18 ns
pub record MayDecide (inputs : Inputs) (state : RunState) : Type 0 where
  pub requests : IsForegroundOf inputs.disk state.requests
  pub script : IsScriptOf inputs.disk.map inputs.calls
  pub waiting : IsWaiting inputs.disk state
  pub come : AllByRecursion (λ r. r.arrival ≤ state.course.now) (take state.course.joined state.requests)
  pub head : IsTrackOf inputs.disk.map state.course.head
  pub now : state.course.now ≤ 9 * 10 ^ 18 - 10 ^ 15

-- the same course with the background after calls, choices and tests up to now, and with the requests that have joined
abbrev pub ready_to_act : Course → Background → ℕ → ℕ → Course
ready_to_act course background joined called = record course { background = background; joined = joined; called = called }

-- all that is due at an instant has happened: calls have taken effect, with choices and tests, and the requests that have arrived wait
pub record IsReadyToAct (inputs : Inputs) (past : Past) (before ready : RunState) : Type 0 where
  -- nothing but the background and these counts has changed of the course
  pub same : ready.course ≡ ready_to_act before.course ready.course.background ready.course.joined ready.course.called
  pub same_requests : ready.requests ≡ before.requests
  pub test : HasPrepared inputs.disk.map inputs.calls past before.course.now ready.course.called before.course.background.rows
      ready.course.background
  pub same_left : left before.requests ready.course.joined ready.pending ≡ left before.requests before.course.joined before.pending
  pub come : AllByRecursion (λ r. r.arrival ≤ before.course.now) (take ready.course.joined before.requests)
  pub arrived : AllByRecursion (λ r. r.arrival ≤ before.course.now) ready.pending
  pub ahead : IfSome (slice_get before.requests ready.course.joined) (λ r. before.course.now < r.arrival)

-- one decision
pub record HasDecided (inputs : Inputs) (past : Past) (before : RunState) (goes_on : Bool) (after : RunState) : Type 0 where
  pub ready : RunState
  pub is_ready : IsReadyToAct inputs past before ready
  pub acted : HasActed inputs ready goes_on after
