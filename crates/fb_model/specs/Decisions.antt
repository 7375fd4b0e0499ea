-- The decision instants, and what the head does from each of them.
use Rattle.std.specs.Prelude.{ℕ, max, List, [], ◌∷◌, ◌++◌, nat_le, nat_lt, filter, map, if◌then◌else◌}
use Rattle.std.specs.List.{fold}
use Rattle.fb_units.specs.declared.types.Track.{Track}
use Rattle.fb_service.specs.declared.disk.Disk.{Disk}
use Rattle.fb_rows.specs.declared.gap.Dwell.{Dwell}
use Rattle.fb_rows.specs.declared.gap.Plan.{Plan}
use Rattle.fb_model.specs.PlainReplay.{Served, finish, last_track, first_track}
use Rattle.fb_model.specs.Inputs.{Inputs, requests, served}

-- a decision: a request is served, the head stays on its track, or the run ends
pub data Decision : Type 0 where
  serves : Served → Decision
  idles : Dwell → Decision
  ends : ℕ → Decision

-- what is done at a decision: the request is served after a plan for its gap, the head stays on its track, or the run ends
pub data Act : Type 0 where
  serving : Served → Plan → Act
  idling : Dwell → Act
  ending : ℕ → Act

-- the decision at which that is done
abbrev pub decision_of : Act → Decision
decision_of (serving served plan) = serves served
decision_of (idling dwell) = idles dwell
decision_of (ending now) = ends now

-- when a decision is made
abbrev pub instant_of : Decision → ℕ
instant_of (serves served) = served.start
instant_of (idles dwell) = dwell.begin
instant_of (ends now) = now

-- when what was decided is over
abbrev pub end_of : Decision → ℕ
end_of (serves served) = finish served
end_of (idles dwell) = dwell.end
end_of (ends now) = now

-- an instant put in its place among ascending ones
abbrev pub among : List ℕ → ℕ → List ℕ
among [] instant = instant ∷ []
among (first ∷ instants) instant = if nat_le first instant then first ∷ among instants instant else instant ∷ first ∷ instants

-- the instants of all arrivals and calls, ascending
abbrev pub instants_of : Inputs → List ℕ
instants_of inputs = fold among (map (λ request. request.arrival) (requests inputs)) (map (λ call. call.instant) inputs.calls)

-- idle dwells from now on, each until the next of the instants
abbrev pub idle_until : Track → ℕ → List ℕ → List Decision
idle_until head now [] = []
idle_until head now (instant ∷ instants) = if nat_lt now instant
    then idles (record { track = head; begin = now; end = instant }) ∷ idle_until head instant instants
    else idle_until head now instants

-- the last decision
abbrev pub last_decision : Track → ℕ → ℕ → Decision
last_decision head now until = if nat_lt now until then idles (record { track = head; begin = now; end = until }) else ends now

-- idle dwells up to a request's start, its service, idle dwells up to the next one's start, and so on
unfoldable pub decisions_from : Disk → List ℕ → ℕ → Track → ℕ → List Served → List Decision
decisions_from disk instants until head now [] = idle_until head now instants ++ last_decision head (fold max now instants) until ∷ []
decisions_from disk instants until head now (served ∷ later) =
    idle_until head now (filter (λ instant. nat_le instant served.start) instants)
    ++ serves served ∷ decisions_from disk instants until (last_track disk served) (finish served) later

-- all decisions of a run, from instant 0 and the first track on
unfoldable pub decisions : Inputs → List Decision
decisions inputs = decisions_from inputs.disk (instants_of inputs) inputs.until first_track 0 (served inputs)

-- the end of the last idle or foreground row, or 0
abbrev pub run_end : List Decision → ℕ
run_end decisions = fold (λ end decision. end_of decision) 0 decisions
