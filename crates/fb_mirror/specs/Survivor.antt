-- What the replacement has of the survivor.
use Rattle.std.specs.Prelude.{◌≡◌, ◌⊎◌, ℕ, ◌<◌, ◌≤◌, List, length, true, Some, nat_le, filter}
use Rattle.std.specs.List.{AllByRecursion}
use Rattle.fb_geometry.specs.Sound.{IsSound}
use Rattle.fb_geometry.specs.Places.{places}
use Rattle.fb_store.specs.declared.content.Content.{Content}
use Rattle.fb_store.specs.Runs.{runs_of}
use Rattle.fb_rows.specs.declared.run.Run.{Run}
use Rattle.fb_model.specs.Inputs.{Inputs}
use Rattle.fb_model.specs.Accepted.{IsAccepted}
use Rattle.fb_model.specs.Content.{content, contents_at, medium_of}
use Rattle.fb_model.specs.FullRun.{IsFull}
use Rattle.fb_mirror.specs.Replacement.{Event, contents_after, covered_after, events, held_after, IsWithin, sealed_in}
use Rattle.fb_mirror.specs.Script.{rebuild_calls}

-- what a sector of the survivor holds at the end of its run
abbrev pub survives : Inputs → Run → ℕ → Content
survives inputs run lbn = content (medium_of inputs) lbn run.end

-- how many sectors the survivor's disk has
abbrev pub sectors : Inputs → ℕ
sectors inputs = length (places inputs.disk.map)

-- the events of a full run concern sectors of its disk alone
abbrev pub RunsLieOnTheDisk : Type 0
RunsLieOnTheDisk = (inputs : Inputs) (run : Run) → IsAccepted inputs → IsFull inputs run
    → AllByRecursion (IsWithin (sectors inputs)) (events run)

-- a sector that an event concerned holds in the replacement what it holds on the survivor at the run's end
abbrev pub CoveredSectorsAreTheSurvivors : Type 0
CoveredSectorsAreTheSurvivors = (inputs : Inputs) (run : Run) (lbn : ℕ) (held : Content) → IsSound inputs.disk.map → IsAccepted inputs
    → IsFull inputs run
    → held_after (events run) lbn ≡ Some held → held ≡ survives inputs run lbn

-- the events that have taken effect by an instant
abbrev pub events_by : ℕ → Run → List Event
events_by t run = filter (λ event. nat_le event.instant t) (events run)

-- at that instant no write is under way: each has finished, or its first sector hasn't begun to pass
abbrev pub IsAtRest : ℕ → Run → Type 0
IsAtRest t run = AllByRecursion (λ row. row.request.write ≡ true → (row.finish ≤ t) ⊎ (t ≤ row.media)) run.fore

-- a sector that an event concerned by then holds in the replacement what it holds on the survivor then
abbrev pub CoveredSectorsAreTheSurvivorsAtRest : Type 0
CoveredSectorsAreTheSurvivorsAtRest = (inputs : Inputs) (run : Run) (t lbn : ℕ) (held : Content) → IsSound inputs.disk.map
    → IsAccepted inputs → IsFull inputs run → IsAtRest t run
    → held_after (events_by t run) lbn ≡ Some held → held ≡ content (medium_of inputs) lbn t

-- all sectors of the disk are covered, and the replacement is the survivor at the run's end
pub record IsWhole (inputs : Inputs) (run : Run) : Type 0 where
  pub each : (lbn : ℕ) → lbn < sectors inputs → held_after (events run) lbn ≡ Some (survives inputs run lbn)
  pub covered : covered_after (events run) (sectors inputs) ≡ sectors inputs
  pub content : contents_after (events run) (sectors inputs) ≡ runs_of (contents_at (medium_of inputs) 0 (sectors inputs) run.end)

-- a rebuild that was sealed has covered all sectors
abbrev pub SealedRebuildsAreWhole : Type 0
SealedRebuildsAreWhole = (inputs : Inputs) (run : Run) (instant : ℕ) → IsSound inputs.disk.map → IsAccepted inputs → IsFull inputs run
    → inputs.calls ≡ rebuild_calls inputs.disk.map
    → sealed_in run.back ≡ Some instant → IsWhole inputs run

-- and from the seal on, at each instant at which no write is under way, the replacement is the survivor then
abbrev pub SealedRebuildsStayWhole : Type 0
SealedRebuildsStayWhole = (inputs : Inputs) (run : Run) (sealed t : ℕ) → IsSound inputs.disk.map → IsAccepted inputs → IsFull inputs run
    → inputs.calls ≡ rebuild_calls inputs.disk.map
    → sealed_in run.back ≡ Some sealed → sealed ≤ t → IsAtRest t run → (lbn : ℕ) → lbn < sectors inputs
    → held_after (events_by t run) lbn ≡ Some (content (medium_of inputs) lbn t)
