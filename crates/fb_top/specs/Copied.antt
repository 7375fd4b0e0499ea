-- What the copy of an array has of the disk that it is made from.
use Rattle.std.specs.Prelude.{◌≡◌, ℕ, ◌<◌, ◌≤◌, List, Some, slice_get}
use Rattle.fb_store.specs.declared.content.Content.{Content}
use Rattle.fb_store.specs.Runs.{runs_of}
use Rattle.fb_rows.specs.declared.run.Run.{Run}
use Rattle.fb_model.specs.Content.{content, contents_at, medium_of}
use Rattle.fb_model.specs.Inputs.{Inputs}
use Rattle.fb_mirror.specs.Replacement.{contents_after, covered_after, events, held_after}
use Rattle.fb_mirror.specs.Survivor.{IsAtRest, events_by, sectors, survives}
use Rattle.fb_mirror.specs.declared.rebuilt.Rebuilt.{Rebuilt}
use Rattle.fb_desk.specs.View.{DeskView}
use Rattle.fb_words.specs.Command.{ArrayTerms, RebuildTerms}
use Rattle.fb_top.specs.Array.{IsArrayed}
use Rattle.fb_inputs.specs.Devices.{device_inputs}

-- the copy holds what the events of the run gave it; each sector that it got is the disk's, at the run's end and whenever no write is under
-- way; once the rebuild is sealed, that is every sector
pub record IsCopyOf (inputs : Inputs) (run : Run) (copy : Rebuilt) : Type 0 where
  pub contents : copy.content ≡ contents_after (events run) (sectors inputs)
  pub count : copy.covered ≡ covered_after (events run) (sectors inputs)
  pub covered : (lbn : ℕ) (held : Content) → held_after (events run) lbn ≡ Some held → held ≡ survives inputs run lbn
  pub covered_at_rest : (t lbn : ℕ) (held : Content) → IsAtRest t run → held_after (events_by t run) lbn ≡ Some held
      → held ≡ content (medium_of inputs) lbn t
  pub whole : (instant : ℕ) → copy.sealed ≡ Some instant
      → (copy.covered ≡ sectors inputs) × (copy.content ≡ runs_of (contents_at (medium_of inputs) 0 (sectors inputs) run.end))
  pub stays_whole : (instant t lbn : ℕ) → copy.sealed ≡ Some instant → instant ≤ t → IsAtRest t run → lbn < sectors inputs
      → held_after (events_by t run) lbn ≡ Some (content (medium_of inputs) lbn t)

-- the copy of each array is that of the disk that the rebuild is made from
abbrev pub CopiesAreTheSurvivors : Type 0
CopiesAreTheSurvivors = (old new : DeskView) (terms : ArrayTerms) (rebuild : RebuildTerms) (runs : List Run) (run : Run) (copy : Rebuilt)
    (arrayed : IsArrayed old new terms runs (Some copy))
    → terms.rebuild ≡ Some rebuild → (at : slice_get runs rebuild.device ≡ Some run)
    → IsCopyOf (device_inputs terms arrayed.are_runs.array rebuild.device (arrayed.are_runs.each rebuild.device run at).trace) run copy
