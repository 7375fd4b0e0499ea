-- The best spill of a gap, chosen among few: it is enough to leave a track as the head is ready there, or as a pending block has passed.
use Rattle.std.specs.Prelude.{◌≡◌, List, [], ◌∷◌, Bool, ◌&&◌, ◌||◌, ◌==◌, nat_lt, filter, map, Option, Some, None}
use Rattle.std.specs.List.{best_of, flat_map}
use Rattle.fb_units.specs.declared.types.Track.{Track}
use Rattle.fb_units.specs.Tracks.{same_track}
use Rattle.fb_service.specs.declared.disk.Disk.{Disk}
use Rattle.fb_wanted.specs.declared.block.Block.{Block}
use Rattle.fb_rows.specs.declared.gap.Gap.{Gap}
use Rattle.fb_rows.specs.declared.back.GapRow.{GapRow}
use Rattle.fb_model.specs.BestPlan.{tracks_of, leaves, is_track_before}
use Rattle.fb_bgwrite.specs.declared.choice.Spill.{Spill}
use Rattle.fb_bgwrite.specs.Spilling.{ready, value}
use Rattle.fb_bgwrite.specs.Steps.{IsChosen}

-- the spills on a track with such leaves
abbrev pub spills_on : Disk → Gap → List Block → Track → List Spill
spills_on disk gap pending track =
    map (λ leave. record { track = track; leave = leave }) (leaves disk gap pending track (ready disk gap track))

-- it writes something
abbrev pub writes_some : Disk → Gap → List Block → Spill → Bool
writes_some disk gap pending spill = nat_lt 0 (value disk gap pending spill)

-- those on all tracks that write something
abbrev pub candidates : Disk → Gap → List Block → List Spill
candidates disk gap pending = filter (writes_some disk gap pending) (flat_map (spills_on disk gap pending) (tracks_of disk.map))

-- the first spill comes before the second in the order of ties
abbrev pub is_spill_before : Spill → Spill → Bool
is_spill_before a b = is_track_before a.track b.track || (same_track a.track b.track && nat_lt a.leave b.leave)

-- the first spill is better than the second: of greater value, or of the same value and before it
abbrev pub is_better_spill : Disk → Gap → List Block → Spill → Spill → Bool
is_better_spill disk gap pending a b = nat_lt (value disk gap pending b) (value disk gap pending a)
    || ((value disk gap pending a == value disk gap pending b) && is_spill_before a b)

-- the best of a list, if it isn't empty
abbrev pub best_if_any : (Spill → Spill → Bool) → List Spill → Option Spill
best_if_any better [] = None
best_if_any better (spill ∷ spills) = Some (best_of better spill spills)

-- the best spill that writes something; none where none does
unfoldable pub best_spill : Disk → Gap → List Block → Option Spill
best_spill disk gap pending = best_if_any (is_better_spill disk gap pending) (candidates disk gap pending)

-- it is the best of all, over every track and every nanosecond, or no spill writes anything; and nothing else can be chosen
pub record HasOneChoice (disk : Disk) (row : GapRow) (pending : List Block) : Type 0 where
  pub chosen : IsChosen disk row pending (best_spill disk row.gap pending)
  pub only : (other : Option Spill) → IsChosen disk row pending other → other ≡ best_spill disk row.gap pending

-- a gap has exactly one best spill, or none
abbrev pub BestSpillsExist : Type 0
BestSpillsExist = (disk : Disk) (row : GapRow) (pending : List Block) → HasOneChoice disk row pending
