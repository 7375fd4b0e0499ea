-- The best plan of a gap, chosen among few: it is enough to leave a track as the head comes to it, or as a wanted block has passed there.
use Rattle.std.specs.Prelude.{◌≡◌, ℕ, ◌+◌, List, [], ◌∷◌, ◌++◌, Bool, true, false, ◌&&◌, ◌||◌, ◌==◌, nat_le, nat_lt, filter, map}
use Rattle.std.specs.Prelude.{if◌then◌else◌}
use Rattle.std.specs.List.{best_of, flat_map, range_with_len}
use Rattle.fb_units.specs.declared.types.Track.{Track}
use Rattle.fb_units.specs.Tracks.{same_track}
use Rattle.fb_geometry.specs.Shape.{Shape, cylinders_of}
use Rattle.fb_seek.specs.Positioning.{pos}
use Rattle.fb_service.specs.declared.disk.Disk.{Disk}
use Rattle.fb_wanted.specs.declared.block.Block.{Block}
use Rattle.fb_rows.specs.declared.gap.Gap.{Gap}
use Rattle.fb_rows.specs.declared.gap.Plan.{Plan}
use Rattle.fb_rows.specs.declared.gap.Plan.TheVariants.{Direct, Detour}
use Rattle.fb_model.specs.Plans.{block_end, value, IsPlan, IsBest}

-- the tracks of a disk
abbrev pub tracks_of : Shape → List Track
tracks_of disk = flat_map (λ cylinder. map (λ head. record { cylinder = cylinder; head = head }) (range_with_len 0 disk.heads))
    (range_with_len 0 (cylinders_of disk.zones))

-- when to leave a track to which the head has come at an instant: at once, or as a wanted block has passed there, if that is in time
abbrev pub leaves : Disk → Gap → List Block → Track → ℕ → List ℕ
leaves disk gap wanted track come =
    filter (λ leave. nat_le (leave + pos disk.mechanism track gap.target gap.write) gap.deadline)
    (come ∷ map (λ block. block_end disk.map block come) (filter (λ block. same_track track block.track) wanted))

-- the detours over a track that is neither source nor target
abbrev pub detours : Disk → Gap → List Block → Track → List Plan
detours disk gap wanted track = if same_track track gap.source || same_track track gap.target
    then []
    else map (Detour track) (leaves disk gap wanted track (gap.now + pos disk.mechanism gap.source track false))

-- the direct plans and the detours with such leaves
abbrev pub direct_plans : Disk → Gap → List Block → List Plan
direct_plans disk gap wanted = map Direct (leaves disk gap wanted gap.source gap.now)

abbrev pub all_detours : Disk → Gap → List Block → List Plan
all_detours disk gap wanted = flat_map (detours disk gap wanted) (tracks_of disk.map)

-- the first track comes before the second
abbrev pub is_track_before : Track → Track → Bool
is_track_before a b = nat_lt a.cylinder b.cylinder || ((a.cylinder == b.cylinder) && nat_lt a.head b.head)

-- the first plan comes before the second in the order of ties
abbrev pub is_plan_before : Plan → Plan → Bool
is_plan_before (Direct u) (Direct v) = nat_lt u v
is_plan_before (Direct u) (Detour d v) = true
is_plan_before (Detour c u) (Direct v) = false
is_plan_before (Detour c u) (Detour d v) = is_track_before c d || (same_track c d && nat_lt u v)

-- the first plan is better than the second: of greater value, or of the same value and before it
abbrev pub is_better_plan : Disk → Gap → List Block → Plan → Plan → Bool
is_better_plan disk gap wanted a b = nat_lt (value disk gap wanted b) (value disk gap wanted a)
    || ((value disk gap wanted a == value disk gap wanted b) && is_plan_before a b)

-- the best of them and of the plan to leave at once for the target
unfoldable pub best_plan : Disk → Gap → List Block → Plan
best_plan disk gap wanted = best_of (is_better_plan disk gap wanted) (Direct gap.now)
    (direct_plans disk gap wanted ++ all_detours disk gap wanted)

-- it is the best plan of all, over every track and every nanosecond, and no other is
pub record HasOneBest (disk : Disk) (gap : Gap) (wanted : List Block) : Type 0 where
  pub best : IsBest disk gap wanted (best_plan disk gap wanted)
  pub only : (other : Plan) → IsBest disk gap wanted other → other ≡ best_plan disk gap wanted

-- a gap in which the head can go straight to the target has exactly one best plan
abbrev pub BestPlansExist : Type 0
BestPlansExist = (disk : Disk) (gap : Gap) (wanted : List Block) → IsPlan disk gap (Direct gap.now) → HasOneBest disk gap wanted
