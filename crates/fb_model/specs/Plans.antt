-- Plans for a gap, what they catch, and the best one: freeblock scheduling (Lumb and others, OSDI 2000; Lumb, Schindler and Ganger, FAST
-- 2002).
use Rattle.std.specs.Prelude.{◌≡◌, ◌⊎◌, ℕ, ◌+◌, ◌-◌, ◌*◌, ◌%◌, ◌≤◌, ◌<◌, List, Bool, false, ◌&&◌, ◌||◌, nat_le, filter}
use Rattle.std.specs.List.{sum_by}
use Rattle.fb_units.specs.declared.types.Track.{Track}
use Rattle.fb_units.specs.Wait.{wait}
use Rattle.fb_units.specs.Tracks.{same_track}
use Rattle.fb_geometry.specs.Shape.{Shape, IsTrackOf}
use Rattle.fb_sectormap.specs.LookUp.{place_at}
use Rattle.fb_seek.specs.Positioning.{pos}
use Rattle.fb_service.specs.declared.disk.Disk.{Disk}
use Rattle.fb_service.specs.Passing.{end_angle, begin_from}
use Rattle.fb_wanted.specs.declared.block.Block.{Block}
use Rattle.fb_rows.specs.declared.gap.Gap.{Gap}
use Rattle.fb_rows.specs.declared.gap.Dwell.{Dwell}
use Rattle.fb_rows.specs.declared.gap.Plan.{Plan}
use Rattle.fb_rows.specs.declared.gap.Plan.TheVariants.{Direct, Detour}

-- a detour over another track, which the head leaves at an instant so as to reach the target in time
pub record IsDetour (disk : Disk) (gap : Gap) (track : Track) (leave : ℕ) : Type 0 where
  pub on_disk : IsTrackOf disk.map track
  pub not_source : same_track track gap.source ≡ false
  pub not_target : same_track track gap.target ≡ false
  pub after_arrival : gap.now + pos disk.mechanism gap.source track false ≤ leave
  pub in_time : leave + pos disk.mechanism track gap.target gap.write ≤ gap.deadline

-- the plan is one of the gap's
abbrev pub IsPlan : Disk → Gap → Plan → Type 0
IsPlan disk gap (Direct leave) = (gap.now ≤ leave) × (leave + pos disk.mechanism gap.source gap.target gap.write ≤ gap.deadline)
IsPlan disk gap (Detour track leave) = IsDetour disk gap track leave

-- where the head waits before it leaves for the target
abbrev pub early_dwell : Disk → Gap → Plan → Dwell
early_dwell disk gap (Direct leave) = record { track = gap.source; begin = gap.now; end = leave }
early_dwell disk gap (Detour track leave) =
    record { track = track; begin = gap.now + pos disk.mechanism gap.source track false; end = leave }

-- and where it waits on the target
abbrev pub late_dwell : Disk → Gap → Plan → Dwell
late_dwell disk gap (Direct leave) =
    record { track = gap.target; begin = leave + pos disk.mechanism gap.source gap.target gap.write; end = gap.deadline }
late_dwell disk gap (Detour track leave) =
    record { track = gap.target; begin = leave + pos disk.mechanism track gap.target gap.write; end = gap.deadline }

-- a block's passage from t on: its first slot begins, and then its last slot ends
abbrev pub block_begin : Shape → Block → ℕ → ℕ
block_begin disk block t = begin_from disk (place_at disk block.lbn) t

-- when that passage ends
abbrev pub block_end : Shape → Block → ℕ → ℕ
block_end disk block t =
    let after = block_begin disk block t + 1 in
    after + wait disk.rotation (end_angle disk (place_at disk (block.lbn + block.count - 1)) % disk.rotation) after

-- the block passes whole while the head stays
abbrev pub catches : Disk → Dwell → Block → Bool
catches disk dwell block = same_track dwell.track block.track && nat_le (block_end disk.map block dwell.begin) dwell.end

-- one of the plan's two dwells catches the block
abbrev pub is_caught : Disk → Gap → Plan → Block → Bool
is_caught disk gap plan block = catches disk (early_dwell disk gap plan) block || catches disk (late_dwell disk gap plan) block

-- weight times sectors of the wanted blocks that a plan catches
unfoldable pub value : Disk → Gap → List Block → Plan → ℕ
value disk gap wanted plan = sum_by (λ block. block.weight * block.count) (filter (is_caught disk gap plan) wanted)

-- tracks come by cylinder, then by head
abbrev pub IsTrackBefore : Track → Track → Type 0
IsTrackBefore a b = (a.cylinder < b.cylinder) ⊎ ((a.cylinder ≡ b.cylinder) × (a.head < b.head))

-- the order of ties between plans of the same value: direct plans before detours, then the lesser track, then the earlier leave
abbrev pub IsNoLater : Plan → Plan → Type 0
IsNoLater (Direct u) (Direct v) = u ≤ v
IsNoLater (Direct u) (Detour d v) = Unit {0}
IsNoLater (Detour c u) (Direct v) = ⊥
IsNoLater (Detour c u) (Detour d v) = IsTrackBefore c d ⊎ ((c ≡ d) × (u ≤ v))

-- the plan is at least as good as the other: of greater value, or of the same value and not behind it in the order of ties
abbrev pub IsNoWorse : Disk → Gap → List Block → Plan → Plan → Type 0
IsNoWorse disk gap wanted plan other = (value disk gap wanted other < value disk gap wanted plan)
    ⊎ ((value disk gap wanted other ≡ value disk gap wanted plan) × IsNoLater plan other)

-- the best plan, among those of every track and every nanosecond
pub record IsBest (disk : Disk) (gap : Gap) (wanted : List Block) (plan : Plan) : Type 0 where
  pub is_plan : IsPlan disk gap plan
  pub greatest : (other : Plan) → IsPlan disk gap other → value disk gap wanted other ≤ value disk gap wanted plan
  pub first : (other : Plan) → IsPlan disk gap other → value disk gap wanted other ≡ value disk gap wanted plan → IsNoLater plan other
