-- What the head may write in a gap, and what is best: background writes in the manner of freeblock scheduling.
use Rattle.std.specs.Prelude.{◌≡◌, ◌⊎◌, ℕ, ◌+◌, ◌≤◌, ◌<◌, List, true, filter}
use Rattle.fb_units.specs.declared.types.Track.{Track}
use Rattle.fb_geometry.specs.Shape.{IsTrackOf}
use Rattle.fb_seek.specs.Positioning.{pos}
use Rattle.fb_service.specs.declared.disk.Disk.{Disk}
use Rattle.fb_wanted.specs.declared.block.Block.{Block}
use Rattle.fb_rows.specs.declared.gap.Gap.{Gap}
use Rattle.fb_rows.specs.declared.gap.Dwell.{Dwell}
use Rattle.fb_model.specs.Plans.{catches, IsTrackBefore}
use Rattle.fb_bgwrite.specs.declared.choice.Spill.{Spill}
use Rattle.fb_bgwrite.specs.Blocks.{sectors}

-- when the head is ready to write on a track: it has settled there, unless it was there from the start
abbrev pub ready : Disk → Gap → Track → ℕ
ready disk gap track = gap.now + pos disk.mechanism gap.source track true

-- the head goes to a track, and leaves it at an instant so as to reach the target in time
pub record IsSpill (disk : Disk) (gap : Gap) (spill : Spill) : Type 0 where
  pub on_disk : IsTrackOf disk.map spill.track
  pub after_ready : ready disk gap spill.track ≤ spill.leave
  pub in_time : spill.leave + pos disk.mechanism spill.track gap.target gap.write ≤ gap.deadline

-- the stay in which it writes
abbrev pub dwell_of : Disk → Gap → Spill → Dwell
dwell_of disk gap spill = record { track = spill.track; begin = ready disk gap spill.track; end = spill.leave }

-- how many sectors of pending blocks pass whole in that stay
unfoldable pub value : Disk → Gap → List Block → Spill → ℕ
value disk gap pending spill = sectors (filter (catches disk (dwell_of disk gap spill)) pending)

-- the order of ties: the lesser track, then the earlier leave
abbrev pub IsNoLater : Spill → Spill → Type 0
IsNoLater a b = IsTrackBefore a.track b.track ⊎ ((a.track ≡ b.track) × (a.leave ≤ b.leave))

-- the best spill, among those of every track and every nanosecond; it writes something
pub record IsBest (disk : Disk) (gap : Gap) (pending : List Block) (spill : Spill) : Type 0 where
  pub is_spill : IsSpill disk gap spill
  pub some : 0 < value disk gap pending spill
  pub greatest : (other : Spill) → IsSpill disk gap other → value disk gap pending other ≤ value disk gap pending spill
  pub first : (other : Spill) → IsSpill disk gap other → value disk gap pending other ≡ value disk gap pending spill → IsNoLater spill other

-- no spill writes anything
abbrev pub WritesNothing : Disk → Gap → List Block → Type 0
WritesNothing disk gap pending = (spill : Spill) → IsSpill disk gap spill → value disk gap pending spill ≡ 0
