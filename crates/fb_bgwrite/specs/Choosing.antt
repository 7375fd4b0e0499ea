-- The search for the best spill of a gap: what is known of the best so far.
use Rattle.std.specs.Prelude.{◌≡◌, ◌⊎◌, ℕ, ◌+◌, ◌*◌, ◌/◌, ◌^◌, ◌<◌, ◌≤◌, List, true, map, Option, Some, None, slice_get}
use Rattle.fb_units.specs.declared.types.Track.{Track}
use Rattle.fb_geometry.specs.Shape.{slots_at, IsTrackOf}
use Rattle.fb_seek.specs.Positioning.{pos}
use Rattle.fb_service.specs.declared.disk.Disk.{Disk}
use Rattle.fb_wanted.specs.declared.block.Block.{Block}
use Rattle.fb_wanted.specs.declared.block.Entry.{Entry}
use Rattle.fb_wanted.specs.declared.offer.Offer.{Offer}
use Rattle.fb_wanted.specs.States.{wanted_of}
use Rattle.fb_rows.specs.declared.gap.Gap.{Gap}
use Rattle.fb_plan.specs.declared.turning.Turning.{Turning}
use Rattle.fb_plan.specs.Turns.{end_of}
use Rattle.fb_plan.specs.Ways.{AreOnDisk}
use Rattle.fb_detour.specs.Bounds.{slots_within}
use Rattle.fb_bgwrite.specs.declared.choice.Spill.{Spill}
use Rattle.fb_bgwrite.specs.declared.choice.Valued.{Valued}
use Rattle.fb_puts.specs.declared.range.SectorRange.{SectorRange}
use Rattle.fb_bgwrite.specs.declared.search.Moves.{Moves}
use Rattle.fb_bgwrite.specs.declared.search.Part.{Part}
use Rattle.fb_bgwrite.specs.declared.search.Search.{Search}
use Rattle.fb_puts.specs.Ranges.{AreApart}
use Rattle.fb_bgwrite.specs.Shortest.{AreLight}
use Rattle.fb_bgwrite.specs.Spilling.{value, IsBest, IsNoLater, IsSpill, WritesNothing}

-- a gap between tracks of the disk that doesn't end too late to be computed
pub record IsGap (disk : Disk) (gap : Gap) : Type 0 where
  pub source : IsTrackOf disk.map gap.source
  pub target : IsTrackOf disk.map gap.target
  pub forward : gap.now ≤ gap.deadline
  pub early : gap.deadline ≤ 9 * 10 ^ 18

-- the sectors of a block
abbrev pub block_range : Block → SectorRange
block_range block = record { first = block.lbn; count = block.count }

-- the registered blocks are on the disk, weigh 1 a sector, and no two of them share a sector
pub record ArePending (disk : Disk) (entries : List Entry) : Type 0 where
  pub on_disk : AreOnDisk disk entries
  pub light : AreLight entries
  pub apart : AreApart (map (λ entry. block_range entry.block) entries)

-- a spill of the gap that writes so many sectors
pub record IsValued (disk : Disk) (gap : Gap) (pending : List Block) (best : Valued) : Type 0 where
  pub is_spill : IsSpill disk gap best.spill
  pub value_is : best.value ≡ value disk gap pending best.spill
  pub some : 0 < best.value

abbrev pub IsValuedIf : Disk → Gap → List Block → Option Valued → Type 0
IsValuedIf disk gap pending None = Unit {0}
IsValuedIf disk gap pending (Some best) = IsValued disk gap pending best

-- of greater value, or of the same and no later in the order of ties
abbrev pub IsNoWorseValued : Valued → Valued → Type 0
IsNoWorseValued a b = (b.value < a.value) ⊎ ((b.value ≡ a.value) × IsNoLater a.spill b.spill)

-- the best so far is at least as good as the spill; where there is none, the spill writes nothing
abbrev pub IsNoWorse : Disk → Gap → List Block → Option Valued → Spill → Type 0
IsNoWorse disk gap pending None other = value disk gap pending other ≡ 0
IsNoWorse disk gap pending (Some best) other =
    (value disk gap pending other < best.value) ⊎ ((value disk gap pending other ≡ best.value) × IsNoLater best.spill other)

-- the second is at least as good as each spill that the first is at least as good as
abbrev pub Keeps : Disk → Gap → List Block → Option Valued → Option Valued → Type 0
Keeps disk gap pending old new = (other : Spill) → IsNoWorse disk gap pending old other → IsNoWorse disk gap pending new other

-- the best so far is at least as good as each spill of the gap on the track
abbrev pub IsNoWorseThanTrack : Disk → Gap → List Block → Option Valued → Track → Type 0
IsNoWorseThanTrack disk gap pending best track = (leave : ℕ)
    → (let spill : Spill = record { track = track; leave = leave } in IsSpill disk gap spill → IsNoWorse disk gap pending best spill)

-- and on each track of these cylinders
abbrev pub IsNoWorseThanTracks : Disk → Gap → List Block → Option Valued → ℕ → ℕ → Type 0
IsNoWorseThanTracks disk gap pending best from end = (track : Track) → from ≤ track.cylinder → track.cylinder < end
    → IsNoWorseThanTrack disk gap pending best track

-- at least as good as each spill of this value at most, on a track from this cylinder on
abbrev pub IsEnough : Option Valued → ℕ → ℕ → Type 0
IsEnough None most from = most ≡ 0
IsEnough (Some best) most from = (most < best.value) ⊎ ((most ≤ best.value) × (best.spill.track.cylinder < from))

-- no spill on the track writes more sectors
abbrev pub IsMostOn : Disk → Gap → List Block → Track → ℕ → Type 0
IsMostOn disk gap pending track most = (leave : ℕ)
    → (let spill : Spill = record { track = track; leave = leave } in IsSpill disk gap spill → value disk gap pending spill ≤ most)

-- nor more than their bound on a track of these cylinders
abbrev pub IsMost : Disk → Gap → List Block → Part → Type 0
IsMost disk gap pending part = (track : Track) → part.from ≤ track.cylinder → track.cylinder < part.end
    → IsMostOn disk gap pending track part.most

-- on these cylinders no spill writes anything but on those of the part
abbrev pub IsOnly : Disk → Gap → List Block → ℕ → ℕ → Part → Type 0
IsOnly disk gap pending from end part = (track : Track) → from ≤ track.cylinder → track.cylinder < end
    → (track.cylinder < part.from) ⊎ (part.end ≤ track.cylinder) → IsMostOn disk gap pending track 0

-- in any time no more slots pass on a track of these cylinders than it has of these shares, and one
abbrev pub IsShare : Disk → ℕ → ℕ → ℕ → Type 0
IsShare disk from end share = (0 < share)
    × ((cylinder time : ℕ) → from ≤ cylinder → cylinder < end
    → slots_within disk.map.rotation (slots_at disk.map.zones cylinder) time ≤ time / share + 1)

-- lower bounds on the times of both moves of a spill on a track of these cylinders
abbrev pub AreLeast : Disk → Gap → ℕ → ℕ → Moves → Type 0
AreLeast disk gap from end moves = (track : Track) → from ≤ track.cylinder → track.cylinder < end
    → (moves.there ≤ pos disk.mechanism gap.source track true) × (moves.on ≤ pos disk.mechanism track gap.target gap.write)

-- ---- a search: the relations above with its disk, its gap and its blocks still wanted

-- the gap is one of the disk, and so are the registered blocks
pub record IsSearch (search : Search) : Type 0 where
  pub gap : IsGap search.disk.now search.gap.now
  pub blocks : ArePending search.disk.now search.pending.now

-- the cylinders of a part are the disk's, and its bounds hold there
pub record IsPart (search : Search) (part : Part) : Type 0 where
  pub order : part.from ≤ part.end
  pub within : part.end ≤ search.disk.now.mechanism.cylinders
  pub share : IsShare search.disk.now part.from part.end part.share
  pub most : IsMost search.disk.now search.gap.now (wanted_of search.pending.now) part

-- the best so far is a spill of the gap with its value, if there is one
abbrev pub IsFound : Search → Option Valued → Type 0
IsFound search best = IsValuedIf search.disk.now search.gap.now (wanted_of search.pending.now) best

-- the second best of the search is at least as good as each spill that the first is at least as good as
abbrev pub IsKept : Search → Option Valued → Option Valued → Type 0
IsKept search old new = Keeps search.disk.now search.gap.now (wanted_of search.pending.now) old new

-- the best of the search so far is at least as good as each spill of its gap on the track
abbrev pub IsTried : Search → Option Valued → Track → Type 0
IsTried search best track = IsNoWorseThanTrack search.disk.now search.gap.now (wanted_of search.pending.now) best track

-- and on each track of these cylinders
abbrev pub AreTried : Search → Option Valued → ℕ → ℕ → Type 0
AreTried search best from end = IsNoWorseThanTracks search.disk.now search.gap.now (wanted_of search.pending.now) best from end

-- ---- the result

-- the best spill, or none where none writes anything
abbrev pub IsBestIf : Disk → Gap → List Block → Option Valued → Type 0
IsBestIf disk gap pending None = WritesNothing disk gap pending
IsBestIf disk gap pending (Some best) = IsBest disk gap pending best.spill

-- a sweep of one of the offers next ends at this instant
pub record OneEndsAt (turning : Turning) (offers : List Offer) (end : ℕ) : Type 0 where
  pub index : ℕ
  pub offer : Offer
  pub stands : slice_get offers index ≡ Some offer
  pub ends : end_of turning.rotation offer.sweep turning.from ≡ end

-- of the sweeps that end by the latest instant the last ends at this one, which is the first instant of all where none does
pub record IsLastEnd (turning : Turning) (latest : ℕ) (offers : List Offer) (worth last : ℕ) : Type 0 where
  pub from : turning.from ≤ last
  pub upto : last ≤ latest
  pub each : (i : ℕ) (offer : Offer) → slice_get offers i ≡ Some offer → end_of turning.rotation offer.sweep turning.from ≤ latest
      → end_of turning.rotation offer.sweep turning.from ≤ last
  pub reached : ((worth ≡ 0) × (last ≡ turning.from)) ⊎ OneEndsAt turning offers last
