-- Pending blocks of a track by the angle at which they begin.
use Rattle.std.specs.Prelude.{◌≡◌, ◌⊎◌, ℕ, ◌+◌, ◌*◌, ◌^◌, ◌<◌, ◌≤◌, List, map, take, length, Option, Some, slice_get, Vec}
use Rattle.std.specs.Global.{Global}
use Rattle.std.specs.List.{sum_by}
use Rattle.std.specs.List.Sorted.{IsNonDecreasingBy}
use Rattle.std.specs.Ordering.{nat_cmp}
use Rattle.std.specs.BTreeMap.{BTreeMap, get}
use Rattle.fb_units.specs.declared.types.Sweep.{Sweep}
use Rattle.fb_units.specs.declared.types.Track.{Track}
use Rattle.fb_wanted.specs.declared.block.Block.{Block}
use Rattle.fb_wanted.specs.declared.block.Entry.{Entry}
use Rattle.fb_wanted.specs.declared.offer.Offer.{Offer}
use Rattle.fb_wanted.specs.States.{on_track, wanted_of}
use Rattle.fb_plan.specs.declared.turning.Turning.{Turning}
use Rattle.fb_plan.specs.Turns.{added, begin_of, end_of, passes_by}
use Rattle.fb_wanted.specs.Offers.{AreOffers}
use Rattle.fb_bgwrite.specs.Choosing.{IsLastEnd, OneEndsAt}
use Rattle.fb_bgwrite.specs.declared.spots.Spot.{Spot}

-- none begins at a lesser angle than one before it
abbrev pub AreByAngle : List Spot → Type 0
AreByAngle spots = IsNonDecreasingBy (λ (spot : Spot). spot.sweep.begin) spots

-- a measure of how blocks pass and what they are worth, summed over spots
abbrev pub over_spots : (Sweep → ℕ → ℕ) → List Spot → ℕ
over_spots measure spots = sum_by (λ (spot : Spot). measure spot.sweep spot.worth) spots

-- and over the pending blocks
abbrev pub over_pending : (Sweep → ℕ → ℕ) → List Entry → ℕ
over_pending measure entries = sum_by (λ (b : Block). measure b.sweep (b.weight * b.count)) (wanted_of entries)

-- the spots are those of the pending blocks, since each measure has the same sum over both, and they stand by angle
pub record AreSpots (spots : List Spot) (entries : List Entry) : Type 0 where
  pub its : (measure : Sweep → ℕ → ℕ) → over_spots measure spots ≡ over_pending measure entries
  pub by_angle : AreByAngle spots

-- the same where one pending block lacks its spot
pub record LackOne (spots : List Spot) (spot : Spot) (entries : List Entry) : Type 0 where
  pub its : (measure : Sweep → ℕ → ℕ) → over_spots measure spots + measure spot.sweep spot.worth ≡ over_pending measure entries
  pub by_angle : AreByAngle spots

-- the same where one spot, of a block that passes so and is worth so much, is of no pending block
pub record HaveOneMore (spots : List Spot) (sweep : Sweep) (worth : ℕ) (entries : List Entry) : Type 0 where
  pub its : (measure : Sweep → ℕ → ℕ) → over_spots measure spots ≡ over_pending measure entries + measure sweep worth
  pub by_angle : AreByAngle spots

-- the number of a track
abbrev pub key_of : Track → ℕ
key_of track = track.cylinder * 4294967296 + track.head

-- what is kept for a track are the spots of its pending blocks
abbrev pub AreKept : BTreeMap ℕ (Vec Spot Global) → List Entry → Type 0
AreKept kept entries = (track : Track) (spots : Vec Spot Global) → track.head < 2 ^ 32 → get nat_cmp kept (key_of track) ≡ Some spots
    → AreSpots spots.items (on_track track entries)

-- what is kept was kept before, but for the spots with this number
abbrev pub IsKeptWith : BTreeMap ℕ (Vec Spot Global) → BTreeMap ℕ (Vec Spot Global) → ℕ → Option (Vec Spot Global) → Type 0
IsKeptWith old new key spots = (k : ℕ) (kept : Vec Spot Global) → get nat_cmp new k ≡ Some kept
    → (get nat_cmp old k ≡ Some kept) ⊎ ((k ≡ key) × (spots ≡ Some kept))

-- the spots as offers, whose indexes don't matter
abbrev pub as_offers : List Spot → List Offer
as_offers spots = map (λ (spot : Spot). record { sweep = spot.sweep; worth = spot.worth; index = 0 }) spots

-- a stay until the latest instant writes so many sectors of these blocks, the last of which ends then
pub record HasWritten (turning : Turning) (latest : ℕ) (entries : List Entry) (sectors last : ℕ) : Type 0 where
  pub offers : List Offer
  pub its : AreOffers offers entries
  pub sum : sectors ≡ sum_by (added (passes_by turning latest)) offers
  pub is_last : IsLastEnd turning latest offers sectors last

-- of the offers that are looked at none ends in time after the last instant, which is the end of one or else the first instant of all
pub record IsLastOf (turning : Turning) (latest : ℕ) (offers : List Offer) (seen : ℕ → Type 0) (worth last : ℕ) : Type 0 where
  pub from : turning.from ≤ last
  pub upto : last ≤ latest
  pub each : (i : ℕ) (offer : Offer) → seen i → slice_get offers i ≡ Some offer → end_of turning.rotation offer.sweep turning.from ≤ latest
      → end_of turning.rotation offer.sweep turning.from ≤ last
  pub reached : ((worth ≡ 0) × (last ≡ turning.from)) ⊎ OneEndsAt turning offers last

-- what a stay until the latest instant writes of the spots from the n-th on
pub record IsWrittenFrom (turning : Turning) (latest : ℕ) (spots : List Spot) (n sectors last : ℕ) : Type 0 where
  pub sum : sectors + sum_by (added (passes_by turning latest)) (take n (as_offers spots))
      ≡ sum_by (added (passes_by turning latest)) (as_offers spots)
  pub is_last : IsLastOf turning latest (as_offers spots) (λ i. n ≤ i) sectors last
  pub small : sectors + 2 ^ 32 * n ≤ 2 ^ 32 * length spots

-- from one spot up to the end each begins to pass no sooner than the one before it
abbrev pub PassInTurn : Turning → List Spot → ℕ → ℕ → Type 0
PassInTurn turning spots from end = (i j : ℕ) (a b : Spot) → from ≤ i → i ≤ j → j < end → slice_get spots i ≡ Some a
    → slice_get spots j ≡ Some b
    → begin_of turning.rotation a.sweep turning.from ≤ begin_of turning.rotation b.sweep turning.from
