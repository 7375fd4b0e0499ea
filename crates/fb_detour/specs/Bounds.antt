-- Upper bounds on the value of detours.
use Rattle.std.specs.Prelude.{◌≡◌, ℕ, false, true, ◌+◌, ◌-◌, ◌*◌, ◌/◌, ◌%◌, ◌^◌, ◌<◌, ◌≤◌, ◌⊎◌, min, get_or, length, take, List}
use Rattle.std.specs.Prelude.{not, ◌&&◌, if◌then◌else◌}
use Rattle.std.specs.List.{sum_by}
use Rattle.fb_units.specs.declared.types.Sweep.{Sweep}
use Rattle.fb_units.specs.declared.types.Track.{Track}
use Rattle.fb_geometry.specs.Shape.{IsTrackOf}
use Rattle.fb_seek.specs.Mechanics.{Mechanics}
use Rattle.fb_seek.specs.Positioning.{distance_of, pos, seek}
use Rattle.fb_service.specs.declared.disk.Disk.{Disk}
use Rattle.fb_wanted.specs.declared.block.Entry.{Entry}
use Rattle.fb_wanted.specs.declared.offer.Offer.{Offer}
use Rattle.fb_wanted.specs.Offers.{AreOffers}
use Rattle.fb_wanted.specs.States.{is_wanted, on_track, wanted_of}
use Rattle.fb_rows.specs.declared.gap.Dwell.{Dwell}
use Rattle.fb_rows.specs.declared.gap.Gap.{Gap}
use Rattle.fb_rows.specs.declared.gap.Plan.{Plan}
use Rattle.fb_rows.specs.declared.gap.Plan.TheVariants.{Detour}
use Rattle.fb_model.specs.Plans.{catches, value, IsPlan, IsDetour, IsNoLater, IsTrackBefore}
use Rattle.fb_plan.specs.declared.choice.Scored.{Scored}
use Rattle.fb_plan.specs.declared.sides.Sides.{Sides}
use Rattle.fb_plan.specs.declared.turning.Turning.{Turning}
use Rattle.fb_plan.specs.declared.way.Way.{Way}
use Rattle.fb_plan.specs.declared.way.Way.TheVariants.{Over}
use Rattle.fb_plan.specs.Ways.{IsNoWorse, AreOnDisk, IsGap, IsScored, IsWay, plan_by, early_track, arrival, move_on}
use Rattle.fb_plan.specs.Turns.{added, passes_by, longest_stay, AreInTurn, AreSides, IsTurning, Stands}
use Rattle.fb_detour.specs.declared.bins.Bins.{Bins}
use Rattle.fb_detour.specs.declared.bins.Grid.{Grid}
use Rattle.fb_detour.specs.declared.bins.Leaves.{Leaves}
use Rattle.fb_detour.specs.declared.bounds.Moves.{Moves}
use Rattle.fb_detour.specs.declared.bounds.Seeks.{Seeks}
use Rattle.fb_detour.specs.declared.candidates.Trial.{Trial}
use Rattle.fb_detour.specs.declared.given.Search.{Search}
use Rattle.fb_detour.specs.declared.intervals.Ceilings.{Ceilings}
use Rattle.fb_detour.specs.declared.parts.LateParts.{LateParts}
use Rattle.fb_detour.specs.declared.rate.Rate.{Rate}
use Rattle.fb_detour.specs.declared.steps.Reach.{Reach}
use Rattle.fb_detour.specs.declared.stop.Stop.{Stop}

-- what a registered block adds to a stay of the head on its track
abbrev pub stay_gain : Disk → Dwell → Entry → ℕ
stay_gain disk dwell entry =
    if is_wanted entry.state && catches disk dwell entry.block then entry.block.weight * entry.block.count else 0

-- the same platter at another instant
abbrev pub turned_to : Turning → ℕ → Turning
turned_to turning from = record { from = from; at = from % turning.rotation; rotation = turning.rotation }

-- what an offer of the target adds to a stay there from an instant on
abbrev pub late_gain : Turning → Gap → ℕ → Offer → ℕ
late_gain turning gap from = added (passes_by (turned_to turning from) gap.deadline)

-- the worth of an offer that a stay misses, since its sweep doesn't pass whole by the end
abbrev pub missed : Turning → ℕ → Offer → ℕ
missed turning upto = added (λ sweep. not (passes_by turning upto sweep))

-- what a stay catches of its track's blocks
unfoldable pub stay : Disk → Dwell → List Entry → ℕ
stay disk dwell entries = sum_by (stay_gain disk dwell) (on_track dwell.track entries)

-- the stay on the target of a head that comes there at an instant
abbrev pub late_most : Gap → ℕ → Dwell
late_most gap from = record { track = gap.target; begin = from; end = gap.deadline }

-- how long each part of a gap is: 32 of them are longer than the gap
abbrev pub late_step : Gap → ℕ
late_step gap = (gap.deadline - gap.now) / 32 + 1

-- the sum of the first n numbers of a list
abbrev pub sum_of_first : ℕ → List ℕ → ℕ
sum_of_first n numbers = sum_by (λ number. number) (take n numbers)

-- the stay on a track up to an instant
abbrev pub early_to : Track → ℕ → ℕ → Dwell
early_to track arrive upto = record { track = track; begin = arrive; end = upto }

-- the part that the instant lies in
abbrev pub part_at : LateParts → ℕ → ℕ
part_at late from = get_or late.parts (min ((from - late.begin) / late.step) 31) 0

-- each of the first numbers, so many, is at most what all registered blocks can be worth together
abbrev pub AreSmallSums : List ℕ → ℕ → Type 0
AreSmallSums numbers count = (k : ℕ) → k < count → get_or numbers k 0 ≤ 16000000 * 2048000

-- each part bounds what the target can still give from the beginning of that part on, and from its limit on;
-- from the last limit on it gives nothing
pub record IsLate (disk : Disk) (gap : Gap) (entries : List Entry) (late : LateParts) : Type 0 where
  pub some : 0 < late.step
  pub from_now : late.begin ≤ gap.now
  pub each : (k : ℕ) → k < 32 → stay disk (late_most gap (late.begin + k * late.step)) entries ≤ get_or late.parts k 0
  pub small : AreSmallSums late.parts 32
  pub start : get_or late.limits 0 0 ≡ gap.now
  pub limits : (k : ℕ) → k < 32 → stay disk (late_most gap (get_or late.limits k 0)) entries ≤ get_or late.parts k 0
  pub end : stay disk (late_most gap (get_or late.limits 32 0)) entries ≡ 0

-- the gap is one of the disk, all blocks lie on it, and the late parts bound what the target can still give
pub record IsSearch (search : Search) : Type 0 where
  pub gap : IsGap search.disk.now search.gap.now
  pub blocks : AreOnDisk search.disk.now search.wanted.now
  pub late : IsLate search.disk.now search.gap.now search.wanted.now search.late.now

-- a plan of the gap with its value
abbrev pub IsFound : Search → Scored → Type 0
IsFound search found = IsScored search.disk.now search.gap.now (wanted_of search.wanted.now) found

-- the plan is at least as good as the other
abbrev pub IsNoWorseIn : Search → Plan → Plan → Type 0
IsNoWorseIn search plan other = IsNoWorse search.disk.now search.gap.now (wanted_of search.wanted.now) plan other

-- the plan is at least as good as each plan of the way
abbrev pub IsNoWorseThanWay : Search → Way → Plan → Type 0
IsNoWorseThanWay search way plan = (leave : ℕ) → IsPlan search.disk.now search.gap.now (plan_by way leave)
    → IsNoWorseIn search plan (plan_by way leave)

-- the value of a plan of the search's gap
abbrev pub value_in : Search → Plan → ℕ
value_in search plan = value search.disk.now search.gap.now (wanted_of search.wanted.now) plan

-- a detour of that gap over a track
abbrev pub IsDetourIn : Search → Track → ℕ → Type 0
IsDetourIn search track leave = IsDetour search.disk.now search.gap.now track leave

-- the sides are the blocks of the way's track and of the target, all of them on the disk, and where the platter stands on arrival
pub record AreSidesOf (search : Search) (way : Way) (sides : Sides) : Type 0 where
  pub its : AreSides search.disk.now search.gap.now.target search.wanted.now (longest_stay search.disk.now search.gap.now way) sides
  pub early : AreOnDisk search.disk.now sides.early
  pub late : AreOnDisk search.disk.now sides.late

-- the ceiling of the plan that leaves at an instant: what the track gives up to the end of that interval, and the target
-- after the move
abbrev pub ceiling_at : Ceilings → ℕ → ℕ
ceiling_at ceilings leave = get_or ceilings.early (min ((leave - ceilings.begin) / ceilings.step) 15) 0
    + part_at ceilings.late.now (leave + ceilings.move_on)

-- no plan of the way is worth more than its ceiling
pub record AreCeilings (search : Search) (way : Way) (ceilings : Ceilings) : Type 0 where
  pub some : 0 < ceilings.step
  pub begin : ceilings.begin ≡ arrival search.disk.now search.gap.now way
  pub on : ceilings.move_on ≡ move_on search.disk.now search.gap.now way
  pub soon : ceilings.move_on ≤ 2 * 10 ^ 9
  pub late : IsLate search.disk.now search.gap.now search.wanted.now ceilings.late.now
  pub each : (k : ℕ) → k < 16
      → stay search.disk.now (early_to (early_track search.gap.now way) ceilings.begin (ceilings.begin + (k + 1) * ceilings.step))
      search.wanted.now ≤ get_or ceilings.early k 0
  pub upto : search.gap.now.deadline < ceilings.begin + ceilings.move_on + 16 * ceilings.step
  pub close : ceilings.begin + ceilings.move_on + 16 * ceilings.step ≤ search.gap.now.deadline + 16
  pub small : AreSmallSums ceilings.early 16
  pub most : (leave : ℕ) → IsPlan search.disk.now search.gap.now (plan_by way leave)
      → value_in search (plan_by way leave) ≤ ceiling_at ceilings leave

-- so many numbers, each of which is small
pub record IsTable (numbers : List ℕ) (count : ℕ) : Type 0 where
  pub whole : length numbers ≡ count
  pub small : AreSmallSums numbers count

-- the bin in which an instant lies; the last one has no end
abbrev pub bin_at : Grid → ℕ → ℕ
bin_at grid instant = min ((instant - grid.begin) / 2 ^ grid.shift) (grid.bins - 1)

-- there is a bin
pub record IsGrid (grid : Grid) : Type 0 where
  pub some : 0 < grid.bins
  pub short : grid.shift < 64

-- each bin has a first leave, and the head that leaves the track on arrival comes there and to the target within the gap
pub record AreLeaves (search : Search) (leaves : Leaves) : Type 0 where
  pub grid : IsGrid leaves.grid
  pub whole : length leaves.firsts.now ≡ leaves.grid.bins
  pub after : search.gap.now.now ≤ leaves.grid.begin
  pub in_time : leaves.grid.begin + leaves.move_on ≤ search.gap.now.deadline

-- the leave is no earlier than the first one in its bin, so that the bin's bounds hold for it
abbrev pub IsBounded : Leaves → ℕ → Type 0
IsBounded leaves leave = get_or leaves.firsts.now (bin_at leaves.grid leave) 0 ≤ leave

-- the last bins, so many, have no leave from which the head still catches what passes so at the target
abbrev pub AreTooLate : Search → Turning → Leaves → Sweep → ℕ → Type 0
AreTooLate search target leaves sweep bins = (leave : ℕ) → leaves.grid.begin ≤ leave → IsBounded leaves leave
    → passes_by (turned_to target (leave + leaves.move_on)) search.gap.now.deadline sweep ≡ true
    → bins + bin_at leaves.grid leave < leaves.grid.bins

-- what the track and the target give at most to a head that leaves in the instant's bin
abbrev pub bin_ceiling : Bins → ℕ → ℕ
bin_ceiling bins leave = get_or bins.early.now (bin_at bins.leaves.now.grid leave) 0
    + get_or bins.late.now (bins.leaves.now.grid.bins - 1 - bin_at bins.leaves.now.grid leave) 0

-- each bin has a first leave, and two bounds
pub record AreFilled (bins : Bins) : Type 0 where
  pub grid : IsGrid bins.leaves.now.grid
  pub firsts : length bins.leaves.now.firsts.now ≡ bins.leaves.now.grid.bins
  pub early : IsTable bins.early.now bins.leaves.now.grid.bins
  pub late : IsTable bins.late.now bins.leaves.now.grid.bins

-- no plan of the way is worth more than the ceiling of its bin, if it leaves no earlier than that bin's first leave
pub record AreBins (search : Search) (way : Way) (bins : Bins) : Type 0 where
  pub filled : AreFilled bins
  pub most : (leave : ℕ) → IsPlan search.disk.now search.gap.now (plan_by way leave) → IsBounded bins.leaves.now leave
      → value_in search (plan_by way leave) ≤ bin_ceiling bins leave

-- the trial is of a way of the gap, with that way's sides and ceilings
pub record IsTrial (trial : Trial) : Type 0 where
  pub search : IsSearch trial.search.now
  pub way : IsWay trial.search.now.disk.now trial.search.now.gap.now trial.way
  pub sides : AreSidesOf trial.search.now trial.way trial.sides.now
  pub ceilings : AreCeilings trial.search.now trial.way trial.ceilings.now

-- the best so far is at least as good as the plan of the way that leaves then, if that is in time
abbrev pub IsNoBetter : Trial → Plan → ℕ → Type 0
IsNoBetter trial best leave =
    leave + move_on trial.search.now.disk.now trial.search.now.gap.now trial.way ≤ trial.search.now.gap.now.deadline
    → IsNoWorseIn trial.search.now best (plan_by trial.way leave)

-- the stop weighs what its offers are worth together, and each of them passes once a rotation, from where the platter stands on
-- arrival
pub record IsReady (stop : Stop) : Type 0 where
  pub weight : sum_by (λ (offer : Offer). offer.worth) stop.offers.now ≡ stop.weight
  pub small : stop.weight ≤ 16000000 * 2048000
  pub in_turn : AreInTurn stop.turning.rotation stop.offers.now
  pub stands : Stands stop.turning

-- the stop, on a track of the disk, offers what these blocks do, all of which lie on the disk, and its platter is the disk's
pub record IsStop (disk : Disk) (blocks : List Entry) (stop : Stop) : Type 0 where
  pub track : IsTrackOf disk.map stop.track
  pub ready : IsReady stop
  pub its : AreOffers stop.offers.now blocks
  pub on_disk : AreOnDisk disk blocks
  pub turning : IsTurning disk stop.turning

-- the stop is that of the early dwell of plans of the way
abbrev pub IsStopOf : Search → Way → Stop → Type 0
IsStopOf search way stop = IsStop search.disk.now (on_track (early_track search.gap.now way) search.wanted.now) stop

-- what a stop gives to a head that stays up to an instant
abbrev pub offered : Stop → ℕ → ℕ
offered stop upto = sum_by (added (passes_by stop.turning upto)) stop.offers.now

-- how many cylinders a cylinder lies outside a range; 0 inside it
abbrev pub distance_to : ℕ → ℕ → ℕ → ℕ
distance_to from end cylinder = (from - cylinder) + (cylinder + 1 - end)

-- the best so far is at least as good as each detour over the track
abbrev pub IsNoWorseThanTrack : Search → Plan → Track → Type 0
IsNoWorseThanTrack search best track = (leave : ℕ) → IsDetourIn search track leave → IsNoWorseIn search best (Detour track leave)

-- and over each track of these cylinders
abbrev pub IsNoWorseThanTracks : Search → Plan → ℕ → ℕ → Type 0
IsNoWorseThanTracks search best from end = (track : Track) → from ≤ track.cylinder → track.cylinder < end
    → IsNoWorseThanTrack search best track

-- in the order of ties the plan comes before every detour over this track or a later one
abbrev pub IsAhead : Plan → Track → Type 0
IsAhead plan track = (other : Track) (leave : ℕ) → (IsTrackBefore other track → ⊥) → IsNoLater plan (Detour other leave)

-- the best so far is at least as good as any detour of this value over this track or a later one
abbrev pub IsEnough : Scored → ℕ → Track → Type 0
IsEnough best ceiling track = (ceiling < best.value) ⊎ ((ceiling ≡ best.value) × IsAhead best.plan track)

-- lower bounds on the times of both moves of a detour over a track of these cylinders
abbrev pub AreLeast : Disk → Gap → ℕ → ℕ → Moves → Type 0
AreLeast disk gap from end moves = (track : Track) → from ≤ track.cylinder → track.cylinder < end
    → (moves.there ≤ pos disk.mechanism gap.source track false) × (moves.on ≤ pos disk.mechanism track gap.target gap.write)

-- the times of the seeks to a cylinder, and on from it to that of the target
pub record AreSeeks (arm : Mechanics) (gap : Gap) (cylinder : ℕ) (seeks : Seeks) : Type 0 where
  pub there : seeks.there ≡ seek arm (distance_of gap.source.cylinder cylinder)
  pub on : seeks.on ≡ seek arm (distance_of cylinder gap.target.cylinder)
  pub short_there : seeks.there ≤ 10 ^ 9
  pub short_on : seeks.on ≤ 10 ^ 9

-- what passes at a rate in a time
abbrev pub passing : Rate → ℕ → ℕ
passing rate time = rate.depth * (time / rate.share)

-- no stay on the track catches more than passes at the rate
abbrev pub IsRate : Disk → List Entry → Track → Rate → Type 0
IsRate disk entries track rate = (from upto : ℕ) → stay disk (early_to track from upto) entries ≤ passing rate (upto - from)

-- the same for each track of these cylinders
abbrev pub AreRated : Search → ℕ → ℕ → Rate → Type 0
AreRated search from end rate = (track : Track) → from ≤ track.cylinder → track.cylinder < end
    → IsRate search.disk.now search.wanted.now track rate

-- no detour over the track reaches the target earlier, nor is more caught on the track than passes at its rate
abbrev pub IsReach : Search → Track → Reach → Type 0
IsReach search track reach =
    (reach.at_target ≤ arrival search.disk.now search.gap.now (Over track) + move_on search.disk.now search.gap.now (Over track))
    × IsRate search.disk.now search.wanted.now track reach.rate

-- no detour over a track of these cylinders is worth more
abbrev pub IsCeiling : Search → ℕ → ℕ → ℕ → Type 0
IsCeiling search from end ceiling = (track : Track) (leave : ℕ) → from ≤ track.cylinder → track.cylinder < end
    → IsDetourIn search track leave → value_in search (Detour track leave) ≤ ceiling

-- the number is eight times a bound on detours over the part of this index, with eight for the first part, seven for the
-- second and so on
pub record IsKey (search : Search) (from end width j key : ℕ) : Type 0 where
  pub some : 0 < key
  pub small : key ≤ 8 * (2 * (16000000 * 2048000)) + 8
  pub part : (key - 1) % 8 ≡ 7 - j
  pub ceiling : IsCeiling search (from + j * width) (min end (from + j * width + width)) ((key - 1) / 8)

-- an upper bound on how many slots, of n on a track, begin and end within a time
abbrev pub slots_within : ℕ → ℕ → ℕ → ℕ
slots_within rotation n time = time / (rotation / n)
