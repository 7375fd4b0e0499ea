-- Laws of the definitions, each in its subject's own words.
use Rattle.std.specs.Prelude.{◌≡◌, ℕ, ◌+◌, ◌-◌, ◌*◌, ◌%◌, ◌<◌, ◌≤◌, List, [], ◌∷◌, ◌++◌, length, map, true, Option, Some, None}
use Rattle.std.specs.Prelude.{IsPermutation}
use Rattle.std.specs.List.{AllByRecursion, list_any, sum_by}
use Rattle.fb_units.specs.declared.types.Request.{Request}
use Rattle.fb_units.specs.declared.types.Track.{Track}
use Rattle.fb_units.specs.Rising.{IsRising}
use Rattle.fb_units.specs.Wait.{wait, IsLeastWait}
use Rattle.fb_geometry.specs.declared.zone.Zone.{Zone}
use Rattle.fb_geometry.specs.Shape.{Shape}
use Rattle.fb_geometry.specs.Angles.{slot_begin, CoverRotation}
use Rattle.fb_geometry.specs.Places.{places}
use Rattle.fb_geometry.specs.Faults.{FitsLayout, first_fault}
use Rattle.fb_geometry.specs.Sound.{HasOwnPlaces, cylinder_size}
use Rattle.fb_sectormap.specs.LookUp.{place_at}
use Rattle.fb_service.specs.declared.disk.Disk.{Disk}
use Rattle.fb_service.specs.Passing.{begin_angle, begin_from}
use Rattle.fb_wanted.specs.declared.block.Block.{Block}
use Rattle.fb_wanted.specs.declared.block.State.{State}
use Rattle.fb_rows.specs.declared.fore.ForeRow.{ForeRow}
use Rattle.fb_rows.specs.declared.run.Run.{Run}
use Rattle.fb_rows.specs.declared.gap.Gap.{Gap}
use Rattle.fb_rows.specs.declared.gap.Plan.{Plan}
use Rattle.fb_model.specs.Plans.{IsBest}
use Rattle.fb_model.specs.Foreground.{promoted}
use Rattle.fb_model.specs.Inputs.{Inputs, requests, HaveSameSectors}
use Rattle.fb_model.specs.Content.{fore_rows}
use Rattle.fb_model.specs.History.{Past, registered, same_block, state_from, bare_state}
use Rattle.fb_model.specs.SoundRun.{IsSound}
use Rattle.fb_model.specs.Accepted.{IsAccepted}
use Rattle.fb_model.specs.PlainReplay.{Key, Served, finish, last_track, service, has_arrived, first_least, first_ready, first_track}
use Rattle.fb_model.specs.PlainReplay.{plain_replay}

-- ---- the platter

-- no shorter wait reaches the angle
abbrev pub WaitsAreLeast : Type 0
WaitsAreLeast = (rotation angle now : ℕ) → angle < rotation → IsLeastWait rotation angle now (wait rotation angle now)

-- slots follow one another around the whole rotation
abbrev pub SlotsCoverRotation : Type 0
SlotsCoverRotation = (rotation n : ℕ) → 0 < n → n ≤ rotation → CoverRotation rotation n

-- the angle lies in the slot
pub record IsInSlot (rotation n angle slot : ℕ) : Type 0 where
  pub inside : slot < n
  pub from : slot_begin rotation n slot ≤ angle
  pub below : angle < slot_begin rotation n (slot + 1)

-- and in no other
pub record HasOneSlot (rotation n angle : ℕ) : Type 0 where
  pub slot : ℕ
  pub lies : IsInSlot rotation n angle slot
  pub only : (other : ℕ) → IsInSlot rotation n angle other → other ≡ slot

-- each angle of a rotation lies in exactly one slot
abbrev pub AnglesHaveOneSlot : Type 0
AnglesHaveOneSlot = (rotation n angle : ℕ) → 0 < n → angle < rotation → HasOneSlot rotation n angle

-- the first instant from t on at which the platter stands at the angle
pub record IsFirstAt (rotation angle t instant : ℕ) : Type 0 where
  pub reached : instant % rotation ≡ angle
  pub from : t ≤ instant
  pub first : (other : ℕ) → t ≤ other → other % rotation ≡ angle → instant ≤ other

-- ---- the disk

-- an outline is that of a disk: its spares and grown defects fit its layout, and it has no fault
pub record IsDisk (disk : Shape) : Type 0 where
  pub fits : FitsLayout disk.layout disk
  pub faultless : first_fault disk ≡ None

-- a passage begins at the first such instant
abbrev pub PassagesBeginFirst : Type 0
PassagesBeginFirst = (disk : Shape) (lbn t : ℕ) → IsDisk disk → lbn < length (places disk)
    → IsFirstAt disk.rotation (begin_angle disk (place_at disk lbn)) t (begin_from disk (place_at disk lbn) t)

-- each sector has a place of its own, and no place is bad
abbrev pub PlacesAreOwn : Type 0
PlacesAreOwn = (disk : Shape) → IsDisk disk → HasOwnPlaces disk

-- how many sectors a zone has: as many on each of its cylinders
abbrev pub zone_size : Shape → Zone → ℕ
zone_size disk zone = (zone.last + 1 - zone.first) * cylinder_size disk zone

-- a disk has the sectors of its zones
abbrev pub SectorsByZone : Type 0
SectorsByZone = (disk : Shape) → IsDisk disk → length (places disk) ≡ sum_by (zone_size disk) disk.zones

-- ---- the pick

-- the pick is one of the list; those before it have greater keys, those behind it none that is smaller; the others keep their order
pub record IsFirstLeast (key : Request → ℕ) (requests : List Request) (pick : Request) (others : List Request) : Type 0 where
  pub front : List Request
  pub back : List Request
  pub whole : requests ≡ front ++ pick ∷ back
  pub rest : others ≡ front ++ back
  pub before : AllByRecursion (λ request. key pick < key request) front
  pub after : AllByRecursion (λ request. key pick ≤ key request) back

-- there is no pick where there are no requests
abbrev pub IsPickOf : (Request → ℕ) → List Request → Option (Request × List Request) → Type 0
IsPickOf key requests None = requests ≡ []
IsPickOf key requests (Some pick) = IsFirstLeast key requests pick.0 pick.1

-- what is picked is the first request of least key
abbrev pub PicksAreFirstLeast : Type 0
PicksAreFirstLeast = (key : Request → ℕ) (requests : List Request) → IsPickOf key requests (first_least key requests)

-- the same among those that have arrived by now
pub record IsFirstReady (key : Request → ℕ) (now : ℕ) (requests : List Request) (pick : Request) (others : List Request) : Type 0 where
  pub front : List Request
  pub back : List Request
  pub whole : requests ≡ front ++ pick ∷ back
  pub rest : others ≡ front ++ back
  pub arrived : pick.arrival ≤ now
  pub before : AllByRecursion (λ request. request.arrival ≤ now → key pick < key request) front
  pub after : AllByRecursion (λ request. request.arrival ≤ now → key pick ≤ key request) back

-- there is no pick where none has arrived
abbrev pub IsReadyPickOf : (Request → ℕ) → ℕ → List Request → Option (Request × List Request) → Type 0
IsReadyPickOf key now requests None = AllByRecursion (λ request. now < request.arrival) requests
IsReadyPickOf key now requests (Some pick) = IsFirstReady key now requests pick.0 pick.1

-- the same among the requests that have arrived
abbrev pub ReadyPicksAreFirstLeast : Type 0
ReadyPicksAreFirstLeast = (key : Request → ℕ) (now : ℕ) (requests : List Request)
    → IsReadyPickOf key now requests (first_ready key now requests)

-- there is no other pick
abbrev pub OnePick : Type 0
OnePick = (key : Request → ℕ) (requests : List Request) (pick : Request) (others : List Request)
    → IsFirstLeast key requests pick others → first_least key requests ≡ Some (pick, others)

-- nor is there another pick among those that have arrived
abbrev pub OneReadyPick : Type 0
OneReadyPick = (key : Request → ℕ) (now : ℕ) (requests : List Request) (pick : Request) (others : List Request)
    → IsFirstReady key now requests pick others → first_ready key now requests ≡ Some (pick, others)

-- ---- the foreground list

-- the requests of the trace and the reads that were asked for, each once, in the order of their arrival
pub record IsInOrder (inputs : Inputs) : Type 0 where
  pub once : IsPermutation (inputs.trace ++ promoted inputs.calls) (requests inputs)
  pub ascend : IsRising (map (λ request. request.arrival) (requests inputs))

-- the foreground list of accepted inputs has each request once, by arrival
abbrev pub ForegroundListsAscend : Type 0
ForegroundListsAscend = (inputs : Inputs) → IsAccepted inputs → IsInOrder inputs

-- ---- the plain replay

-- each service starts on the track on which the one before it ended, and not before it ended
abbrev pub AreInTurn : Disk → Track → ℕ → List Served → Type 0
AreInTurn disk head now [] = Unit {0}
AreInTurn disk head now (served ∷ later) =
    (served.source ≡ head) × (now ≤ served.start) × AreInTurn disk (last_track disk served) (finish served) later

-- each request is served once, none before it arrives, one after another
pub record ServesEachOnce (disk : Disk) (requests : List Request) (replay : List Served) : Type 0 where
  pub once : IsPermutation requests (map (λ served. served.request) replay)
  pub arrived : AllByRecursion (λ served. served.request.arrival ≤ served.start) replay
  pub in_turn : AreInTurn disk first_track 0 replay
  pub ascend : IsRising (map (λ served. served.start) replay)

-- a plain replay serves each request once, one after another
abbrev pub ReplaysServeEachOnce : Type 0
ReplaysServeEachOnce = (disk : Disk) (key : Key) (requests : List Request) → ServesEachOnce disk requests (plain_replay disk key requests)

-- no row starts before the one before it has finished, and none finishes before it starts
abbrev pub AreOneByOne : ℕ → List ForeRow → Type 0
AreOneByOne now [] = Unit {0}
AreOneByOne now (row ∷ rows) = (now ≤ row.start) × (row.start ≤ row.finish) × AreOneByOne row.finish rows

-- each request has one row, which doesn't start before it arrives
pub record HaveOneRow (requests : List Request) (rows : List ForeRow) : Type 0 where
  pub once : IsPermutation requests (map (λ row. row.request) rows)
  pub arrived : AllByRecursion (λ row. row.request.arrival ≤ row.start) rows
  pub one_by_one : AreOneByOne 0 rows

-- each request of the foreground list has one foreground row
abbrev pub RequestsHaveOneRow : Type 0
RequestsHaveOneRow = (inputs : Inputs) → HaveOneRow (requests inputs) (fore_rows inputs)

-- the first instant from now on by which one of the requests has arrived
pub record IsReadyAt (now : ℕ) (requests : List Request) (instant : ℕ) : Type 0 where
  pub from : now ≤ instant
  pub arrived : list_any (has_arrived instant) requests ≡ true
  pub first : (other : ℕ) → now ≤ other → list_any (has_arrived other) requests ≡ true → instant ≤ other

-- as soon as a request has arrived, the first of least key among those that have is served; the others are left
pub record IsServedNext (disk : Disk) (key : Key) (head : Track) (now : ℕ) (left : List Request) (served : Served)
    (others : List Request) : Type 0 where
  pub start : IsReadyAt now left served.start
  pub pick : IsFirstReady (key disk head served.start) served.start left served.request others
  pub passes : served ≡ service disk head served.start served.request

-- and so on until none is left
abbrev pub FollowsRules : Disk → Key → Track → ℕ → List Request → List Served → Type 0
FollowsRules disk key head now left [] = left ≡ []
FollowsRules disk key head now left (served ∷ later) =
    (others : List Request) × IsServedNext disk key head now left served others
    × FollowsRules disk key (last_track disk served) (finish served) others later

-- the plain replay follows the rules, and no other list of services does
pub record IsOnlyReplay (disk : Disk) (key : Key) (requests : List Request) : Type 0 where
  pub follows : FollowsRules disk key first_track 0 requests (plain_replay disk key requests)
  pub only : (other : List Served) → FollowsRules disk key first_track 0 requests other → other ≡ plain_replay disk key requests

-- where requests stand by arrival, only the plain replay follows the rules
abbrev pub OnePlainReplay : Type 0
OnePlainReplay = (disk : Disk) (key : Key) (requests : List Request) → IsRising (map (λ request. request.arrival) requests)
    → IsOnlyReplay disk key requests

-- ---- the best plan

-- a gap has at most one best plan
abbrev pub OneBestPlan : Type 0
OneBestPlan = (disk : Disk) (gap : Gap) (wanted : List Block) (a b : Plan) → IsBest disk gap wanted a → IsBest disk gap wanted b → a ≡ b

-- ---- the background

-- the state of a registered block is the same, whatever state it is taken to have had before the first event
abbrev pub StatesBeginWithRegistration : Type 0
StatesBeginWithRegistration = (past : Past) (block : Block) (before : State)
    → list_any (same_block block) (registered past) ≡ true → state_from before past block ≡ bare_state past block

-- inputs that ask for the same foreground, whatever else their calls ask for
pub record HaveOneForeground (a b : Inputs) : Type 0 where
  pub disk : a.disk ≡ b.disk
  pub latent : HaveSameSectors a.latent b.latent
  pub trace : a.trace ≡ b.trace
  pub key : a.key ≡ b.key
  pub promoted : promoted a.calls ≡ promoted b.calls

-- background work leaves the foreground as it is
abbrev pub ForegroundIsUntouched : Type 0
ForegroundIsUntouched = (a b : Inputs) (run_a run_b : Run) → HaveOneForeground a b → IsSound a run_a → IsSound b run_b
    → run_a.fore ≡ run_b.fore
