-- The plain replay: requests are served one after another, each the first of least key among those that have arrived.
-- The shortest positioning time is studied by Worthington, Ganger and Patt (SIGMETRICS 1994); the ties are this project's.
use Rattle.std.specs.Prelude.{ℕ, zero, suc, ◌+◌, ◌-◌, ◌%◌, List, [], ◌∷◌, length, Bool, true, false, nat_le, Option, Some, None, unwrap_or}
use Rattle.std.specs.Prelude.{if◌then◌else◌}
use Rattle.std.specs.Option.{option_map}
use Rattle.std.specs.List.{list_any}
use Rattle.fb_units.specs.declared.types.Track.{Track}
use Rattle.fb_units.specs.declared.types.Request.{Request}
use Rattle.fb_geometry.specs.Shape.{cylinders_of}
use Rattle.fb_sectormap.specs.LookUp.{place_at, track_at}
use Rattle.fb_seek.specs.Positioning.{distance_of, pos}
use Rattle.fb_service.specs.declared.disk.Disk.{Disk}
use Rattle.fb_service.specs.declared.passage.Passage.{Passage}
use Rattle.fb_service.specs.Passing.{begin_from}
use Rattle.fb_service.specs.Service.{passages, media_of, finish_of}

-- the key of a request when the head is on a track at an instant
abbrev pub Key : Type 0
Key = Disk → Track → ℕ → Request → ℕ

-- first come, first served: all keys are equal, so that the order of joining decides
abbrev pub fcfs : Key
fcfs disk head now request = 0

-- shortest seek time first: the distance in cylinders
abbrev pub sstf : Key
sstf disk head now request = distance_of (track_at disk.map request.lbn).cylinder head.cylinder

-- the circular elevator: how many cylinders upwards, with the first one behind the last
abbrev pub clook : Key
clook disk head now request =
    ((track_at disk.map request.lbn).cylinder + cylinders_of disk.map.zones - head.cylinder) % cylinders_of disk.map.zones

-- shortest positioning time first: how long until the first sector begins to pass
abbrev pub sptf : Key
sptf disk head now request =
    begin_from disk.map (place_at disk.map request.lbn) (now + pos disk.mechanism head (track_at disk.map request.lbn) request.write) - now

-- how a request is served: from which track, from when, and by which passages
pub record Served : Type 0 where
  pub request : Request
  pub source : Track
  pub start : ℕ
  pub passages : List Passage

-- when the first sector begins to pass
abbrev pub media : Served → ℕ
media served = media_of served.passages

-- when the last sector has passed
abbrev pub finish : Served → ℕ
finish served = finish_of served.start served.passages

-- the track of the request's first sector
abbrev pub target : Disk → Served → Track
target disk served = track_at disk.map served.request.lbn

-- the track of its last sector, on which the head then stands
abbrev pub last_track : Disk → Served → Track
last_track disk served = track_at disk.map (served.request.lbn + served.request.count - 1)

-- the service of a request from a track and an instant on
abbrev pub service : Disk → Track → ℕ → Request → Served
service disk source start request = record {
  request = request;
  source = source;
  start = start;
  passages = passages disk source start request.write request.lbn request.count;
}

-- the request has arrived by now
abbrev pub has_arrived : ℕ → Request → Bool
has_arrived now request = nat_le request.arrival now

-- the pick from a request and those behind it, given the pick from those behind it: the pick, and the others
abbrev pub better : (Request → ℕ) → Request → List Request → Option (Request × List Request) → Option (Request × List Request)
better key request others None = Some (request, others)
better key request others (Some best) =
    if nat_le (key request) (key best.0) then Some (request, others) else Some (best.0, request ∷ best.1)

-- the same where the request has to wait
abbrev pub kept : Request → Option (Request × List Request) → Option (Request × List Request)
kept request None = None
kept request (Some best) = Some (best.0, request ∷ best.1)

-- the pick, given whether the first request has arrived
abbrev pub pick_with : Bool → (Request → ℕ) → Request → List Request → Option (Request × List Request) → Option (Request × List Request)
pick_with true key request others best = better key request others best
pick_with false key request others best = kept request best

-- the first request of least key, and the others in their order
abbrev pub first_least : (Request → ℕ) → List Request → Option (Request × List Request)
first_least key [] = None
first_least key (request ∷ requests) = better key request requests (first_least key requests)

-- the same among those that have arrived
abbrev pub first_ready : (Request → ℕ) → ℕ → List Request → Option (Request × List Request)
first_ready key now [] = None
first_ready key now (request ∷ requests) = pick_with (has_arrived now request) key request requests (first_ready key now requests)

-- now, if a request has arrived, and else when the first one arrives
abbrev pub start_of : ℕ → List Request → ℕ
start_of now [] = now
start_of now (request ∷ requests) = if list_any (has_arrived now) (request ∷ requests) then now else request.arrival

-- at most n of the requests that are left, from a track and an instant on
unfoldable pub plain : ℕ → Disk → Key → Track → ℕ → List Request → List Served
plain zero disk key head now left = []
plain (suc n) disk key head now left =
    let start = start_of now left in
    unwrap_or (option_map (λ pick.
    let served = service disk head start pick.0 in
    served ∷ plain n disk key (last_track disk served) (finish served) pick.1)
    (first_ready (key disk head start) start left)) []

-- where the head stands at instant 0
abbrev pub first_track : Track
first_track = record { cylinder = 0; head = 0 }

-- all of them, from the first track and the instant 0 on
abbrev pub plain_replay : Disk → Key → List Request → List Served
plain_replay disk key requests = plain (length requests) disk key first_track 0 requests
