-- Requests that wait in a row for each cylinder.
use Rattle.std.specs.Prelude.{◌≡◌, ℕ, ◌+◌, ◌*◌, ◌<◌, ◌≤◌, ◌^◌, List, [], ◌∷◌, ◌++◌, ◌%◌, true, Option, Some, flat_map, length, slice_get}
use Rattle.std.specs.Prelude.{option_and_then, Vec, MatchOption}
use Rattle.std.specs.List.{AllByRecursion}
use Rattle.std.specs.Ordering.{nat_cmp}
use Rattle.std.specs.BTreeSet.{BTreeSet, contains}
use Rattle.std.specs.declared.alloc.Global.{Global}
use Rattle.fb_units.specs.declared.types.Track.{Track}
use Rattle.fb_service.specs.declared.disk.Disk.{Disk}
use Rattle.fb_service.specs.declared.approach.Departure.{Departure}
use Rattle.fb_seek.specs.Positioning.{seek, distance_of}
use Rattle.fb_model.specs.PlainReplay.{sptf}
use Rattle.fb_fastq.specs.declared.soonest.Candidate.{Candidate}
use Rattle.fb_fastq.specs.declared.arrival.Arrival.{Arrival}
use Rattle.fb_fastq.specs.declared.rows.Position.{Position}
use Rattle.fb_fastq.specs.declared.rows.Pick.{Pick}
use Rattle.fb_fastq.specs.Joining.{Waiting, HaveOwnNumbers}
use Rattle.fb_fastq.specs.Candidates.{IsBefore, ComesNoLater}

-- the requests of a cylinder
abbrev pub Row : Type 0
Row = Vec Waiting Global

-- the requests of all rows
abbrev pub all_of_rows : List Row → List Waiting
all_of_rows rows = flat_map (λ row. row.items) rows

-- the request at a position
abbrev pub at_position : List Row → Position → Option Waiting
at_position rows position = option_and_then (λ (row : Row). slice_get row.items position.index) (slice_get rows position.row)

-- the spot is one of this cylinder's
abbrev pub IsOnCylinder : ℕ → ℕ → Type 0
IsOnCylinder cylinder spot = (cylinder * 2 ^ 37 ≤ spot) × (spot < cylinder * 2 ^ 37 + 2 ^ 37)

-- from this cylinder on, each row has requests of its own cylinder alone
abbrev pub AreRows : ℕ → List Row → Type 0
AreRows cylinder [] = Unit {0}
AreRows cylinder (row ∷ rows) = AllByRecursion (λ w. IsOnCylinder cylinder w.0.0) row.items × AreRows (cylinder + 1) rows

-- a set of cylinders
abbrev pub Numbers : Type 0
Numbers = BTreeSet ℕ

-- each row that has requests is one of these
abbrev pub AreOccupied : Numbers → List Row → Type 0
AreOccupied occupied rows = (i : ℕ) (row : Row) → slice_get rows i ≡ Some row → 0 < length row.items → contains nat_cmp occupied i ≡ true

-- the seek's time from the departure to the cylinder, and the angle of the platter when the arm has come there
pub record IsArrival (disk : Disk) (from : Departure) (arrival : Arrival) : Type 0 where
  pub seek_is : arrival.seek ≡ seek disk.mechanism (distance_of from.track.cylinder arrival.cylinder)
  pub short : arrival.seek ≤ 10 ^ 9
  pub angle_is : arrival.angle ≡ (from.instant + arrival.seek) % disk.map.rotation
  pub turned : arrival.angle < disk.map.rotation
  pub rotation_is : arrival.rotation ≡ disk.map.rotation

-- the candidate is the request at a position
pub record IsAt (disk : Disk) (head : Track) (now : ℕ) (rows : List Row) (position : Position) (candidate : Candidate) : Type 0 where
  pub waiting : Waiting
  pub there : at_position rows position ≡ Some waiting
  pub key : candidate.key ≡ waiting.0
  pub wait : candidate.wait ≡ sptf disk head now waiting.1

-- what is picked is the limit still, or a request of the rows that comes before it
pub record IsPick (disk : Disk) (head : Track) (now : ℕ) (rows : List Row) (limit : Candidate) (pick : Pick) : Type 0 where
  pub found : MatchOption pick.position (pick.best ≡ limit) (λ position. IsAt disk head now rows position pick.best)
  pub before : IsBefore pick.best limit

-- the candidate is no later than a request that waits, and it comes soon: the request need not be looked at
abbrev pub RulesOut : Disk → Track → ℕ → Candidate → Waiting → Type 0
RulesOut disk head now candidate w = ComesNoLater disk head now candidate w.0 w.1 × (candidate.wait ≤ 4 * 10 ^ 9)

-- it is no later than any of these
abbrev pub RulesOutAll : Disk → Track → ℕ → Candidate → List Waiting → Type 0
RulesOutAll disk head now candidate ws = AllByRecursion (RulesOut disk head now candidate) ws

-- the requests that wait are divided among a map and the rows, and those of the rows are counted
pub record IsDivided (entries : List Waiting) (rows : List Row) (in_rows joined : ℕ) : Type 0 where
  pub numbers : HaveOwnNumbers (entries ++ all_of_rows rows) joined
  pub own_rows : AreRows 0 rows
  pub counted : in_rows ≡ length (all_of_rows rows)
  pub few : in_rows ≤ joined
