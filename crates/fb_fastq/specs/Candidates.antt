-- The request whose first sector passes soonest.
use Rattle.std.specs.Prelude.{◌≡◌, ℕ, ◌<◌, ◌≤◌, Option, IfSome}
use Rattle.std.specs.BTreeMap.{BTreeMap}
use Rattle.fb_units.specs.declared.types.Track.{Track}
use Rattle.fb_units.specs.declared.types.Request.{Request}
use Rattle.fb_service.specs.declared.disk.Disk.{Disk}
use Rattle.fb_model.specs.PlainReplay.{sptf}
use Rattle.fb_fastq.specs.declared.ray.Ray.{Ray}
use Rattle.fb_fastq.specs.declared.soonest.Candidate.{Candidate}
use Rattle.fb_fastq.specs.declared.visit.Visit.{Visit}
use Rattle.fb_fastq.specs.Sides.{IsOn, IsNearer}
use Rattle.fb_fastq.specs.Joining.{Holds, AllHeld, IsNoLater}

-- the candidate is a request that waits, with the time until its first sector passes
pub record IsCandidate (disk : Disk) (head : Track) (now : ℕ) (waiting : BTreeMap (ℕ × ℕ) Request) (candidate : Candidate) : Type 0 where
  pub request : Request
  pub waits : Holds waiting candidate.key request
  pub wait : candidate.wait ≡ sptf disk head now request

-- a candidate is sooner than another, or as soon and joined no later
abbrev pub IsBefore : Candidate → Candidate → Type 0
IsBefore a b = IsNoLater a.wait a.key.1 b.wait b.key.1

-- a candidate is sooner than a request that waits under a key, or is as soon and joined no later
abbrev pub ComesNoLater : Disk → Track → ℕ → Candidate → ℕ × ℕ → Request → Type 0
ComesNoLater disk head now candidate key request = IsNoLater candidate.wait candidate.key.1 (sptf disk head now request) key.1

-- it comes no later than any that waits at these spots
abbrev pub ComesNoLaterBetween : Disk → Track → ℕ → BTreeMap (ℕ × ℕ) Request → Candidate → ℕ → ℕ → Type 0
ComesNoLaterBetween disk head now waiting candidate start end =
    AllHeld (λ key request. start ≤ key.0 → key.0 < end → ComesNoLater disk head now candidate key request) waiting

-- it comes no later than any that waits on a ray
abbrev pub ComesNoLaterOn : Disk → Track → ℕ → BTreeMap (ℕ × ℕ) Request → Candidate → Ray → Type 0
ComesNoLaterOn disk head now waiting candidate ray = AllHeld (λ key request.
    IsOn ray.side ray.start key.0 → ComesNoLater disk head now candidate key request) waiting

-- it comes no later than any that waits there and is nearer than a lane, if there is one
abbrev pub ComesNoLaterUntil : Disk → Track → ℕ → BTreeMap (ℕ × ℕ) Request → Candidate → Ray → Option Visit → Type 0
ComesNoLaterUntil disk head now waiting candidate ray lane = AllHeld (λ key request.
    IsOn ray.side ray.start key.0 → IfSome lane (λ visit. IsNearer ray.side visit.lane.start key.0)
    → ComesNoLater disk head now candidate key request) waiting
