-- Where requests wait for the shortest positioning time.
use Rattle.std.specs.Prelude.{◌≡◌, List, []}
use Rattle.std.specs.List.{AllByRecursion}
use Rattle.fb_units.specs.declared.types.Request.{Request}
use Rattle.fb_service.specs.declared.disk.Disk.{Disk}
use Rattle.fb_fastq.specs.declared.sptf.Store.{Store}
use Rattle.fb_fastq.specs.declared.sptf.Store.TheVariants.{Rows, Angles}
use Rattle.fb_fastq.specs.Joining.{pending_of}
use Rattle.fb_fastq.specs.Lanes.{IsAlong}
use Rattle.fb_fastq.specs.NonePending.{all_of_none}
use Rattle.fb_fastq.specs.Spots.{IsAngleOf}

-- the requests, in order of joining
abbrev pub pending_in : Store → List Request
pending_in (Rows rows) = pending_of rows.waiting
pending_in (Angles angles) = pending_of angles.waiting

-- each request has its place on the disk
abbrev pub FitsIn : Store → Disk → Type 0
FitsIn (Rows rows) disk = AllByRecursion (λ w. IsAlong disk w.1 w.0.0) rows.waiting
FitsIn (Angles angles) disk = AllByRecursion (λ w. IsAngleOf disk w.1 w.0.0) angles.waiting

pub fits_none : (store : Store) (disk : Disk) → pending_in store ≡ [] → FitsIn store disk
fits_none (Rows rows) disk none = all_of_none (λ w. IsAlong disk w.1 w.0.0) rows.waiting none
fits_none (Angles angles) disk none = all_of_none (λ w. IsAngleOf disk w.1 w.0.0) angles.waiting none
