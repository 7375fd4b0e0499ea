-- Files that hold the same bytes say the same.
use Rattle.fb_top.proofs.Words.{◌≡◌, ℕ, ◌<◌, ◌≤◌, ◌^◌, List, length, Option, Some, None, sym, ap, subst, ◌∙◌, IfSome, places, Disk}
use Rattle.fb_top.proofs.Words.{Accepted, DeskView, FileNames, Accepts, Files, ReadsDisk, ReadsTrace, ReadsScript, HoldAlike}
use Rattle.fb_top.proofs.Words.{HoldFilesAlike}
use Rattle.std.proofs.Common.{◌%◌}
use Rattle.std.proofs.Math.Bridge.{le_prop}
use Rattle.std.proofs.Math.Nat.{ℕ_set}
use Rattle.fb_geometry.specs.Shape.{cylinders_of}
use Rattle.fb_params.specs.ParamsValue.{ParamsValue}
use Rattle.fb_calls.specs.Reading.{Accepted as Script}
use Rattle.fb_top.proofs.Alike.{accepted_once}

pub one_value : (one other : DeskView) (name : List ℕ) (disk disk' : Disk) (latent latent' : List ℕ) → HoldAlike one other name
    → ReadsDisk one name disk latent → ReadsDisk other name disk' latent'
    → ◌≡◌ {A = ParamsValue} (record { outline = disk.map; mechanics = disk.mechanism; sector_bytes = disk.sector_bytes; latent = latent })
    (record { outline = disk'.map; mechanics = disk'.mechanism; sector_bytes = disk'.sector_bytes; latent = latent' })
one_value one other name disk disk' latent latent' alike reads reads' = accepted_once one other name alike reads reads'

-- what every disk of a file keeps
abbrev Keeps : ParamsValue → Type 0
Keeps v =
    (v.mechanics.cylinders ≡ cylinders_of v.outline.zones) × (0 < cylinders_of v.outline.zones) × (0 < v.outline.heads)
    × (0 < v.outline.rotation) × (v.outline.rotation ≤ 10 ^ 9)
    × (length (places v.outline) ≤ 10 ^ 12) × (v.sector_bytes % 16 ≡ 0) × (16 ≤ v.sector_bytes) × (v.sector_bytes ≤ 4096)

Keeps-prop : (v : ParamsValue) → IsProp (Keeps v)
Keeps-prop v = hlevel (le_prop, ℕ_set)

abbrev disk_with : (v : ParamsValue) → Keeps v → Disk
disk_with v kept = record {
  map = v.outline;
  mechanism = v.mechanics;
  sector_bytes = v.sector_bytes;
  same_cylinders = kept.0;
  some_cylinders = kept.1;
  some_heads = kept.2;
  some_rotation = kept.3;
  short_rotation = kept.4;
  few_blocks = kept.5;
  whole_sectors = kept.6;
  some_bytes = kept.7;
  few_bytes = kept.8;
}

abbrev kept_by : (disk : Disk) (latent : List ℕ)
    → Keeps (record { outline = disk.map; mechanics = disk.mechanism; sector_bytes = disk.sector_bytes; latent = latent })
kept_by disk latent = (
  disk.same_cylinders,
  disk.some_cylinders,
  disk.some_heads,
  disk.some_rotation,
  disk.short_rotation,
  disk.few_blocks,
  disk.whole_sectors,
  disk.some_bytes,
  disk.few_bytes,
)

same_with : (v w : ParamsValue) → v ≡ w → (kept : Keeps v) (also : Keeps w) → disk_with v kept ≡ disk_with w also
same_with v w e = subst (λ (x : ParamsValue). (kept : Keeps v) (also : Keeps x) → disk_with v kept ≡ disk_with x also) e
    (λ kept also. ap (disk_with v) (Keeps-prop v kept also))

pub one_disk : (one other : DeskView) (name : List ℕ) (disk disk' : Disk) (latent latent' : List ℕ) → HoldAlike one other name
    → ReadsDisk one name disk latent → ReadsDisk other name disk' latent' → disk ≡ disk'
one_disk one other name disk disk' latent latent' alike reads reads' =
    same_with _ _ (one_value one other name disk disk' latent latent' alike reads reads') (kept_by disk latent) (kept_by disk' latent')

pub one_trace : (one other : DeskView) (name : List ℕ) (device : ℕ) (disk disk' : Disk) (trace trace' : Accepted) → disk ≡ disk'
    → HoldAlike one other name → ReadsTrace one name device disk trace → ReadsTrace other name device disk' trace' → trace ≡ trace'
one_trace one other name device disk disk' trace trace' same alike reads reads' =
    accepted_once one other name alike reads (subst (λ (d : Disk). ReadsTrace other name device d trace') (sym same) reads')

one_script : (one other : DeskView) (given : Option (List ℕ)) (disk : Disk) (traced : ℕ) (script script' : Script)
    → IfSome given (HoldAlike one other) → ReadsScript one given disk traced script → ReadsScript other given disk traced script'
    → script ≡ script'
one_script one other None disk traced script script' alike reads reads' = reads ∙ sym reads'
one_script one other (Some name) disk traced script script' alike reads reads' = accepted_once one other name alike reads reads'

all_one : (a b : Files) → a.disk ≡ b.disk → a.latent ≡ b.latent → a.trace ≡ b.trace → a.script ≡ b.script → a ≡ b
all_one a b disk latent trace script =
    ap (λ d. record { disk = d; latent = a.latent; trace = a.trace; script = a.script }) disk
    ∙ ap (λ l. record { disk = b.disk; latent = l; trace = a.trace; script = a.script }) latent
    ∙ ap (λ t. record { disk = b.disk; latent = b.latent; trace = t; script = a.script }) trace
    ∙ ap (λ s. record { disk = b.disk; latent = b.latent; trace = b.trace; script = s }) script

-- the files of a replay
pub one_reading : (one other : DeskView) (terms : FileNames) (a b : Files) → HoldFilesAlike one other terms → Accepts one terms a
    → Accepts other terms b → a ≡ b
one_reading one other terms a b alike reads reads' =
    let value = one_value one other terms.params a.disk b.disk a.latent b.latent alike.params reads.disk reads'.disk in
    let disk : a.disk ≡ b.disk = one_disk one other terms.params a.disk b.disk a.latent b.latent alike.params
    reads.disk reads'.disk in
    let trace : a.trace ≡ b.trace = one_trace one other terms.trace terms.device a.disk b.disk a.trace b.trace disk alike.trace
    reads.trace reads'.trace in
    all_one a b disk (ap (λ (v : ParamsValue). v.latent) value) trace
    (one_script one other terms.calls a.disk (length a.trace.requests) a.script b.script alike.calls reads.script
    (subst (λ (d : Disk). ReadsScript other terms.calls d (length a.trace.requests) b.script) (sym disk)
    (subst (λ (t : Accepted). ReadsScript other terms.calls b.disk (length t.requests) b.script) (sym trace) reads'.script)))
