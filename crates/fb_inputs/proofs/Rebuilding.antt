-- What the script of a rebuild reads as.
use Rattle.std.proofs.Common.{◌≡◌, ◌∙◌, ℕ, List, sym, ap, true, false, Result, Ok, Err}
use Rattle.std.specs.Prelude.{Bool, if◌then◌else◌}
use Rattle.fb_geometry.specs.Shape.{Shape}
use Rattle.fb_calls.specs.Judgement.{are_too_many}
use Rattle.fb_calls.specs.Reading.{Accepted, calls_of, fault_at}
use Rattle.fb_calls.specs.declared.fault.CallsFault.{CallsFault}
use Rattle.fb_calls.specs.declared.fault.CallsReason.TheVariants.{TooManyBlocks}
use Rattle.fb_mirror.specs.Script.{disk_blocks, rebuild_reading, rebuild_text}

module _ (disk : Shape) (law : (traced : ℕ) → calls_of disk traced (rebuild_text disk) ≡ rebuild_reading disk) (traced : ℕ) (bytes : List ℕ)
    (is : bytes ≡ rebuild_text disk) where
  -- the script reads as the same with every trace
  pub read_alike : (verdict : Result Accepted CallsFault) → calls_of disk traced bytes ≡ verdict → (other : ℕ)
      → calls_of disk other (rebuild_text disk) ≡ verdict
  read_alike verdict reads other = law other ∙ sym (law traced) ∙ ap (calls_of disk traced) (sym is) ∙ reads

  only_fault : (many : Bool) (one fault : CallsFault) (script : Accepted)
      → ◌≡◌ {A = Result Accepted CallsFault} (if many then Err one else Ok script) (Err fault) → fault ≡ one
  only_fault true one fault script e = cc
  only_fault false one fault script e = absurd cc

  -- and has one fault alone
  pub too_many : (fault : CallsFault) → calls_of disk traced bytes ≡ Err fault → fault ≡ fault_at 2 TooManyBlocks
  too_many fault reads = only_fault (are_too_many 0 (disk_blocks disk)) (fault_at 2 TooManyBlocks) fault _ (sym (law traced)
      ∙ ap (calls_of disk traced) (sym is) ∙ reads)
