-- The trace and the calls of one device of an array.
use Rattle.fb_top.proofs.Words.{◌≡◌, ◌∙◌, ℕ, ◌≤◌, ◌^◌, List, [], length, map, refl, sym, ap, subst, arith, inl, inr, Option, Some, None}
use Rattle.fb_top.proofs.Words.{true, false, Result, Ok, Err, Bool, slice_get, if◌then◌else◌, range_with_len, option_map, cases_Bool}
use Rattle.fb_top.proofs.Words.{length-map-range_with_len, slice_get-map, Shape, places, IsSound, Disk, Accepted, CallsFault, promoted}
use Rattle.fb_top.proofs.Words.{rebuild_calls, DeskView, RebuildTerms, ReadsTrace, Array, ReadsRebuild, counted}
use Rattle.std.specs.Prelude.{nat_eq}
use Rattle.std.proofs.lemmas.Option.{slice_get_within}
use Rattle.fb_units.proofs.Lists.{one_element}
use Rattle.fb_trace.specs.Reading.{trace_of}
use Rattle.fb_calls.specs.Judgement.{are_too_many}
use Rattle.fb_calls.specs.Reading.{Accepted as Script, calls_of, fault_at}
use Rattle.fb_calls.specs.declared.fault.CallsReason.TheVariants.{TooManyBlocks}
use Rattle.fb_mirror.specs.Script.{disk_blocks, rebuild_text}
use Rattle.fb_mirror.proofs.ScriptRead.{script_read}
use Rattle.fb_inputs.specs.Devices.{ReadsTraces, device_files}
use Rattle.fb_top.proofs.Arrayed.{is_from}
use Rattle.fb_inputs.proofs.Values.{each_of_all}

-- the trace of a device is what is read for it alone
module _ (desk : DeskView) (name : List ℕ) (devices : ℕ) (disk : Disk) (traces : List Accepted)
    (reads : ReadsTraces desk name devices disk traces) where
  pub device_reads : (device : ℕ) (trace : Accepted) → slice_get traces device ≡ Some trace → ReadsTrace desk name device disk trace
  device_reads device trace at =
      let read = λ (d : ℕ). trace_of d (length (places disk.map)) reads.bytes in
      let there = each_of_all (map read (range_with_len 0 devices)) traces device trace reads.spells at in
      let inside = slice_get_within (map read (range_with_len 0 devices)) device (Ok trace) there in
      record {
        bytes = reads.bytes;
        held = reads.held;
        within = reads.within;
        spells = one_element (slice_get (map read (range_with_len 0 devices)) device) (read device) (Ok trace)
            (slice_get-map read (range_with_len 0 devices) device
            ∙ ap (option_map read) (counted devices device (omega (arith, length-map-range_with_len read 0 devices)))) there;
      }

only_script : (many : Bool) (fault : CallsFault) (one script : Script)
    → ◌≡◌ {A = Result Script CallsFault} (if many then Err fault else Ok one) (Ok script) → script ≡ one
only_script true fault one script e = absurd cc
only_script false fault one script e = cc

-- the script of a rebuild has its two calls
pub rebuilds_have_their_calls : (disk : Shape) (script : Script) → IsSound disk → length (places disk) ≤ 10 ^ 12
    → ((traced : ℕ) → calls_of disk traced (rebuild_text disk) ≡ Ok script) → script.calls ≡ rebuild_calls disk
rebuilds_have_their_calls disk script sound few reads =
    ap (λ (s : Script). s.calls)
    (only_script (are_too_many 0 (disk_blocks disk)) (fault_at 2 TooManyBlocks) _ script (sym (script_read disk sound few 0) ∙ reads 0))

-- and promotes no reads
rebuilds_promote_none : (disk : Shape) (script : Script) → IsSound disk → length (places disk) ≤ 10 ^ 12
    → ((traced : ℕ) → calls_of disk traced (rebuild_text disk) ≡ Ok script) → promoted script.calls ≡ []
rebuilds_promote_none disk script sound few reads = ap promoted (rebuilds_have_their_calls disk script sound few reads)

-- nor does the script of any device
pub devices_promote_none : (rebuild : Option RebuildTerms) (array : Array) (device : ℕ) (trace : Accepted) → IsSound array.disk.map
    → ReadsRebuild rebuild array.disk.map array.script
    → promoted (device_files rebuild array device trace).script.calls ≡ []
devices_promote_none None array device trace sound reads = refl
devices_promote_none (Some rebuild) array device trace sound reads = elim (cases_Bool (nat_eq rebuild.device device)) [
  | inl here ↦ rw here (rebuilds_promote_none array.disk.map array.script sound array.disk.few_blocks reads)
  | inr other ↦ rw other refl
]

-- the calls of the device that the rebuild is made from
pub calls_of_device : (given : Option RebuildTerms) (rebuild : RebuildTerms) (array : Array) (trace : Accepted) → given ≡ Some rebuild
    → IsSound array.disk.map → ReadsRebuild given array.disk.map array.script
    → (device_files given array rebuild.device trace).script.calls ≡ rebuild_calls array.disk.map
calls_of_device given rebuild array trace is sound reads =
    rw (is_from given rebuild is) (rebuilds_have_their_calls array.disk.map array.script sound array.disk.few_blocks
    (subst (λ (r : Option RebuildTerms). ReadsRebuild r array.disk.map array.script) is reads))
