-- A trace that was read can be replayed without a script.
use Rattle.std.proofs.Common.{◌≡◌, ℕ, ◌<◌, List, [], ◌∷◌, length, sym, subst, arith}
use Rattle.std.specs.List.{AllByRecursion}
use Rattle.fb_units.specs.declared.types.Request.{Request}
use Rattle.fb_geometry.specs.Places.{places}
use Rattle.fb_service.specs.declared.disk.Disk.{Disk}
use Rattle.fb_trace.specs.Servable.{IsServable, IsTraceOf}
use Rattle.fb_trace.specs.declared.trace.Trace.{Trace}
use Rattle.fb_script.specs.Allowed.{IsScript}
use Rattle.fb_script.specs.declared.call.Call.{Call}
use Rattle.fb_script.specs.declared.call.Calls.{Calls}
use Rattle.fb_model.specs.Accepted.{IsAccepted, IsRequestOf}
use Rattle.fb_model.specs.PlainReplay.{Key}
use Rattle.fb_decide.specs.RunInputs.{run_inputs}

-- what a trace has is what a disk can serve
all_requests : (disk : Disk) (requests : List Request) → AllByRecursion (IsServable (length (places disk.map))) requests
    → AllByRecursion (IsRequestOf disk.map) requests
all_requests disk [] all = tt
all_requests disk (request ∷ requests) all = (
  record { range = record { some = all.0.some; inside = all.0.inside }; few = all.0.few; arrival = all.0.arrival },
  all_requests disk requests all.1,
)

-- no calls are a script
no_script : (disk : Disk) (traced : ℕ) → IsScript disk.map traced []
no_script disk traced = record {
  instants = tt;
  allowed = tt;
  few_calls = omega arith;
  few_blocks = omega arith;
  few_reads = λ few. omega arith;
}

-- what was read is accepted in any order of service
pub is_accepted : (disk : Disk) (latent : List ℕ) (trace : Trace) (calls : Calls) (key : Key)
    → AllByRecursion (λ lbn. lbn < length (places disk.map)) latent
    → IsTraceOf (length (places disk.map)) trace.requests.items → calls.calls.items ≡ []
    → IsAccepted (run_inputs disk latent trace calls 0 key)
is_accepted disk latent trace calls key inside read none =
    let script = subst (λ (c : List Call). IsScript disk.map (length trace.requests.items) c) (sym none)
    (no_script disk (length trace.requests.items)) in
    record {
      latent = inside;
      requests = all_requests disk trace.requests.items read.servable;
      names = read.names;
      arrivals = read.arrivals;
      instants = script.instants;
      calls = script.allowed;
      few_calls = script.few_calls;
      few_blocks = script.few_blocks;
      few_requests = script.few_reads read.few;
      until = omega arith;
    }
