-- The inputs that are lent to a replay, as the inputs of a run.
use Rattle.std.specs.Prelude.{ℕ, List}
use Rattle.fb_service.specs.declared.disk.Disk.{Disk}
use Rattle.fb_trace.specs.declared.trace.Trace.{Trace}
use Rattle.fb_script.specs.declared.call.Calls.{Calls}
use Rattle.fb_model.specs.Inputs.{Inputs}
use Rattle.fb_model.specs.PlainReplay.{Key}
use Rattle.fb_decide.specs.declared.run_inputs.RunInputs.{RunInputs}

-- the inputs of a run on this disk, with these unreadable sectors, trace, calls and end, in the order of a queue that has this key
abbrev pub run_inputs : Disk → List ℕ → Trace → Calls → ℕ → Key → Inputs
run_inputs disk latent trace calls until key = record {
  disk = disk;
  latent = latent;
  trace = trace.requests.items;
  passed_over = trace.passed_over;
  calls = calls.calls.items;
  key = key;
  until = until;
}

-- these inputs, with the order of a queue that has this key
abbrev pub inputs_of : RunInputs → Key → Inputs
inputs_of inputs key = run_inputs inputs.disk.now inputs.latent.now inputs.trace.now inputs.calls.now inputs.until key
