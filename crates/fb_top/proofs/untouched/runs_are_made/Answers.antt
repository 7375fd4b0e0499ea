use Rattle.fb_inputs.specs.Read.{inputs_of_files, key_of}
use Rattle.fb_top.proofs.untouched.runs_are_made.Goals as goal

pub returns : goal.returns
returns c = λ desk terms run is_run.
    (c.full_runs_exist.ensures (inputs_of_files is_run.files (key_of terms.policy) terms.until) is_run.sound is_run.accepted).only run is_run.full
