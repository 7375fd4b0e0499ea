use Rattle.fb_inputs.specs.Read.{inputs_of_files, key_of}
use Rattle.fb_top.proofs.untouched.runs_look_not_ahead.Goals as goal

pub returns : goal.returns
returns c = λ one other terms others run run' is_run is_other t early also_early agree.
    c.nothing_looks_ahead.ensures (inputs_of_files is_run.files (key_of terms.policy) terms.until)
    (inputs_of_files is_other.files (key_of others.policy) others.until) run run' t
    is_run.sound is_run.accepted is_other.accepted is_run.full is_other.full early also_early agree
