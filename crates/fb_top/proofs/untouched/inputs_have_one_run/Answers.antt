use Rattle.fb_top.proofs.Words.{ℕ, sym, subst, IsFull, Policy, FileNames, replay_file_names, Accepts, Files, inputs_of_files, key_of}
use Rattle.fb_top.proofs.OneRun.{one_reading}
use Rattle.fb_top.proofs.untouched.inputs_have_one_run.Goals as goal

pub returns : goal.returns
returns c = λ one other terms others run run' asks alike is_run is_other.
    let read : Accepts other (replay_file_names terms) is_other.files =
    subst (λ (s : FileNames). Accepts other s is_other.files) (sym asks.names) is_other.accepts in
    c.one_full_run.ensures (inputs_of_files is_run.files (key_of terms.policy) terms.until) run run' is_run.accepted is_run.full
    (subst (λ (files : Files). IsFull (inputs_of_files files (key_of terms.policy) terms.until) run')
    (sym (one_reading one other (replay_file_names terms) is_run.files is_other.files alike is_run.accepts read))
    (subst (λ (policy : Policy). IsFull (inputs_of_files is_other.files (key_of policy) terms.until) run') (sym asks.policy)
    (subst (λ (until : ℕ). IsFull (inputs_of_files is_other.files (key_of others.policy) until) run') (sym asks.until) is_other.full)))
