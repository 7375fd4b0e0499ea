use Rattle.fb_top.proofs.Words.{ap, sym, ◌∙◌, inputs_of_files, key_of}
use Rattle.fb_top.proofs.SameText.{same_text}
use Rattle.fb_top.proofs.untouched.scripts_leave_the_foreground.Goals as goal

pub returns : goal.returns
returns c = λ one other terms others run run' is_run is_other bytes policy asks.
    let fore = c.foreground_is_untouched.ensures (inputs_of_files is_run.files (key_of terms.policy) terms.until)
    (inputs_of_files is_other.files (key_of others.policy) others.until) run run'
    (record {
      disk = asks.disk;
      latent = asks.latent;
      trace = ap (λ trace. trace.requests) asks.trace;
      key = ap key_of policy;
      promoted = asks.reads;
    })
    (record { steps = is_run.full.steps; sound = is_run.full.sound })
    (record { steps = is_other.full.steps; sound = is_other.full.sound }) in
    same_text _ _ bytes run run' (ap (λ disk. disk.sector_bytes) asks.disk) fore
    (is_run.full.sound.passed_over ∙ ap (λ trace. trace.passed_over) asks.trace ∙ sym is_other.full.sound.passed_over)
