use Rattle.fb_top.proofs.Words.{List, ℕ, Option, length, ap, refl, sym, subst, ◌∙◌, Bool, if◌then◌else◌, promoted, Bytes, fore_text}
use Rattle.fb_top.proofs.Words.{summary_text, device_inputs, ReadsDisk, ReadsScript, ReadsTrace, inputs_of_files, key_of}
use Rattle.std.specs.Prelude.{◌≡◌, ◌++◌, ◌==◌}
use Rattle.std.specs.List.{list_any}
use Rattle.fb_calls.specs.Reading.{Accepted as Script}
use Rattle.fb_texts.specs.Sections.{device_line}
use Rattle.fb_top.proofs.OneRun.{one_disk, one_trace, one_value}
use Rattle.fb_top.proofs.OneSection.{device_reads, devices_promote_none}
use Rattle.fb_top.proofs.SameText.{same_text}
use Rattle.fb_top.proofs.untouched.sections_are_replays.Goals as goal

pub returns : goal.returns
returns c = λ one other terms replay runs run run' are_runs is_run asks at.
    let device = replay.device in
    let array = are_runs.array in
    let files = is_run.files in
    let mine = are_runs.each device run at in
    let reads_disk : ReadsDisk other terms.params files.disk files.latent =
    subst (λ (name : List ℕ). ReadsDisk other name files.disk files.latent) asks.params is_run.accepts.disk in
    let reads_trace : ReadsTrace other terms.trace device files.disk files.trace =
    subst (λ (name : List ℕ). ReadsTrace other name device files.disk files.trace) asks.trace is_run.accepts.trace in
    let no_calls = subst (λ (given : Option (List ℕ)). ReadsScript other given files.disk (length files.trace.requests) files.script)
    asks.no_calls is_run.accepts.script in
    let value =
    one_value one other terms.params array.disk files.disk array.latent files.latent asks.params_alike are_runs.accepts.disk reads_disk in
    let disk =
    one_disk one other terms.params array.disk files.disk array.latent files.latent asks.params_alike are_runs.accepts.disk reads_disk in
    let trace = one_trace one other terms.trace device array.disk files.disk mine.trace files.trace disk asks.trace_alike
    (device_reads one terms.trace terms.devices array.disk array.traces are_runs.accepts.traces device mine.trace mine.here) reads_trace in
    let fore = c.foreground_is_untouched.ensures (device_inputs terms array device mine.trace) (inputs_of_files files
    (key_of replay.policy) replay.until) run run' (record {
      disk = disk;
      latent = λ lbn. ap (λ v. list_any (λ sector. sector == lbn) v.latent) value;
      trace = ap (λ t. t.requests) trace;
      key = ap key_of (sym asks.policy);
      promoted = devices_promote_none terms.rebuild array device mine.trace are_runs.sound are_runs.accepts.script
          ∙ sym (ap (λ (s : Script). promoted s.calls) no_calls);
    }) (record { steps = mine.full.steps; sound = mine.full.sound }) (record { steps = is_run.full.steps; sound = is_run.full.sound }) in
    let text = same_text _ _ terms.bytes run run' (ap (λ d. d.sector_bytes) disk) fore (mine.full.sound.passed_over
    ∙ ap (λ t. t.passed_over) trace ∙ sym is_run.full.sound.passed_over) in
    ap (λ written. device_line device ++ written) (text
    ∙ subst (λ (bytes : Bytes). fore_text files.disk.sector_bytes terms.bytes run' ≡ fore_text files.disk.sector_bytes bytes run')
    (sym asks.bytes) refl
    ∙ subst (λ (summary : Bool). fore_text files.disk.sector_bytes replay.bytes run'
    ≡ (if summary then summary_text run' else fore_text files.disk.sector_bytes replay.bytes run')) (sym asks.no_summary) refl)
