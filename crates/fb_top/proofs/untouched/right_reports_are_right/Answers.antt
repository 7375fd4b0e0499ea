use Rattle.fb_top.proofs.Words.{◌≡◌, ℕ, sym, subst, IsFull, back_lines, fore_lines, back_grammar, fore_grammar, spelled, Reports, Policy}
use Rattle.fb_top.proofs.Words.{Accepts, Files, inputs_of_files, key_of, FileNames, replay_file_names}
use Rattle.std.specs.Prelude.{map}
use Rattle.fb_top.proofs.OneRun.{one_reading}
use Rattle.fb_top.proofs.RightReports.{is_yes, read_as}
use Rattle.fb_top.proofs.untouched.right_reports_are_right.Goals as goal

pub returns : goal.returns
returns c = λ one other terms checks run verdict is_run is_verdict asks own.
    let read : Accepts other (replay_file_names terms) is_verdict.files =
    subst (λ (s : FileNames). Accepts other s is_verdict.files) asks.names is_verdict.accepts in
    let same : is_run.files ≡ is_verdict.files =
    one_reading one other (replay_file_names terms) is_run.files is_verdict.files asks.alike is_run.accepts read in
    let judges = is_verdict.judges in
    let printed : Reports =
    record { names = is_verdict.files.script.names; bytes = checks.bytes; fore = judges.fore; back = judges.judges_back.back } in
    is_yes c.one_full_run.ensures (inputs_of_files is_verdict.files (key_of checks.policy) checks.until) printed run is_verdict.accepted
    (subst (λ (files : Files). IsFull (inputs_of_files files (key_of checks.policy) checks.until) run) same
    (subst (λ (policy : Policy). IsFull (inputs_of_files is_run.files (key_of policy) checks.until) run) (sym asks.policy)
    (subst (λ (until : ℕ). IsFull (inputs_of_files is_run.files (key_of terms.policy) until) run) (sym asks.until) is_run.full)))
    (subst (λ (files : Files). fore_lines files.disk.sector_bytes checks.bytes run ≡ map spelled judges.fore) same
    (read_as other checks.fore fore_grammar _ judges.fore own.fore judges.fore_read))
    (subst (λ (files : Files). back_lines files.script.names files.disk.sector_bytes checks.bytes run ≡ map spelled judges.judges_back.back)
    same (read_as other checks.back back_grammar _ judges.judges_back.back own.back judges.judges_back.back_read))
    verdict judges.judges_back.verdict_is
