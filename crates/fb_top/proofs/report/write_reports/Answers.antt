use Rattle.fb_top.proofs.Words.{◌≢◌, refl, codes, err_from_is_err_and, Back, Fore, replay_terms, files_of, then_result, replay_asks}
use Rattle.fb_top.proofs.Words.{failed_output, given_text, one_text, all_given, stopped_sooner, then_texts, back_told}
use Rattle.fb_top.specs.Done.{fore_told}
use Rattle.fb_top.proofs.report.write_reports.Goals as goal

pub returns-in_err-write_fore-clause-texts : goal.returns-in_err-write_fore-clause-texts
returns-in_err-write_fore-clause-texts g c =
    let terms = replay_terms c.args.words.now in
    let files = files_of c.args.files.now in
    let run = c.args.run.now in
    let failed = err_from_is_err_and c.from_residual.result c.from_residual.ensures.1 in
    rw (failed.1, failed.2) (stopped_sooner (one_text Fore (codes "-") (fore_told terms files run))
    (given_text Back terms.back (back_told terms files run)) _ _ c.in_err-write_fore.field-0.0 c.in_err-write_fore.ensures.texts)

pub returns-clause-texts : goal.returns-clause-texts
returns-clause-texts g c =
    let terms = replay_terms c.args.words.now in
    let files = files_of c.args.files.now in
    let told = back_told terms files c.args.run.now in
    then_texts (one_text Fore (codes "-") (fore_told terms files c.args.run.now)) (given_text Back terms.back told)
    (g.D.Desk.seen c.write_given.new.desk) c.in_ok-write_fore.ensures.texts
    (all_given (λ output. Fore ≢ output) Back terms.back told (λ e. cc), tt) c.write_given.result c.write_given.ensures.texts

pub returns-clause-calls : goal.returns-clause-calls
returns-clause-calls g c =
    then_result failed_output c.write_given.result _ c.in_ok-write_fore.ensures.calls
    (c.write_given.ensures.calls (replay_asks (replay_terms c.args.words.now)) refl)
