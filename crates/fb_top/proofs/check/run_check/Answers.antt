use Rattle.fb_top.proofs.Words.{◌∙◌, ap, arith, refl, sym, subst, OutputView, Fore, Note, ForeReport, BackReport, check_terms, check_asks}
use Rattle.fb_top.proofs.Words.{FileNames, check_names, then_ends, Accepts, files_of, key_of, CheckHasCause, EndsAs, failed_at, TakesCheck}
use Rattle.fb_top.proofs.Words.{Outcome}
use Rattle.fb_desk.specs.View.{InputView}
use Rattle.fb_streams.specs.Called.{AsksFiles}
use Rattle.fb_inputs.specs.Reading.{file_names}
use Rattle.fb_top.proofs.Checking.{check_stopped}
use Rattle.fb_top.proofs.Ends.{unread_ends}
use Rattle.fb_top.proofs.check.run_check.Given as given
use Rattle.fb_top.proofs.check.run_check.Goals as goal
use Rattle.fb_top.proofs.check.run_check.Goals.{After-read_files, In-Ok}

-- the names of the files are those of the words
files_asked : (g : given.Over) (c : After-read_files g) → AsksFiles (check_asks (check_terms c.args.words.now)) (file_names c.named_files.result)
files_asked g c =
    subst (λ (names : FileNames). AsksFiles (check_asks (check_terms c.args.words.now)) names) (sym c.named_files.ensures)
    (record { params = refl; trace = refl; calls = refl })

-- the files were accepted
taken : (g : given.Over) (c : In-Ok g) (files : AsksFiles (check_asks (check_terms c.args.words.now)) (file_names c.named_files.result))
    → TakesCheck (check_terms c.args.words.now) (files_of c.in-Ok.files) (g.D.Desk.seen c.args.desk.now) (g.D.Desk.seen c.read_files.new.desk)
taken g c files = record {
  accepts = subst (λ (s : FileNames). Accepts (g.D.Desk.seen c.args.desk.now) s (files_of c.in-Ok.files)) c.named_files.ensures
      c.in-Ok.ensures.accepts;
  sound = c.in-Ok.ensures.sound;
  fit = c.in-Ok.ensures.fit (key_of c.args.words.now.policy) c.args.words.now.until c.requires.until;
  account = c.in-Ok.ensures.account (check_asks (check_terms c.args.words.now)) files;
}

pub check_read-requires-clause-fresh_fore : goal.check_read-requires-clause-fresh_fore
check_read-requires-clause-fresh_fore g c =
    ap (λ (v : InputView). v.opened) ((taken g (goal.at.check_read-requires-clause-fresh_fore g c).In-Ok (files_asked g (goal.at.check_read-requires-clause-fresh_fore g c).After-read_files)).account.later ForeReport (omega arith))
    ∙ c.requires.unused.inputs ForeReport

pub check_read-requires-clause-fresh_back : goal.check_read-requires-clause-fresh_back
check_read-requires-clause-fresh_back g c =
    ap (λ (v : InputView). v.opened) ((taken g (goal.at.check_read-requires-clause-fresh_back g c).In-Ok (files_asked g (goal.at.check_read-requires-clause-fresh_back g c).After-read_files)).account.later BackReport (omega arith))
    ∙ c.requires.unused.inputs BackReport

pub check_read-requires-clause-fresh : goal.check_read-requires-clause-fresh
check_read-requires-clause-fresh g c =
    let files = files_asked g (goal.at.check_read-requires-clause-fresh g c).After-read_files in
    ap (λ (v : OutputView). v.begun) ((taken g (goal.at.check_read-requires-clause-fresh g c).In-Ok files).account.outputs Fore)
    ∙ c.requires.unused.outputs Fore

pub returns-in-Ok-clause-no_note : goal.returns-in-Ok-clause-no_note
returns-in-Ok-clause-no_note g c =
    let files = files_asked g (goal.at.returns-in-Ok-clause-no_note g c).After-read_files in
    c.check_read.ensures.no_note ∙ (taken g (goal.at.returns-in-Ok-clause-no_note g c).In-Ok files).account.outputs Note

pub returns-in-Err-clause-no_note : goal.returns-in-Err-clause-no_note
returns-in-Err-clause-no_note g c = (c.in-Err.ensures.account (check_asks (check_terms c.args.words.now))
    (files_asked g (goal.at.returns-in-Err-clause-no_note g c).After-read_files)).outputs Note

pub returns-in-Ok-clause-cause : goal.returns-in-Ok-clause-cause
returns-in-Ok-clause-cause g c =
    c.check_read.ensures.cause (g.D.Desk.seen c.args.desk.now) (taken g (goal.at.returns-in-Ok-clause-cause g c).In-Ok (files_asked g (goal.at.returns-in-Ok-clause-cause g c).After-read_files))

pub returns-in-Err-clause-cause : goal.returns-in-Err-clause-cause
returns-in-Err-clause-cause g c =
    let terms = check_terms c.args.words.now in
    let old = g.D.Desk.seen c.args.desk.now in
    let new = g.D.Desk.seen c.read_files.new.desk in
    subst (CheckHasCause terms old new) (sym c.from.ensures)
    (check_stopped terms old new c.in-Err.error (c.in-Err.ensures.cause (check_names terms) (sym c.named_files.ensures)))

pub returns-in-Ok-clause-inputs : goal.returns-in-Ok-clause-inputs
returns-in-Ok-clause-inputs g c =
    c.check_read.ensures.inputs (g.D.Desk.seen c.args.desk.now) (taken g (goal.at.returns-in-Ok-clause-inputs g c).In-Ok (files_asked g (goal.at.returns-in-Ok-clause-inputs g c).After-read_files))

pub returns-in-Err-clause-inputs : goal.returns-in-Err-clause-inputs
returns-in-Err-clause-inputs g c = (c.in-Err.ensures.account (check_asks (check_terms c.args.words.now))
    (files_asked g (goal.at.returns-in-Err-clause-inputs g c).After-read_files)).inputs

pub returns-in-Ok-clause-calls : goal.returns-in-Ok-clause-calls
returns-in-Ok-clause-calls g c =
    then_ends (failed_at c.check_read.result) _ (taken g (goal.at.returns-in-Ok-clause-calls g c).In-Ok (files_asked g (goal.at.returns-in-Ok-clause-calls g c).After-read_files)).account.calls
    c.check_read.ensures.calls

pub returns-in-Err-clause-calls : goal.returns-in-Err-clause-calls
returns-in-Err-clause-calls g c =
    let asks = check_asks (check_terms c.args.words.now) in
    subst (λ (outcome : Outcome). EndsAs asks outcome (g.D.Desk.seen c.args.desk.now).calls (g.D.Desk.seen c.read_files.new.desk).calls)
    (sym c.from.ensures)
    (unread_ends _ c.in-Err.error _ _ (c.in-Err.ensures.account asks (files_asked g (goal.at.returns-in-Err-clause-calls g c).After-read_files)).calls)
