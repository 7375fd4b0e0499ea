use Rattle.std.proofs.Common.{◌∙◌, ℕ, List, Option, None, ap, arith, refl, sym, subst}
use Rattle.std.specs.Option.{option_map}
use Rattle.std.proofs.lemmas.Result.{err_from_is_err_and}
use Rattle.fb_desk.specs.declared.desk.Input.TheVariants.{Puts}
use Rattle.fb_puts.specs.Verdict.{accepted}
use Rattle.fb_streams.specs.Called.{AsksFiles, replay_asks}
use Rattle.fb_streams.specs.Names.{FileNames, replay_names}
use Rattle.fb_words.specs.Verdict.{replay_terms}
use Rattle.fb_inputs.specs.Causes.{AcceptsFiles, StopsGivenPuts}
use Rattle.fb_inputs.specs.Ends.{failed_input}
use Rattle.fb_inputs.specs.Read.{Accepts, AcceptsPuts, files_of}
use Rattle.fb_inputs.specs.Reading.{file_names}
use Rattle.fb_inputs.proofs.Account.{and_then, ends_at, ends_then, read_one, up_to}
use Rattle.fb_inputs.proofs.Later.{at_puts, puts_before}
use Rattle.fb_desk.specs.View.{InputView}
use Rattle.fb_inputs.proofs.replay_inputs.read_replay_inputs.Given as given
use Rattle.fb_inputs.proofs.replay_inputs.read_replay_inputs.Goals as goal
use Rattle.fb_inputs.proofs.replay_inputs.read_replay_inputs.Goals.{After-read_files}

-- the names of the files are those of the words
files_asked : (g : given.Over) (c : After-read_files g)
    → AsksFiles (replay_asks (replay_terms c.args.words.now)) (file_names c.named_files.result)
files_asked g c =
    subst (λ (names : FileNames). AsksFiles (replay_asks (replay_terms c.args.words.now)) names) (sym c.named_files.ensures)
    (record { params = refl; trace = refl; calls = refl })

pub returns-in_err-files-clause-account : goal.returns-in_err-files-clause-account
returns-in_err-files-clause-account g c =
    let gives = err_from_is_err_and c.from_residual.result c.from_residual.ensures.1 in
    rw (gives.1, gives.2) (up_to Puts (c.in_err-files.ensures.account (replay_asks (replay_terms c.args.words.now))
    (files_asked g (goal.at.returns-in_err-files-clause-account g c).After-read_files)) (omega arith))

pub returns-in_err-files-clause-cause : goal.returns-in_err-files-clause-cause
returns-in_err-files-clause-cause g c =
    let gives = err_from_is_err_and c.from_residual.result c.from_residual.ensures.1 in
    rw (gives.1, gives.2) (c.in_err-files.ensures.cause (replay_names (replay_terms c.args.words.now)) (sym c.named_files.ensures))

pub read_given_puts-requires : goal.read_given_puts-requires
read_given_puts-requires g c =
    let files = files_asked g (goal.at.read_given_puts-requires g c).After-read_files in
    ap (λ (v : InputView). v.opened) ((c.in_ok-files.ensures.account (replay_asks (replay_terms c.args.words.now)) files).later Puts (omega arith))
    ∙ c.requires.unused.inputs Puts

pub returns-in_err-puts-clause-account : goal.returns-in_err-puts-clause-account
returns-in_err-puts-clause-account g c =
    let asks = replay_asks (replay_terms c.args.words.now) in
    let files = files_asked g (goal.at.returns-in_err-puts-clause-account g c).After-read_files in
    let named = sym c.puts_name.ensures in
    let gives = err_from_is_err_and c.from_residual-in_err-puts.result c.from_residual-in_err-puts.ensures.1 in
    rw (gives.1, gives.2) (and_then (c.in_ok-files.ensures.account asks files) (omega arith)
    (read_one asks Puts (option_map (λ name. name.now) c.puts_name.result) (failed_input c.in_err-puts.field-0.0)
    (g.D.Desk.seen c.read_files.new.desk) (g.D.Desk.seen c.read_given_puts.new.desk) named c.in_err-puts.ensures.only
    c.in_err-puts.ensures.opened c.in_err-puts.ensures.unnamed (c.in_err-puts.ensures.calls asks named)))

pub returns-in_err-puts-clause-cause : goal.returns-in_err-puts-clause-cause
returns-in_err-puts-clause-cause g c =
    let old = g.D.Desk.seen c.args.desk.now in
    let mid = g.D.Desk.seen c.read_files.new.desk in
    let new = g.D.Desk.seen c.read_given_puts.new.desk in
    let terms = replay_names (replay_terms c.args.words.now) in
    let error = c.in_err-puts.field-0.0 in
    let files = files_asked g (goal.at.returns-in_err-puts-clause-cause g c).After-read_files in
    let account = c.in_ok-files.ensures.account (replay_asks (replay_terms c.args.words.now)) files in
    let before : AcceptsFiles old terms.files = record {
      files = files_of c.in_ok-files.files;
      accepts = subst (λ (s : FileNames). Accepts old s (files_of c.in_ok-files.files)) c.named_files.ensures c.in_ok-files.ensures.accepts;
    } in
    let gives = err_from_is_err_and c.from_residual-in_err-puts.result c.from_residual-in_err-puts.ensures.1 in
    rw (gives.1, gives.2) (at_puts terms old mid new account.held error before (account.later Puts (omega arith))
    (ends_then (ends_at account) (omega arith) c.in_err-puts.ensures.only)
    (subst (λ (given : Option (List ℕ)). StopsGivenPuts given before.files mid new error) c.puts_name.ensures c.in_err-puts.ensures.stops))

pub returns-clause-account : goal.returns-clause-account
returns-clause-account g c =
    let asks = replay_asks (replay_terms c.args.words.now) in
    let files = files_asked g (goal.at.returns-clause-account g c).After-read_files in
    let named = sym c.puts_name.ensures in
    and_then (c.in_ok-files.ensures.account asks files) (omega arith)
    (read_one asks Puts (option_map (λ name. name.now) c.puts_name.result) None
    (g.D.Desk.seen c.read_files.new.desk) (g.D.Desk.seen c.read_given_puts.new.desk) named c.in_ok-puts.ensures.only
    c.in_ok-puts.ensures.opened c.in_ok-puts.ensures.unnamed (c.in_ok-puts.ensures.calls asks named))

pub returns-clause-puts : goal.returns-clause-puts
returns-clause-puts g c =
    let old = g.D.Desk.seen c.args.desk.now in
    let mid = g.D.Desk.seen c.read_files.new.desk in
    let given = (replay_terms c.args.words.now).puts in
    let files = files_of c.in_ok-files.files in
    let puts = option_map accepted c.in_ok-puts.puts in
    let asked = files_asked g (goal.at.returns-clause-puts g c).After-read_files in
    puts_before old mid given files puts (c.in_ok-files.ensures.account (replay_asks (replay_terms c.args.words.now)) asked).held
    (subst (λ (name : Option (List ℕ)). AcceptsPuts mid name files puts) c.puts_name.ensures c.in_ok-puts.ensures.puts)
