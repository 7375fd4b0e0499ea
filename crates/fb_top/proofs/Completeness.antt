-- What goes well is done.
use Rattle.fb_top.proofs.Words.{◌≡◌, ℕ, List, length, Option, Some, None, true, refl, sym, ap, subst, ◌∙◌, ◌⊎◌, inl, inr, Result, Ok, Err}
use Rattle.fb_top.proofs.Words.{IfSome, is_some, Disk, Accepted, CallsFault, Grammar, LineFields, fore_grammar, back_grammar, report_of}
use Rattle.fb_top.proofs.Words.{DeskView, Params, Trace, Puts, ForeReport, BackReport, Output, Terms, ReplayTerms, CheckTerms, MakeTerms}
use Rattle.fb_top.proofs.Words.{ArrayTerms, RebuildTerms, replays, makes, checks, arrays, replay_names, check_names, array_names, IsLonger}
use Rattle.fb_top.proofs.Words.{ReadsAs, AcceptsDisk, StopsInputs, ReadsRebuild, StopsArray, Files, ReadsReport, ReadsScript}
use Rattle.fb_top.proofs.Words.{RefusesReport, InputsError, ArrayHasCause, array_texts, survivor, CheckHasCause, HasCause, check_texts}
use Rattle.fb_top.proofs.Words.{IsJudged, TellsReport, unread, MakeHasCause, make_texts, IsReplayCut, replay_texts, HoldAlike, Outcome}
use Rattle.fb_desk.specs.declared.desk.Input.{Input}
use Rattle.fb_desk.specs.declared.desk.Input.TheVariants.{Calls}
use Rattle.fb_words.specs.declared.fault.UsageFault.{UsageFault}
use Rattle.fb_streams.specs.Names.{InputNames}
use Rattle.fb_inputs.specs.Causes.{AcceptsFiles, AcceptsTrace, IsTooLong, RefusesReportInTurn}
use Rattle.fb_inputs.specs.Devices.{RefusesRebuild, RefusesTraces}
use Rattle.fb_inputs.specs.Limits.{limit_of, report_limit}
use Rattle.fb_inputs.specs.Read.{ReadsCalls, RefusesCalls, RefusesPuts, RefusesTrace}
use Rattle.fb_inputs.specs.declared.error.InputsError.TheVariants as inputs
use Rattle.fb_inputs.proofs.Account.{is_named}
use Rattle.fb_texts.specs.Written.{OutputFaultsRose}
use Rattle.fb_texts.specs.declared.error.TextsError.TheVariants as faults
use Rattle.fb_texts.proofs.Texts.{cut_among}
use Rattle.fb_top.specs.Answers.{AnswersWords}
use Rattle.fb_top.specs.Array.{ArrayGoesWell, IsReplayed}
use Rattle.fb_top.specs.Complete.{CheckGoesWell, GoesWell, IsComplete, IsMade, ReadsWell, TellsPuts}
use Rattle.fb_top.specs.Ends.{IsUnaccepted}
use Rattle.fb_top.specs.Make.{MakeGoesWell, MakesAll}
use Rattle.fb_top.specs.declared.outcome.Outcome.TheVariants as outcomes
use Rattle.fb_top.proofs.Alike.{alike, never_longer, never_refused}
use Rattle.fb_top.proofs.Arrayed.{all_rebuild}
use Rattle.fb_top.proofs.OneRun.{one_disk, one_reading, one_trace}
use Rattle.fb_top.proofs.Spills.{all_replay, holds_of}

-- the lines of a report are what its bytes are read as
lines_read : {desk : DeskView} {name : List ℕ} {grammar : Grammar} {lines : List LineFields} → ReadsReport desk name grammar lines
    → ReadsAs desk name report_limit (report_of grammar) (Ok lines)
lines_read reads = record { bytes = reads.bytes; held = reads.held; within = reads.within; spells = reads.spells }

same_name : (one two : List ℕ) → ◌≡◌ {A = Option (List ℕ)} (Some one) (Some two) → one ≡ two
same_name one two e = cc

-- what is accepted is not refused
module _ (old new : DeskView) (terms : InputNames) (well : ReadsWell old new terms) where
  abbrev files : Files
  files = well.files

  params_alike : HoldAlike old old terms.files.params
  params_alike = alike old terms.files.params well.params_told

  trace_alike : HoldAlike old old terms.files.trace
  trace_alike = alike old terms.files.trace well.trace_told

  calls_alike : (given : Option (List ℕ)) → IfSome given (λ name. is_some (old.held name) ≡ true) → IfSome given (HoldAlike old old)
  calls_alike None told = tt
  calls_alike (Some name) told = alike old name told

  script_alike : (name : List ℕ) → terms.files.calls ≡ Some name → HoldAlike old old name
  script_alike name given =
      holds_of (HoldAlike old old) terms.files.calls name given (calls_alike terms.files.calls well.calls_told)

  same_disk : (other : AcceptsDisk old terms.files.params) → other.disk ≡ files.disk
  same_disk other =
      one_disk old old terms.files.params other.disk files.disk other.latent files.latent params_alike other.reads_disk well.accepts.disk

  same_trace : (other : AcceptsTrace old terms.files) → other.trace ≡ files.trace
  same_trace other =
      one_trace old old terms.files.trace terms.files.device other.params.disk files.disk other.trace files.trace (same_disk other.params)
      trace_alike other.reads_trace well.accepts.trace

  same_files : (other : AcceptsFiles old terms.files) → other.files ≡ files
  same_files other = one_reading old old terms.files other.files files (record {
    params = params_alike;
    trace = trace_alike;
    calls = calls_alike terms.files.calls well.calls_told;
  }) other.accepts well.accepts

  -- what is read under a name that is given
  calls_under : (name : List ℕ) → terms.files.calls ≡ Some name → ReadsCalls old name files.disk (length files.trace.requests) files.script
  calls_under name given =
      subst (λ (told : Option (List ℕ)). ReadsScript old told files.disk (length files.trace.requests) files.script) given
      well.accepts.script

  puts_under : (name : List ℕ) → terms.puts ≡ Some name → TellsPuts old files name
  puts_under name given = holds_of (TellsPuts old files) terms.puts name given well.puts_told

  fore_under : (name : List ℕ) → terms.fore ≡ Some name → TellsReport old fore_grammar name
  fore_under name given = holds_of (TellsReport old fore_grammar) terms.fore name given well.fore_told

  back_under : (name : List ℕ) → terms.back ≡ Some name → TellsReport old back_grammar name
  back_under name given = holds_of (TellsReport old back_grammar) terms.back name given well.back_told

  report_once : (grammar : Grammar) (name : List ℕ) (line : ℕ) → TellsReport old grammar name → RefusesReport old name grammar line → ⊥
  report_once grammar name line tells refuses = never_refused old old name (alike old name tells.told) (lines_read tells.reads) refuses

  reports_once : (report : Input) (line : ℕ) → (report ≡ ForeReport) ⊎ (report ≡ BackReport)
      → RefusesReportInTurn old terms (record { input = report; line = line }) → ⊥
  reports_once ForeReport line is turn = report_once fore_grammar turn.name line (fore_under turn.name turn.given) turn.refuses
  reports_once BackReport line is turn = report_once back_grammar turn.name line (back_under turn.name turn.given) turn.refuses
  reports_once (_) line (inl is) turn = cc
  reports_once (_) line (inr is) turn = cc

  not_too_long : (input : Input) → IsTooLong old terms input → ⊥
  not_too_long Params long = never_longer old old terms.files.params params_alike well.accepts.disk
      (subst (λ (name : List ℕ). IsLonger old name (limit_of Params)) (sym (same_name terms.files.params long.name long.given)) long.longer)
  not_too_long Trace long = never_longer old old terms.files.trace trace_alike well.accepts.trace
      (subst (λ (name : List ℕ). IsLonger old name (limit_of Trace)) (sym (same_name terms.files.trace long.name long.given)) long.longer)
  not_too_long Calls long = never_longer old old long.name (script_alike long.name long.given)
      (calls_under long.name long.given) long.longer
  not_too_long Puts long = let tells = puts_under long.name long.given in
      never_longer old old long.name (alike old long.name tells.told) tells.reads long.longer
  not_too_long ForeReport long = let tells = fore_under long.name long.given in
      never_longer old old long.name (alike old long.name tells.told) (lines_read tells.reads) long.longer
  not_too_long BackReport long = let tells = back_under long.name long.given in
      never_longer old old long.name (alike old long.name tells.told) (lines_read tells.reads) long.longer

  -- no input stops what goes well, but memory may
  pub goes_on : (error : InputsError) → StopsInputs terms old new error → error ≡ inputs.NoMemory
  goes_on (inputs.Params fault) cause = absurd (never_refused old old terms.files.params params_alike well.accepts.disk cause.0)
  goes_on (inputs.Trace fault) cause = absurd (never_refused old old terms.files.trace trace_alike well.accepts.trace
      (subst (λ (d : Disk). RefusesTrace old terms.files.trace terms.files.device d fault) (same_disk cause.0.before) cause.0.refuses))
  goes_on (inputs.Calls fault) cause = let turn = cause.0 in let disk = turn.before.params.disk in
      absurd (never_refused old old turn.name (script_alike turn.name turn.given) (calls_under turn.name turn.given)
      (subst (λ (t : Accepted). RefusesCalls old turn.name files.disk (length t.requests) fault) (same_trace turn.before)
      (subst (λ (d : Disk). RefusesCalls old turn.name d (length turn.before.trace.requests) fault) (same_disk turn.before.params)
      turn.refuses)))
  goes_on (inputs.Puts fault) cause = let turn = cause.0 in let tells = puts_under turn.name turn.given in
      absurd (never_refused old old turn.name (alike old turn.name tells.told) tells.reads
      (subst (λ (f : Files). RefusesPuts old turn.name f fault) (same_files turn.before) turn.refuses))
  goes_on (inputs.Reports fault) cause = absurd (reports_once fault.input fault.line cause.0.report cause.0)
  goes_on (inputs.TooLong input) cause = absurd (not_too_long input cause.0)
  goes_on (inputs.ReadFault input) cause = absurd (well.calm input cause.0.rose)
  goes_on inputs.NoMemory cause = refl

module _ (old new : DeskView) (terms : ReplayTerms) (well : GoesWell old new terms) where
  not_cut : (output : Output) → IsReplayCut old new terms (faults.WriteFault output) → ⊥
  not_cut output cut =
      let texts = replay_texts terms cut.is_run.files cut.run cut.spill in
      let calm = all_replay (λ which. OutputFaultsRose old new which → ⊥) terms cut.is_run.files cut.run cut.spill well.fore well.back
      well.spill in
      cut_among (λ which. OutputFaultsRose old new which → ⊥) texts output calm cut.stops.1 cut.stops.0

  stopped : (outcome : Outcome) → IsUnaccepted (StopsInputs (replay_names terms) old new) outcome → IsMade outcome
  stopped outcome h = subst IsMade (sym (h.1 ∙ ap unread (goes_on old new (replay_names terms) well.inputs h.0 h.2))) tt

  made : (outcome : Outcome) → HasCause terms old new outcome → IsMade outcome
  made (outcomes.Done run) cause = tt
  made (outcomes.Spilled ran spilled) cause = tt
  made (outcomes.WriteFault output) cause = absurd (not_cut output cause)
  made outcomes.NoMemory cause = tt
  made outcome cause = stopped outcome cause

module _ (old new : DeskView) (terms : CheckTerms) (well : CheckGoesWell old new terms) where
  check_stopped : (outcome : Outcome) → IsUnaccepted (StopsInputs (check_names terms) old new) outcome → IsJudged outcome
  check_stopped outcome h = subst IsJudged (sym (h.1 ∙ ap unread (goes_on old new (check_names terms) well.inputs h.0 h.2))) tt

  judged : (outcome : Outcome) → CheckHasCause terms old new outcome → IsJudged outcome
  judged (outcomes.Checked verdict) cause = tt
  judged (outcomes.WriteFault output) cause = absurd (cut_among (λ which. OutputFaultsRose old new which → ⊥) (check_texts cause.verdict)
      output (well.fore, tt) cause.stops.1 cause.stops.0)
  judged outcomes.NoMemory cause = tt
  judged outcome cause = check_stopped outcome cause

made_texts : (old new : DeskView) (terms : MakeTerms) (outcome : Outcome) → MakeHasCause terms old new outcome → MakeGoesWell old new terms
    → MakesAll terms outcome
made_texts old new terms (outcomes.Made n) cause well = cause.count
made_texts old new terms (outcomes.Params fault) cause well =
    absurd (never_refused old old terms.params (alike old terms.params well.params_told) well.makes.reads_disk cause.0)
made_texts old new terms (outcomes.TooLong Params) cause well =
    absurd (never_longer old old terms.params (alike old terms.params well.params_told) well.makes.reads_disk cause.0)
made_texts old new terms (outcomes.ReadFault Params) cause well = well.params cause.0
made_texts old new terms (outcomes.WriteFault output) cause well =
    absurd (cut_among (λ which. OutputFaultsRose old new which → ⊥) (make_texts terms cause.makes.disk) output
    (well.trace, (well.calls, tt)) cause.stops.1 cause.stops.0)
made_texts old new terms outcomes.NoMemory cause well = tt
made_texts old new terms _ cause well = absurd cause

-- nor is what an array needs
module _ (old new : DeskView) (terms : ArrayTerms) (well : ArrayGoesWell old new terms) where
  array_params : HoldAlike old old terms.params
  array_params = alike old terms.params well.params_told

  array_trace : HoldAlike old old terms.trace
  array_trace = alike old terms.trace well.trace_told

  array_disk : (other : AcceptsDisk old terms.params) → other.disk ≡ well.array.disk
  array_disk other =
      one_disk old old terms.params other.disk well.array.disk other.latent well.array.latent array_params other.reads_disk well.accepts.disk

  rebuild_once : (rebuild : Option RebuildTerms) (fault : CallsFault) → is_some rebuild ≡ true
      → ReadsRebuild rebuild well.array.disk.map well.array.script → RefusesRebuild well.array.disk.map fault → ⊥
  rebuild_once (Some rebuild) fault given reads refuses =
      let read = reads 0 in let refused = refuses.spells 0 in cc
  rebuild_once None fault given reads refuses = cc

  array_not_too_long : (input : Input) → IsTooLong old (array_names terms) input → ⊥
  array_not_too_long Params long = never_longer old old terms.params array_params well.accepts.disk
      (subst (λ (name : List ℕ). IsLonger old name (limit_of Params)) (sym (same_name terms.params long.name long.given)) long.longer)
  array_not_too_long Trace long = never_longer old old terms.trace array_trace well.accepts.traces
      (subst (λ (name : List ℕ). IsLonger old name (limit_of Trace)) (sym (same_name terms.trace long.name long.given)) long.longer)
  array_not_too_long Calls long = is_named long.name (sym long.given)
  array_not_too_long Puts long = is_named long.name (sym long.given)
  array_not_too_long ForeReport long = is_named long.name (sym long.given)
  array_not_too_long BackReport long = is_named long.name (sym long.given)

  no_report : (report : Input) (line : ℕ) → (report ≡ ForeReport) ⊎ (report ≡ BackReport)
      → RefusesReportInTurn old (array_names terms) (record { input = report; line = line }) → ⊥
  no_report ForeReport line is turn = is_named turn.name (sym turn.given)
  no_report BackReport line is turn = is_named turn.name (sym turn.given)
  no_report (_) line (inl is) turn = cc
  no_report (_) line (inr is) turn = cc

  array_goes_on : (error : InputsError) → StopsArray terms old new error → error ≡ inputs.NoMemory
  array_goes_on (inputs.Params fault) cause = absurd (never_refused old old terms.params array_params well.accepts.disk cause.0)
  array_goes_on (inputs.Trace fault) cause = absurd (never_refused old old terms.trace array_trace well.accepts.traces
      (subst (λ (d : Disk). RefusesTraces old terms.trace terms.devices d fault) (array_disk cause.0.before) cause.0.refuses))
  array_goes_on (inputs.Calls fault) cause = absurd (rebuild_once terms.rebuild fault cause.0.given well.accepts.script
      (subst (λ (d : Disk). RefusesRebuild d.map fault) (array_disk cause.0.before) cause.0.refuses))
  array_goes_on (inputs.Puts fault) cause = absurd (is_named cause.0.name (sym cause.0.given))
  array_goes_on (inputs.Reports fault) cause = absurd (no_report fault.input fault.line cause.0.report cause.0)
  array_goes_on (inputs.TooLong input) cause = absurd (array_not_too_long input cause.0)
  array_goes_on (inputs.ReadFault input) cause = absurd (well.inputs input cause.0.rose)
  array_goes_on inputs.NoMemory cause = refl

  array_unaccepted : (outcome : Outcome) → IsUnaccepted (StopsArray terms old new) outcome → IsReplayed outcome
  array_unaccepted outcome h = subst IsReplayed (sym (h.1 ∙ ap unread (array_goes_on h.0 h.2))) tt

  replayed : (outcome : Outcome) → ArrayHasCause terms old new outcome → IsReplayed outcome
  replayed (outcomes.Arrayed runs copy) cause = tt
  replayed (outcomes.WriteFault output) cause =
      absurd (cut_among (λ which. OutputFaultsRose old new which → ⊥) (array_texts terms cause.are_runs.array cause.runs) output (
        well.fore,
        all_rebuild (λ which. OutputFaultsRose old new which → ⊥) terms cause.are_runs.array terms.rebuild
            (survivor terms.rebuild cause.runs) well.back well.copied,
      ) cause.stops.1 cause.stops.0)
  replayed outcomes.NoMemory cause = tt
  replayed outcome cause = array_unaccepted outcome cause

-- an answer with its cause is complete
pub complete : (reading : Result Terms UsageFault) (old new : DeskView) (outcome : Outcome) → AnswersWords reading old new outcome
    → IsComplete reading old new outcome
complete (Ok (replays terms)) old new outcome cause = λ well. made old new terms well outcome cause
complete (Ok (makes terms)) old new outcome cause = made_texts old new terms outcome cause
complete (Ok (checks terms)) old new outcome cause = λ well. judged old new terms well outcome cause
complete (Ok (arrays terms)) old new outcome cause = λ well. replayed old new terms well outcome cause
complete (Err fault) old new outcome cause = tt
