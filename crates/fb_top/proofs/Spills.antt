-- What a replay writes, and why it has its answer.
use Rattle.fb_top.proofs.Words.{◌≡◌, ◌≢◌, ℕ, List, Option, Result, Some, None, refl, sym, subst, inr, IfSome, is_some, AllByRecursion}
use Rattle.fb_top.proofs.Words.{all_append, Run, IsFull, SpillRun, DeskView, Puts, Output, Fore, Back, Spill, ReplayTerms, RunsOut, Files}
use Rattle.fb_top.proofs.Words.{inputs_of_files, key_of, replay_names, TextsError, StopsTexts, Text, WritesAll, WritesTexts, given_text}
use Rattle.fb_top.proofs.Words.{all_given, stopped_sooner, stops_texts, then_texts, writes_all, HasCause, AreReadBack, CanBeRead, IsRunOf}
use Rattle.fb_top.proofs.Words.{back_told, report_texts, unwritten, IsReplayCut, replay_texts, spill_told, done_as, ends_at}
use Rattle.fb_puts.specs.Reading.{Accepted as PutsRead}
use Rattle.fb_inputs.specs.Read.{AcceptsPuts}
use Rattle.fb_texts.specs.declared.error.TextsError.TheVariants as faults
use Rattle.fb_top.specs.Spilled.{IsSpillOf, WritesGiven}
use Rattle.fb_top.specs.Taken.{TakesReplay}
use Rattle.fb_top.proofs.Readable.{run_can_be_read}

-- what holds of a thing that is given
pub holds_of : {X : Type 0} (P : X → Type 0) (given : Option X) (x : X) → given ≡ Some x → IfSome given P → P x
holds_of P given x is all = subst (λ o. IfSome o P) is all

-- what holds of the outputs of reports holds of their texts
pub all_reports : (P : Output → Type 0) (terms : ReplayTerms) (files : Files) (run : Run) → P Fore → P Back
    → AllByRecursion (λ text. P text.output) (report_texts terms files run)
all_reports P terms files run fore back = (fore, all_given P Back terms.back (back_told terms files run) back)

-- and so of a replay
pub all_replay : (P : Output → Type 0) (terms : ReplayTerms) (files : Files) (run : Run) (spill : Option SpillRun) → P Fore → P Back
    → P Spill → AllByRecursion (λ text. P text.output) (replay_texts terms files run spill)
all_replay P terms files run None fore back spill = all_reports P terms files run fore back
all_replay P terms files run (Some written) fore back spill =
    all_append (λ text. P text.output) (report_texts terms files run) (given_text Spill terms.spill (spill_told terms files written))
    (all_reports P terms files run fore back) (all_given P Spill terms.spill (spill_told terms files written) spill)

-- the reports were not all written
pub reports_stopped : (terms : ReplayTerms) (files : Files) (run : Run) (spill : Option SpillRun) (old new : DeskView) (error : TextsError)
    → StopsTexts (report_texts terms files run) old new error → StopsTexts (replay_texts terms files run spill) old new error
reports_stopped terms files run None old new error h = h
reports_stopped terms files run (Some spill) old new error h =
    stopped_sooner (report_texts terms files run) (given_text Spill terms.spill (spill_told terms files spill)) old new error h

-- or they were, and then the spills or a part of them
pub then_spill : (terms : ReplayTerms) (files : Files) (run : Run) (spill : SpillRun) {old mid : DeskView} (new : DeskView)
    (result : Result (Unit {0}) TextsError) → WritesAll (report_texts terms files run) old mid
    → WritesTexts (given_text Spill terms.spill (spill_told terms files spill)) mid new result
    → WritesTexts (replay_texts terms files run (Some spill)) old new result
then_spill terms files run spill new result reports h =
    let told = spill_told terms files spill in
    let text = given_text Spill terms.spill told in
    then_texts (report_texts terms files run) text new reports
    (all_reports (λ output. AllByRecursion (λ other. output ≢ other.output) text) terms files run
    (all_given (λ output. Fore ≢ output) Spill terms.spill told (λ e. cc))
    (all_given (λ output. Back ≢ output) Spill terms.spill told (λ e. cc))) result h

-- no spills were written where the words name no puts
no_puts : (desk : DeskView) (files : Files) (run : Run) (given : Option (List ℕ)) (puts : Option PutsRead)
    → AcceptsPuts desk given files puts → WritesGiven files.disk run puts None → given ≡ None
no_puts desk files run None None accepts writes = refl
no_puts desk files run (Some name) None accepts writes = absurd accepts
no_puts desk files run given (Some puts) accepts writes = absurd writes

-- a run of inputs that were taken
module _ (terms : ReplayTerms) (files : Files) (puts : Option PutsRead) (old mid : DeskView)
    (takes : TakesReplay terms files puts old mid) where
  -- memory ran out
  pub replay_ran_out : RunsOut old mid (replay_names terms)
  replay_ran_out =
      record { input = Puts; before = record { files = files; accepts = takes.accepts }; ends = ends_at takes.account }

  module _ (run : Run) (full : IsFull (inputs_of_files files (key_of terms.policy) terms.until) run) where
    abbrev is_run : IsRunOf old terms run
    is_run = record { files = files; accepts = takes.accepts; sound = takes.sound; accepted = takes.fit; full = full }

    read_back : (CanBeRead files run → AreReadBack terms files run) → AreReadBack terms files run
    read_back read = read (run_can_be_read old terms run is_run)

    spill_of : (asked : Option PutsRead) (spill : SpillRun) → AcceptsPuts old terms.puts files asked
        → WritesGiven files.disk run asked (Some spill) → IsSpillOf old terms files run spill
    spill_of (Some asked) spill accepts writes = record { puts = asked; accepts = accepts; writes = writes }
    spill_of None spill accepts writes = absurd writes

    module _ (given : Option SpillRun) (new : DeskView) (writes : WritesGiven files.disk run puts given) where
      abbrev texts : List Text
      texts = replay_texts terms files run given

      is_cut : (error : TextsError) → StopsTexts texts mid new error → IsReplayCut old new terms error
      is_cut error stops = record {
        run = run;
        is_run = is_run;
        puts = puts;
        accepts_puts = takes.accepts_puts;
        spill = given;
        writes = writes;
        stops = stops_texts old mid new takes.account.outputs texts error stops;
      }

      -- the texts were not all written
      pub at_replay : (error : TextsError) → StopsTexts texts mid new error → HasCause terms old new (unwritten error)
      at_replay (faults.WriteFault output) h = is_cut (faults.WriteFault output) h
      at_replay faults.NoMemory h = inr (is_cut faults.NoMemory h)

    -- all were written
    pub all_written : (given : Option SpillRun) (new : DeskView) → WritesGiven files.disk run puts given
        → is_some given ≡ is_some terms.spill → WritesAll (replay_texts terms files run given) mid new
        → (CanBeRead files run → AreReadBack terms files run) → HasCause terms old new (done_as run given)
    all_written (Some spill) new writes named wrote read = record {
      is_run = is_run;
      is_spill = spill_of puts spill takes.accepts_puts writes;
      named = sym named;
      texts = writes_all old mid new takes.account.outputs (replay_texts terms files run (Some spill)) wrote;
      read = read_back read;
    }
    all_written None new writes named wrote read = record {
      no_puts = no_puts old files run terms.puts puts takes.accepts_puts writes;
      is_run = is_run;
      texts = writes_all old mid new takes.account.outputs (replay_texts terms files run None) wrote;
      read = read_back read;
    }
