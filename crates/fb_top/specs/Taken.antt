-- What is known once the inputs of a command were accepted, and before it does anything else.
use Rattle.std.specs.Prelude.{Option, Some, None}
use Rattle.fb_bgwrite.specs.declared.items.SpillRun.{SpillRun}
use Rattle.fb_geometry.specs.Sound.{IsSound}
use Rattle.fb_puts.specs.Reading.{Accepted as PutsRead}
use Rattle.fb_desk.specs.View.{DeskView}
use Rattle.fb_model.specs.Accepted.{IsAccepted}
use Rattle.fb_rows.specs.declared.run.Run.{Run}
use Rattle.fb_words.specs.Command.{ArrayTerms, CheckTerms, ReplayTerms}
use Rattle.fb_top.specs.declared.outcome.Outcome.{Outcome}
use Rattle.fb_top.specs.declared.outcome.Outcome.TheVariants as outcomes
use Rattle.fb_inputs.specs.Devices.{AcceptsArray, Array}
use Rattle.fb_inputs.specs.Read.{Accepts, AcceptsPuts, Files, inputs_of_files, key_of}
use Rattle.fb_streams.specs.Names.{check_file_names, replay_file_names}
use Rattle.fb_desk.specs.declared.desk.Input.TheVariants.{Trace, Calls, Puts}
use Rattle.fb_streams.specs.Called.{array_asks, check_asks, replay_asks}
use Rattle.fb_inputs.specs.Account.{Account}

-- the files and the puts of a replay were accepted, and nothing else was touched
pub record TakesReplay (terms : ReplayTerms) (files : Files) (puts : Option PutsRead) (old new : DeskView) : Type 0 where
  pub accepts : Accepts old (replay_file_names terms) files
  pub accepts_puts : AcceptsPuts old terms.puts files puts
  pub sound : IsSound files.disk.map
  pub fit : IsAccepted (inputs_of_files files (key_of terms.policy) terms.until)
  pub account : Account (replay_asks terms) Puts None old new

-- the outcome of a replay that is done
abbrev pub done_as : Run → Option SpillRun → Outcome
done_as run None = outcomes.Done run
done_as run (Some spill) = outcomes.Spilled run spill

-- the files of a check were accepted, and nothing else was touched
pub record TakesCheck (terms : CheckTerms) (files : Files) (old new : DeskView) : Type 0 where
  pub accepts : Accepts old (check_file_names terms) files
  pub sound : IsSound files.disk.map
  pub fit : IsAccepted (inputs_of_files files (key_of terms.policy) terms.until)
  pub account : Account (check_asks terms) Calls None old new

-- the files of an array were accepted, and nothing else was touched
pub record TakesArray (terms : ArrayTerms) (array : Array) (old new : DeskView) : Type 0 where
  pub accepts : AcceptsArray old terms array
  pub sound : IsSound array.disk.map
  pub account : Account (array_asks terms) Trace None old new
