-- What the result of reading says of the words.
use Rattle.std.specs.Prelude.{◌≡◌, Result, Ok, Err}
use Rattle.std.specs.Option.{option_map}
use Rattle.std.specs.String.{string_bytes}
pub use Rattle.fb_units.specs.Reading.{Answers}
use Rattle.fb_words.specs.declared.command.ReplayWords.{ReplayWords}
use Rattle.fb_words.specs.declared.command.MakeWords.{MakeWords}
use Rattle.fb_words.specs.declared.command.CheckWords.{CheckWords}
use Rattle.fb_words.specs.declared.command.ArrayWords.{ArrayWords}
use Rattle.fb_words.specs.declared.command.RebuildWords.{RebuildWords}
use Rattle.fb_words.specs.declared.command.Command.{Command}
use Rattle.fb_words.specs.declared.command.Command.TheVariants.{Replay, Make, Check, Array}
use Rattle.fb_words.specs.Command.{ReplayTerms, MakeTerms, CheckTerms, RebuildTerms, ArrayTerms, Terms, replays, makes, checks, arrays}

abbrev pub replay_terms : ReplayWords → ReplayTerms
replay_terms words = record {
  params = string_bytes words.params;
  trace = string_bytes words.trace;
  policy = words.policy;
  calls = option_map string_bytes words.calls;
  back = option_map string_bytes words.back;
  puts = option_map string_bytes words.puts;
  spill = option_map string_bytes words.spill;
  until = words.until;
  device = words.device;
  bytes = words.bytes;
  summary = words.summary;
}

abbrev pub make_terms : MakeWords → MakeTerms
make_terms words = record {
  params = string_bytes words.params;
  trace = string_bytes words.trace;
  calls = string_bytes words.calls;
  number = words.number;
  requests = words.requests;
  device = words.device;
}

abbrev pub check_terms : CheckWords → CheckTerms
check_terms words = record {
  params = string_bytes words.params;
  trace = string_bytes words.trace;
  policy = words.policy;
  calls = string_bytes words.calls;
  fore = string_bytes words.fore;
  back = string_bytes words.back;
  until = words.until;
  device = words.device;
  bytes = words.bytes;
}

abbrev pub rebuild_terms : RebuildWords → RebuildTerms
rebuild_terms words = record { device = words.device; back = string_bytes words.back; copy = string_bytes words.copy }

abbrev pub array_terms : ArrayWords → ArrayTerms
array_terms words = record {
  params = string_bytes words.params;
  trace = string_bytes words.trace;
  policy = words.policy;
  devices = words.devices;
  rebuild = option_map rebuild_terms words.rebuild;
  until = words.until;
  bytes = words.bytes;
}

abbrev pub terms : Command → Terms
terms (Replay words) = replays (replay_terms words)
terms (Make words) = makes (make_terms words)
terms (Check words) = checks (check_terms words)
terms (Array words) = arrays (array_terms words)

-- the result of a step that doesn't allocate is the verdict
abbrev pub Agrees : {A B E : Type 0} → (A → B) → Result A E → Result B E → Type 0
Agrees seen (Ok a) verdict = verdict ≡ Ok (seen a)
Agrees seen (Err e) verdict = verdict ≡ Err e
