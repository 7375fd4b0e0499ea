-- The words for commands, options and values.
use Rattle.std.specs.Prelude.{ℕ, List, [], ◌∷◌, Option, codes, find}
use Rattle.std.specs.Option.{option_map}
use Rattle.std.specs.Str.{bytes_eq}
use Rattle.fb_report.specs.declared.bytes.Bytes.{Bytes}
use Rattle.fb_report.specs.declared.bytes.Bytes.TheVariants.{Nothing, Digest, Dump}
use Rattle.fb_words.specs.declared.command.Policy as policies
use Rattle.fb_words.specs.declared.command.Policy.TheVariants.{Fcfs, Sstf, Clook, Sptf}
use Rattle.fb_words.specs.declared.names.Verb.{Verb}
use Rattle.fb_words.specs.declared.names.Verb.TheVariants.{Replay, Make, Check, Array}
use Rattle.fb_words.specs.declared.names.OptionName.{OptionName}
use Rattle.fb_words.specs.declared.names.OptionName.TheVariants.{Params, Trace, Policy, Calls, Fore, Back, Puts, Spill, Until, Device}
use Rattle.fb_words.specs.declared.names.OptionName.TheVariants.{Bytes as BytesOption, Number, Requests, Devices, Rebuild, Copy}

-- what a word stands for according to this list of words, if it is in it
abbrev pub meaning : {A : Type 0} → List (List ℕ × A) → List ℕ → Option A
meaning names word = option_map (λ name. name.1) (find (λ name. bytes_eq name.0 word) names)

unfoldable pub verb_of : List ℕ → Option Verb
verb_of = meaning ((codes "replay", Replay) ∷ (codes "make", Make) ∷ (codes "check", Check) ∷ (codes "array", Array) ∷ [])

-- the options that a replay and a check share
abbrev pub run_options : List (List ℕ × OptionName)
run_options = (codes "--params", Params) ∷ (codes "--trace", Trace) ∷ (codes "--policy", Policy) ∷ (codes "--calls", Calls)
    ∷ (codes "--back", Back) ∷ (codes "--until", Until) ∷ (codes "--device", Device) ∷ (codes "--bytes", BytesOption) ∷ []

-- the options of a command that take a value
abbrev pub options_of : Verb → List (List ℕ × OptionName)
options_of Replay = (codes "--puts", Puts) ∷ (codes "--spill", Spill) ∷ run_options
options_of Make = (codes "--params", Params) ∷ (codes "--trace", Trace) ∷ (codes "--calls", Calls) ∷ (codes "--number", Number)
    ∷ (codes "--requests", Requests) ∷ (codes "--device", Device) ∷ []
options_of Check = (codes "--fore", Fore) ∷ run_options
options_of Array = (codes "--params", Params) ∷ (codes "--trace", Trace) ∷ (codes "--policy", Policy) ∷ (codes "--devices", Devices)
    ∷ (codes "--rebuild", Rebuild) ∷ (codes "--back", Back) ∷ (codes "--copy", Copy) ∷ (codes "--until", Until) ∷ (codes "--bytes", BytesOption)
    ∷ []

unfoldable pub option_of : Verb → List ℕ → Option OptionName
option_of verb = meaning (options_of verb)

unfoldable pub policy_of : List ℕ → Option policies.Policy
policy_of = meaning ((codes "fcfs", Fcfs) ∷ (codes "sstf", Sstf) ∷ (codes "clook", Clook) ∷ (codes "sptf", Sptf) ∷ [])

unfoldable pub bytes_of : List ℕ → Option Bytes
bytes_of = meaning ((codes "none", Nothing) ∷ (codes "sha256", Digest) ∷ (codes "hex", Dump) ∷ [])
