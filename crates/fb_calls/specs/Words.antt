-- The words for verbs and kinds.
use Rattle.std.specs.Prelude.{ℕ, List, [], ◌∷◌, Option, codes, find}
use Rattle.std.specs.Option.{option_map}
use Rattle.std.specs.Str.{bytes_eq}
use Rattle.fb_script.specs.declared.call.Kind.{Kind}
use Rattle.fb_script.specs.declared.call.Kind.TheVariants.{Plain, Backup, Scrub, Clean}
use Rattle.fb_calls.specs.declared.words.Verb.{Verb}
use Rattle.fb_calls.specs.declared.words.Verb.TheVariants.{Open, Want, Abort, Promote, Suspend, Resume, Close, Segment}

-- what a word stands for according to this list of words, if it is in it
abbrev pub meaning : {A : Type 0} → List (List ℕ × A) → List ℕ → Option A
meaning names word = option_map (λ name. name.1) (find (λ name. bytes_eq name.0 word) names)

abbrev pub verbs : List (List ℕ × Verb)
verbs = (codes "open", Open) ∷ (codes "want", Want) ∷ (codes "abort", Abort) ∷ (codes "promote", Promote)
    ∷ (codes "suspend", Suspend) ∷ (codes "resume", Resume) ∷ (codes "close", Close) ∷ (codes "segment", Segment) ∷ []

unfoldable pub verb_of : List ℕ → Option Verb
verb_of = meaning verbs

abbrev pub kinds : List (List ℕ × Kind)
kinds = (codes "plain", Plain) ∷ (codes "backup", Backup) ∷ (codes "scrub", Scrub) ∷ (codes "clean", Clean) ∷ []

unfoldable pub kind_of : List ℕ → Option Kind
kind_of = meaning kinds

-- how many fields follow the name of the task
abbrev pub fields_behind : Verb → ℕ
fields_behind Open = 3
fields_behind Want = 2
fields_behind Abort = 2
fields_behind Promote = 2
fields_behind Suspend = 0
fields_behind Resume = 0
fields_behind Close = 0
fields_behind Segment = 4
