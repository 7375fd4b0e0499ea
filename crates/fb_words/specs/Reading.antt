-- Reading the words after the command, from left to right.
use Rattle.std.specs.Prelude.{ℕ, ◌+◌, List, [], ◌∷◌, length, Bool, true, false, ◌==◌, nat_lt, min, Option, Some, None, Result, Ok, Err}
use Rattle.std.specs.Prelude.{codes, if◌then◌else◌}
use Rattle.std.specs.List.{before_first, after_first, position_or_len}
use Rattle.std.specs.Str.{bytes_eq}
use Rattle.fb_units.specs.Judging.{◌>>=◌, ◌>>◌, or_refuse, refuse, refused_as}
use Rattle.fb_words.specs.declared.fault.UsageFault.{UsageFault}
use Rattle.fb_words.specs.declared.fault.UsageReason.{UsageReason}
use Rattle.fb_words.specs.declared.fault.UsageReason.TheVariants.{UnknownOption, NoValue, OptionTwice}
use Rattle.fb_words.specs.declared.names.Verb.{Verb}
use Rattle.fb_words.specs.declared.names.Verb.TheVariants.{Replay, Make, Check, Array}
use Rattle.fb_words.specs.declared.names.OptionName.{OptionName}
use Rattle.fb_words.specs.Names.{option_of}
use Rattle.fb_words.specs.Options.{Options}
use Rattle.fb_words.specs.Values.{is_given, with_value}

-- a fault of the word with this index; an index that doesn't fit in 32 bits is the last one that does
abbrev pub fault_at : ℕ → UsageReason → UsageFault
fault_at position reason = record { place = min position 4294967295; reason = reason }

-- the options so far, and the option whose value is to be the next word, with the index of its word
pub data Progress : Type 0 where
  ready : Options → Progress
  awaits : Options → OptionName → ℕ → Progress

-- the name of an option, and its value if that is in the same word
pub record Parts : Type 0 where
  pub name : List ℕ
  pub value : Option (List ℕ)

-- the equals sign between a name and a value
abbrev pub is_equals : ℕ → Bool
is_equals byte = byte == 61

-- the name before and the value behind the first equals sign of a word; the whole word is a name if it has none
unfoldable pub parts_of : List ℕ → Parts
parts_of word =
    if nat_lt (position_or_len is_equals word) (length word)
    then record { name = before_first is_equals word; value = Some (after_first is_equals word) }
    else record { name = word; value = None }

-- the word is the one option that takes no value
abbrev pub is_summary : Verb → List ℕ → Bool
is_summary Replay word = bytes_eq word (codes "--summary")
is_summary Make word = false
is_summary Check word = false
is_summary Array word = false

-- the options with a summary, unless it was wanted before
unfoldable pub with_summary : Options → Result Progress UsageReason
with_summary given = refuse OptionTwice given.summary >> Ok (ready (record given { summary = true }))

-- the options with one more option, whose value is in the same word or will be the next word
unfoldable pub with_part : ℕ → Options → OptionName → Option (List ℕ) → Result Progress UsageReason
with_part position given option None = Ok (awaits given option position)
with_part position given option (Some value) = with_value given option value >>= (λ now. Ok (ready now))

-- the options with one more option, unless it is unknown or was given before
unfoldable pub with_option : Verb → ℕ → Options → Parts → Result Progress UsageReason
with_option verb position given parts = do
  option ← or_refuse UnknownOption (option_of verb parts.name)
  refuse OptionTwice (is_given given option)
  with_part position given option parts.value

-- the options with a word that isn't the value of the option before it
unfoldable pub with_name : Verb → ℕ → Options → List ℕ → Result Progress UsageReason
with_name verb position given word = if is_summary verb word then with_summary given else with_option verb position given (parts_of word)

-- the options with one more word, which has this index; a fault of a value has the index of the word with its option
unfoldable pub with_word : Verb → ℕ → Progress → List ℕ → Result Progress UsageFault
with_word verb position (ready given) word = refused_as (fault_at position) (with_name verb position given word)
with_word verb position (awaits given option at) word = refused_as (fault_at at) (with_value given option word >>= (λ now. Ok (ready now)))

-- the options at the end of the words, unless a value is still missing
abbrev pub at_end : Progress → Result Options UsageFault
at_end (ready given) = Ok given
at_end (awaits given option at) = Err (fault_at at NoValue)

-- the options with the words from this index on
unfoldable pub options_from : Verb → ℕ → Progress → List (List ℕ) → Result Options UsageFault
options_from verb position so_far [] = at_end so_far
options_from verb position so_far (word ∷ words) = do
  next ← with_word verb position so_far word
  options_from verb (position + 1) next words
