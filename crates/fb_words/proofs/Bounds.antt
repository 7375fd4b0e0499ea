-- The numbers that words give are within the limits.
use Rattle.std.proofs.Common.{◌≡◌, ℕ, ◌+◌, ◌≤◌, ◌^◌, List, [], ◌∷◌, false, subst, inl, inr, arith, Option, Some, None, Result, Ok, Err}
use Rattle.std.specs.Prelude.{IfSome, IfOk, not, ◌||◌, ◌==◌, ◌<◌, nat_lt, unwrap_or, length}
use Rattle.std.proofs.lemmas.Bool.{cases_Bool}
use Rattle.std.proofs.lemmas.Bool.Decides.{nat_tests}
use Rattle.fb_units.proofs.Lists.{same_Ok}
use Rattle.fb_units.specs.Judging.{or_refuse, refuse, refused_as}
use Rattle.fb_units.specs.Numbers.{millis_of, number_of}
use Rattle.fb_units.proofs.Judged.{both_ok, value_ok, test_ok, step_ok, number_small, millis_small}
use Rattle.fb_words.specs.declared.fault.UsageReason.TheVariants.{NoValue, BadValue, OptionTwice, UnknownOption, UnknownCommand}
use Rattle.fb_words.specs.declared.fault.UsageReason.TheVariants.{MissingOption, CallsAndBack, PutsAndSpill, RebuildIncomplete}
use Rattle.fb_words.specs.declared.fault.UsageReason.TheVariants.{RebuildBeyond}
use Rattle.fb_words.specs.declared.names.Verb.{Verb}
use Rattle.fb_words.specs.declared.names.Verb.TheVariants.{Replay, Make, Check, Array}
use Rattle.fb_words.specs.declared.names.OptionName.{OptionName}
use Rattle.fb_words.specs.declared.names.OptionName.TheVariants.{Params, Trace, Policy, Calls, Fore, Back, Puts, Spill, Until, Device}
use Rattle.fb_words.specs.declared.names.OptionName.TheVariants.{Bytes, Number, Requests, Devices, Rebuild, Copy}
use Rattle.fb_words.specs.Names.{policy_of, bytes_of, option_of, verb_of}
use Rattle.fb_words.specs.Options.{Options, no_options}
use Rattle.fb_words.specs.Values.{is_given, is_value, request_count_of, device_count_of, with_form, with_value}
use Rattle.fb_words.specs.Reading.{Progress, ready, awaits, Parts, parts_of, is_summary, fault_at, with_summary, with_part, with_option}
use Rattle.fb_words.specs.Reading.{with_name, with_word, at_end, options_from}
use Rattle.fb_words.specs.Command.{Terms, replays, makes, checks, arrays, ReplayTerms, MakeTerms, CheckTerms, RebuildTerms, ArrayTerms}
use Rattle.fb_words.specs.Command.{go_together, replay_of, make_of, check_of, rebuild_incomplete, rebuild_beyond, rebuild_with, rebuild_of}
use Rattle.fb_words.specs.Command.{array_of, terms_of, with_verb, command_of}
use Rattle.fb_words.specs.declared.command.Command.{Command}
use Rattle.fb_units.specs.declared.read_error.ReadError.{ReadError}
use Rattle.fb_words.specs.declared.fault.UsageFault.{UsageFault}
use Rattle.fb_words.specs.Verdict.{Answers, terms}
use Rattle.fb_words.specs.Limits.{IsWithinLimits}

-- these numbers are within the limits, where they are given
record AreSmall (instant own seed count disks : Option ℕ) : Type 0 where
  until : IfSome instant (λ until. until ≤ 10 ^ 15)
  device : IfSome own (λ device. device ≤ 10 ^ 15)
  number : IfSome seed (λ number. number ≤ 10 ^ 15)
  requests : IfSome count (λ requests. requests ≤ 10 ^ 6)
  devices : IfSome disks (λ devices. (0 < devices) × (devices ≤ 16))

-- the numbers of the options are, whatever the others are
abbrev IsSmall : Options → Type 0
IsSmall given = AreSmall given.until given.device given.number given.requests given.devices

few : (n m : ℕ) → nat_lt 1000000 n ≡ false → n ≡ m → m ≤ 10 ^ 6
few n m small same = grind (arith, nat_tests)

requests_small : (value : List ℕ) (m : ℕ) → request_count_of value ≡ Ok m → m ≤ 10 ^ 6
unfolding request_count_of
requests_small value m given =
    let count = both_ok (or_refuse BadValue (number_of value)) _ m given in
    let small = both_ok (refuse BadValue (nat_lt 1000000 count.0)) _ m count.2 in
    few count.0 m (test_ok BadValue (nat_lt 1000000 count.0) small.0 small.1) (same_Ok count.0 m small.2)

a_few : (n m : ℕ) → (n == 0 || nat_lt 16 n) ≡ false → n ≡ m → (0 < m) × (m ≤ 16)
a_few n m few same = (grind (arith, nat_tests), grind (arith, nat_tests))

devices_small : (value : List ℕ) (m : ℕ) → device_count_of value ≡ Ok m → (0 < m) × (m ≤ 16)
unfolding device_count_of
devices_small value m given =
    let count = both_ok (or_refuse BadValue (number_of value)) _ m given in
    let small = both_ok (refuse BadValue (count.0 == 0 || nat_lt 16 count.0)) _ m count.2 in
    a_few count.0 m (test_ok BadValue (count.0 == 0 || nat_lt 16 count.0) small.0 small.1) (same_Ok count.0 m small.2)

small-with_form : (given next : Options) (option : OptionName) (value : List ℕ) → with_form given option value ≡ Ok next → IsSmall given
    → IsSmall next
unfolding with_form
small-with_form given next Params value e is = subst IsSmall (same_Ok _ next e) is
small-with_form given next Trace value e is = subst IsSmall (same_Ok _ next e) is
small-with_form given next Policy value e is =
    let p = both_ok (or_refuse BadValue (policy_of value)) _ next e in
    subst IsSmall (same_Ok _ next p.2) is
small-with_form given next Calls value e is = subst IsSmall (same_Ok _ next e) is
small-with_form given next Fore value e is = subst IsSmall (same_Ok _ next e) is
small-with_form given next Back value e is = subst IsSmall (same_Ok _ next e) is
small-with_form given next Puts value e is = subst IsSmall (same_Ok _ next e) is
small-with_form given next Spill value e is = subst IsSmall (same_Ok _ next e) is
small-with_form given next Until value e is =
    let p = both_ok (or_refuse BadValue (millis_of value)) _ next e in
    subst IsSmall (same_Ok _ next p.2) (record {
      until = millis_small value p.0 (value_ok BadValue (millis_of value) p.0 p.1);
      device = is.device;
      number = is.number;
      requests = is.requests;
      devices = is.devices;
    })
small-with_form given next Device value e is =
    let p = both_ok (or_refuse BadValue (number_of value)) _ next e in
    subst IsSmall (same_Ok _ next p.2) (record {
      until = is.until;
      device = number_small value p.0 (value_ok BadValue (number_of value) p.0 p.1);
      number = is.number;
      requests = is.requests;
      devices = is.devices;
    })
small-with_form given next Bytes value e is =
    let p = both_ok (or_refuse BadValue (bytes_of value)) _ next e in
    subst IsSmall (same_Ok _ next p.2) is
small-with_form given next Number value e is =
    let p = both_ok (or_refuse BadValue (number_of value)) _ next e in
    subst IsSmall (same_Ok _ next p.2) (record {
      until = is.until;
      device = is.device;
      number = number_small value p.0 (value_ok BadValue (number_of value) p.0 p.1);
      requests = is.requests;
      devices = is.devices;
    })
small-with_form given next Requests value e is =
    let p = both_ok (request_count_of value) _ next e in
    subst IsSmall (same_Ok _ next p.2)
    (record { until = is.until; device = is.device; number = is.number; requests = requests_small value p.0 p.1; devices = is.devices })
small-with_form given next Devices value e is =
    let p = both_ok (device_count_of value) _ next e in
    subst IsSmall (same_Ok _ next p.2)
    (record { until = is.until; device = is.device; number = is.number; requests = is.requests; devices = devices_small value p.0 p.1 })
small-with_form given next Rebuild value e is =
    let p = both_ok (or_refuse BadValue (number_of value)) _ next e in
    subst IsSmall (same_Ok _ next p.2) is
small-with_form given next Copy value e is = subst IsSmall (same_Ok _ next e) is

small-with_value : (given next : Options) (option : OptionName) (value : List ℕ) → with_value given option value ≡ Ok next → IsSmall given
    → IsSmall next
unfolding with_value
small-with_value given next option value e is =
    small-with_form given next option value (both_ok (refuse NoValue (not (is_value value))) _ next e).2 is

-- the numbers of the options so far are within the limits
abbrev IsSmallSoFar : Progress → Type 0
IsSmallSoFar (ready given) = IsSmall given
IsSmallSoFar (awaits given option position) = IsSmall given

small-with_summary : (given : Options) (next : Progress) → with_summary given ≡ Ok next → IsSmall given → IsSmallSoFar next
unfolding with_summary
small-with_summary given next e is =
    let p = both_ok (refuse OptionTwice given.summary) _ next e in
    subst IsSmallSoFar (same_Ok _ next p.2) is

small-with_part : (position : ℕ) (given : Options) (option : OptionName) (value : Option (List ℕ)) (next : Progress)
    → with_part position given option value ≡ Ok next → IsSmall given → IsSmallSoFar next
unfolding with_part
small-with_part position given option None next e is = subst IsSmallSoFar (same_Ok _ next e) is
small-with_part position given option (Some value) next e is =
    let p = both_ok (with_value given option value) _ next e in
    subst IsSmallSoFar (same_Ok _ next p.2) (small-with_value given p.0 option value p.1 is)

small-with_option : (verb : Verb) (position : ℕ) (given : Options) (word : Parts) (next : Progress)
    → with_option verb position given word ≡ Ok next → IsSmall given → IsSmallSoFar next
unfolding with_option
small-with_option verb position given word next e is =
    let p = both_ok (or_refuse UnknownOption (option_of verb word.name)) _ next e in
    let q = both_ok (refuse OptionTwice (is_given given p.0)) _ next p.2 in
    small-with_part position given p.0 word.value next q.2 is

small-with_name : (verb : Verb) (position : ℕ) (given : Options) (word : List ℕ) (next : Progress)
    → with_name verb position given word ≡ Ok next
    → IsSmall given → IsSmallSoFar next
unfolding with_name
small-with_name verb position given word next e is = elim (cases_Bool (is_summary verb word)) [
  | inl summary ↦ small-with_summary given next (rw summary at e) is
  | inr other ↦ small-with_option verb position given (parts_of word) next (rw other at e) is
]

small-with_word : (verb : Verb) (position : ℕ) (so_far next : Progress) (word : List ℕ) → with_word verb position so_far word ≡ Ok next
    → IsSmallSoFar so_far → IsSmallSoFar next
unfolding with_word
small-with_word verb position (ready given) next word e is =
    small-with_name verb position given word next (step_ok (fault_at position) _ next e) is
small-with_word verb position (awaits given option at) next word e is =
    let p = both_ok (with_value given option word) _ next (step_ok (fault_at at) _ next e) in
    subst IsSmallSoFar (same_Ok _ next p.2) (small-with_value given p.0 option word p.1 is)

small-at_end : (so_far : Progress) (given : Options) → at_end so_far ≡ Ok given → IsSmallSoFar so_far → IsSmall given
small-at_end (ready now) given e is = subst IsSmall (same_Ok now given e) is
small-at_end (awaits now option position) given e is = cc

small-options_from : (verb : Verb) (position : ℕ) (so_far : Progress) (words : List (List ℕ)) (given : Options)
    → options_from verb position so_far words ≡ Ok given → IsSmallSoFar so_far → IsSmall given
unfolding options_from
small-options_from verb position so_far [] given e is = small-at_end so_far given e is
small-options_from verb position so_far (word ∷ words) given e is =
    let p = both_ok (with_word verb position so_far word) _ given e in
    small-options_from verb (position + 1) p.0 words given p.2 (small-with_word verb position so_far p.0 word p.1 is)

-- an option that isn't given is 0
small-default : (o : Option ℕ) (limit : ℕ) → IfSome o (λ n. n ≤ limit) → unwrap_or o 0 ≤ limit
small-default None limit is = omega arith
small-default (Some n) limit is = is

small_some : (o : Option ℕ) (n limit : ℕ) → o ≡ Some n → IfSome o (λ m. m ≤ limit) → n ≤ limit
small_some None n limit e is = cc
small_some (Some m) n limit e is = let same : m ≡ n = cc in omega arith

small-replay_of : (given : Options) (terms : ReplayTerms) → replay_of given ≡ Ok terms → IsSmall given → IsWithinLimits (replays terms)
unfolding replay_of
small-replay_of given terms e is =
    let params = both_ok (or_refuse (MissingOption 0) given.params) _ terms e in
    let trace = both_ok (or_refuse (MissingOption 1) given.trace) _ terms params.2 in
    let policy = both_ok (or_refuse (MissingOption 2) given.policy) _ terms trace.2 in
    let calls = both_ok (refuse CallsAndBack (not (go_together given.calls given.back))) _ terms policy.2 in
    let puts = both_ok (refuse PutsAndSpill (not (go_together given.puts given.spill))) _ terms calls.2 in
    subst (λ t. IsWithinLimits (replays t)) (same_Ok _ terms puts.2)
    (small-default given.until (10 ^ 15) is.until, small-default given.device (10 ^ 15) is.device)

small-make_of : (given : Options) (terms : MakeTerms) → make_of given ≡ Ok terms → IsSmall given → IsWithinLimits (makes terms)
unfolding make_of
small-make_of given terms e is =
    let params = both_ok (or_refuse (MissingOption 0) given.params) _ terms e in
    let trace = both_ok (or_refuse (MissingOption 1) given.trace) _ terms params.2 in
    let calls = both_ok (or_refuse (MissingOption 2) given.calls) _ terms trace.2 in
    let number = both_ok (or_refuse (MissingOption 3) given.number) _ terms calls.2 in
    let requests = both_ok (or_refuse (MissingOption 4) given.requests) _ terms number.2 in
    subst (λ t. IsWithinLimits (makes t)) (same_Ok _ terms requests.2) (
      small_some given.number number.0 (10 ^ 15) (value_ok (MissingOption 3) given.number number.0 number.1) is.number,
      small_some given.requests requests.0 (10 ^ 6) (value_ok (MissingOption 4) given.requests requests.0 requests.1) is.requests,
      small-default given.device (10 ^ 15) is.device,
    )

small-check_of : (given : Options) (terms : CheckTerms) → check_of given ≡ Ok terms → IsSmall given → IsWithinLimits (checks terms)
unfolding check_of
small-check_of given terms e is =
    let params = both_ok (or_refuse (MissingOption 0) given.params) _ terms e in
    let trace = both_ok (or_refuse (MissingOption 1) given.trace) _ terms params.2 in
    let policy = both_ok (or_refuse (MissingOption 2) given.policy) _ terms trace.2 in
    let calls = both_ok (or_refuse (MissingOption 3) given.calls) _ terms policy.2 in
    let fore = both_ok (or_refuse (MissingOption 4) given.fore) _ terms calls.2 in
    let back = both_ok (or_refuse (MissingOption 5) given.back) _ terms fore.2 in
    subst (λ t. IsWithinLimits (checks t)) (same_Ok _ terms back.2)
    (small-default given.until (10 ^ 15) is.until, small-default given.device (10 ^ 15) is.device)

-- a device that isn't beyond the devices is below them
within : (devices : ℕ) (device : Option ℕ) (back copy : Option (List ℕ)) → rebuild_beyond devices device ≡ false
    → IfSome (rebuild_with device back copy) (λ rebuild. rebuild.device < devices)
within devices None back copy inside = tt
within devices (Some device) None copy inside = tt
within devices (Some device) (Some back) None inside = tt
within devices (Some device) (Some back) (Some copy) inside = grind (arith, nat_tests)

rebuild_within : (devices : ℕ) (given : Options) (rebuild : Option RebuildTerms) → rebuild_of devices given ≡ Ok rebuild
    → IfSome rebuild (λ r. r.device < devices)
unfolding rebuild_of
rebuild_within devices given rebuild e =
    let whole = both_ok (refuse RebuildIncomplete (rebuild_incomplete given)) _ rebuild e in
    let inside = both_ok (refuse RebuildBeyond (rebuild_beyond devices given.rebuild)) _ rebuild whole.2 in
    subst (λ r. IfSome r (λ words. words.device < devices)) (same_Ok _ rebuild inside.2)
    (within devices given.rebuild given.back given.copy (test_ok RebuildBeyond (rebuild_beyond devices given.rebuild) inside.0 inside.1))

small-array_of : (given : Options) (terms : ArrayTerms) → array_of given ≡ Ok terms → IsSmall given → IsWithinLimits (arrays terms)
unfolding array_of
small-array_of given terms e is =
    let params = both_ok (or_refuse (MissingOption 0) given.params) _ terms e in
    let trace = both_ok (or_refuse (MissingOption 1) given.trace) _ terms params.2 in
    let policy = both_ok (or_refuse (MissingOption 2) given.policy) _ terms trace.2 in
    let devices = both_ok (or_refuse (MissingOption 3) given.devices) _ terms policy.2 in
    let rebuild = both_ok (rebuild_of devices.0 given) _ terms devices.2 in
    let few = subst (λ o. IfSome o (λ n. (0 < n) × (n ≤ 16))) (value_ok (MissingOption 3) given.devices devices.0 devices.1) is.devices in
    subst (λ t. IsWithinLimits (arrays t)) (same_Ok _ terms rebuild.2)
    (few.0, few.1, rebuild_within devices.0 given rebuild.0 rebuild.1, small-default given.until (10 ^ 15) is.until)

small-terms_of : (verb : Verb) (given : Options) (terms : Terms) → terms_of verb given ≡ Ok terms → IsSmall given → IsWithinLimits terms
unfolding terms_of
small-terms_of Replay given terms e is =
    let p = both_ok (replay_of given) _ terms e in
    subst IsWithinLimits (same_Ok _ terms p.2) (small-replay_of given p.0 p.1 is)
small-terms_of Make given terms e is =
    let p = both_ok (make_of given) _ terms e in
    subst IsWithinLimits (same_Ok _ terms p.2) (small-make_of given p.0 p.1 is)
small-terms_of Check given terms e is =
    let p = both_ok (check_of given) _ terms e in
    subst IsWithinLimits (same_Ok _ terms p.2) (small-check_of given p.0 p.1 is)
small-terms_of Array given terms e is =
    let p = both_ok (array_of given) _ terms e in
    subst IsWithinLimits (same_Ok _ terms p.2) (small-array_of given p.0 p.1 is)

nothing_small : IsSmall no_options
nothing_small = record { until = tt; device = tt; number = tt; requests = tt; devices = tt }

small-with_verb : (count : ℕ) (name : List ℕ) (words : List (List ℕ)) (terms : Terms) → with_verb count name words ≡ Ok terms
    → IsWithinLimits terms
unfolding with_verb
small-with_verb count name words terms e =
    let verb = both_ok (refused_as (fault_at 1) (or_refuse UnknownCommand (verb_of name))) _ terms e in
    let given = both_ok (options_from verb.0 2 (ready no_options) words) _ terms verb.2 in
    small-terms_of verb.0 given.0 terms (step_ok (fault_at count) _ terms given.2)
    (small-options_from verb.0 2 (ready no_options) words given.0 given.1 nothing_small)

-- the numbers of a command are within the limits
within_limits : (words : List (List ℕ)) (terms : Terms) → command_of words ≡ Ok terms → IsWithinLimits terms
within_limits [] terms e = cc
within_limits (program ∷ []) terms e = cc
within_limits (program ∷ name ∷ words) terms e = small-with_verb (length (program ∷ name ∷ words)) name words terms e

-- the numbers of a result are within the limits
pub answer_within : (words : List (List ℕ)) (result : Result Command (ReadError UsageFault)) → Answers terms result (command_of words)
    → IfOk result (λ command. IsWithinLimits (terms command))
answer_within words (Ok command) e = within_limits words (terms command) e
answer_within words (Err error) e = tt
