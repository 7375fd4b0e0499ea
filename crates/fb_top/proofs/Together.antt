-- A replay has puts exactly if it has an output for what is written.
use Rattle.std.proofs.Common.{◌≡◌, ◌∙◌, ap, ℕ, List, [], ◌∷◌, length, Bool, true, false, refl, subst, Ok}
use Rattle.std.specs.Prelude.{not}
use Rattle.fb_units.proofs.Lists.{same_Ok}
use Rattle.fb_units.specs.Judging.{or_refuse, refuse, refused_as}
use Rattle.fb_units.proofs.Judged.{both_ok, step_ok, test_ok}
use Rattle.fb_words.specs.Command.{ReplayTerms, Terms, command_of, go_together, replay_of, replays, makes, checks, arrays, terms_of}
use Rattle.fb_words.specs.Command.{make_of, check_of, array_of, with_verb}
use Rattle.fb_words.specs.Names.{verb_of}
use Rattle.fb_words.specs.Options.{Options, no_options}
use Rattle.fb_words.specs.Reading.{fault_at, options_from, ready}
use Rattle.fb_words.specs.Verdict.{replay_terms, terms}
use Rattle.fb_words.specs.declared.command.Command.{Command}
use Rattle.fb_words.specs.declared.command.Command.TheVariants as commands
use Rattle.fb_words.specs.declared.command.ReplayWords.{ReplayWords}
use Rattle.fb_words.specs.declared.fault.UsageReason.TheVariants.{CallsAndBack, MissingOption, PutsAndSpill, UnknownCommand}
use Rattle.fb_words.specs.declared.names.Verb.{Verb}
use Rattle.fb_words.specs.declared.names.Verb.TheVariants.{Replay, Make, Check, Array}

-- what the terms of a replay keep; others keep nothing
abbrev GoTogether : Terms → Type 0
GoTogether (replays terms) = go_together terms.puts terms.spill ≡ true
GoTogether (makes terms) = Unit {0}
GoTogether (checks terms) = Unit {0}
GoTogether (arrays terms) = Unit {0}

not_not : (b : Bool) → not b ≡ false → b ≡ true
not_not true e = refl
not_not false e = cc

together_replay : (given : Options) (terms : ReplayTerms) → replay_of given ≡ Ok terms → GoTogether (replays terms)
unfolding replay_of
together_replay given terms e =
    let params = both_ok (or_refuse (MissingOption 0) given.params) _ terms e in
    let trace = both_ok (or_refuse (MissingOption 1) given.trace) _ terms params.2 in
    let policy = both_ok (or_refuse (MissingOption 2) given.policy) _ terms trace.2 in
    let calls = both_ok (refuse CallsAndBack (not (go_together given.calls given.back))) _ terms policy.2 in
    let puts = both_ok (refuse PutsAndSpill (not (go_together given.puts given.spill))) _ terms calls.2 in
    subst (λ t. GoTogether (replays t)) (same_Ok _ terms puts.2)
    (not_not (go_together given.puts given.spill) (test_ok PutsAndSpill (not (go_together given.puts given.spill)) puts.0 puts.1))

together_terms : (verb : Verb) (given : Options) (terms : Terms) → terms_of verb given ≡ Ok terms → GoTogether terms
unfolding terms_of
together_terms Replay given terms e = let p = both_ok (replay_of given) _ terms e in
    subst GoTogether (same_Ok _ terms p.2) (together_replay given p.0 p.1)
together_terms Make given terms e = let p = both_ok (make_of given) _ terms e in subst GoTogether (same_Ok _ terms p.2) tt
together_terms Check given terms e = let p = both_ok (check_of given) _ terms e in subst GoTogether (same_Ok _ terms p.2) tt
together_terms Array given terms e = let p = both_ok (array_of given) _ terms e in subst GoTogether (same_Ok _ terms p.2) tt

together_verb : (count : ℕ) (name : List ℕ) (words : List (List ℕ)) (terms : Terms) → with_verb count name words ≡ Ok terms
    → GoTogether terms
unfolding with_verb
together_verb count name words terms e =
    let verb = both_ok (refused_as (fault_at 1) (or_refuse UnknownCommand (verb_of name))) _ terms e in
    let given = both_ok (options_from verb.0 2 (ready no_options) words) _ terms verb.2 in
    together_terms verb.0 given.0 terms (step_ok (fault_at count) _ terms given.2)

together_words : (words : List (List ℕ)) (terms : Terms) → command_of words ≡ Ok terms → GoTogether terms
together_words [] terms e = cc
together_words (program ∷ []) terms e = cc
together_words (program ∷ name ∷ words) terms e = together_verb (length (program ∷ name ∷ words)) name words terms e

pub puts_and_spill : (words : List (List ℕ)) (terms : ReplayTerms) → command_of words ≡ Ok (replays terms)
    → go_together terms.puts terms.spill ≡ true
puts_and_spill words terms e = together_words words (replays terms) e

-- a command that was read
pub of_command : (words : List (List ℕ)) (command : Command) (replay : ReplayWords) → command_of words ≡ Ok (terms command)
    → command ≡ commands.Replay replay
    → go_together (replay_terms replay).puts (replay_terms replay).spill ≡ true
of_command words command replay answer is = puts_and_spill words (replay_terms replay) (answer ∙ ap (λ k. Ok (terms k)) is)
