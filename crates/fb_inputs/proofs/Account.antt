-- What the reading of inputs does to a desk, one input after another.
use Rattle.std.proofs.Common.{◌≡◌, ◌≢◌, ◌⊎◌, ◌∙◌, ℕ, ◌<◌, ◌≤◌, List, Option, Some, None, true, refl, sym, subst, inl, inr, arith}
use Rattle.std.specs.Prelude.{IfSome, Result, Ok, Err}
use Rattle.fb_desk.specs.Calls.{ChangesInput}
use Rattle.fb_desk.specs.View.{DeskView, InputView}
use Rattle.fb_desk.specs.declared.desk.Input.{Input}
use Rattle.fb_desk.specs.declared.desk.Input.TheVariants.{Params, Trace, Calls, Puts, ForeReport, BackReport}
use Rattle.fb_streams.specs.Called.{Asked, Ends, EndsBy, Stream, Told}
use Rattle.fb_streams.specs.Streams.{IsLeftOf, IsOpenedAs}
use Rattle.fb_streams.proofs.Called.{then_ends}
use Rattle.fb_inputs.specs.Account.{Account, AreReadAs, IsReadAs, KeepsInputs, failed_in, rank}
use Rattle.fb_inputs.specs.Ends.{failed_input}
use Rattle.fb_inputs.specs.declared.error.InputsError.{InputsError}
use Rattle.fb_inputs.specs.Causes.{EndsAt}

-- an input is another one or the same
apart : (one other : Input) → (one ≡ other) ⊎ (one ≢ other)
apart Params Params = inl refl
apart Trace Trace = inl refl
apart Calls Calls = inl refl
apart Puts Puts = inl refl
apart ForeReport ForeReport = inl refl
apart BackReport BackReport = inl refl
apart _ _ = inr (λ e. cc)

-- an input that is read later is another one
later_apart : (one other : Input) → rank one < rank other → other ≢ one
later_apart one other later = λ e. absurd (let same : rank one < rank one = subst (λ (i : Input). rank one < rank i) e later in omega (arith, same))

-- a name, if one is given, was read
read_given : (given : Option (List ℕ)) (old : DeskView) (a b : InputView) → IfSome given (λ name. IsOpenedAs name old b)
    → (given ≡ None → b ≡ a) → IsReadAs given old a b
read_given None old a b opened none = inl (none refl)
read_given (Some name) old a b opened none = inr (name, refl, opened)

-- the input was read under the name that is given, if one is
pub read_one : (asked : Asked) (which : Input) (given : Option (List ℕ)) (failed : Option Stream) (old new : DeskView)
    → asked.inputs which ≡ given → ChangesInput which old new
    → IfSome given (λ name. IsOpenedAs name old (new.inputs which)) → (given ≡ None → new.inputs which ≡ old.inputs which)
    → EndsBy asked failed old.calls new.calls → Account asked which failed old new
read_one asked which given failed old new named only opened none calls = record {
  held = only.held;
  inputs = λ input. elim (apart input which) [
    | inl same ↦ subst (λ (i : Input). IsReadAs (asked.inputs i) old (old.inputs i) (new.inputs i)) (sym same)
        (subst (λ (name : Option (List ℕ)). IsReadAs name old (old.inputs which) (new.inputs which)) (sym named)
        (read_given given old (old.inputs which) (new.inputs which) opened none))
    | inr other ↦ inl (only.inputs input other)
  ];
  later = λ other later. only.inputs other (later_apart which other later);
  outputs = only.outputs;
  calls = calls;
}

pub is_named : (name : List ℕ) → Some name ≢ None
is_named name e = cc

-- and so under a name
pub read_named : (asked : Asked) (which : Input) (name : List ℕ) (failed : Option Stream) (old new : DeskView)
    → asked.inputs which ≡ Some name → ChangesInput which old new → IsOpenedAs name old (new.inputs which)
    → EndsBy asked failed old.calls new.calls → Account asked which failed old new
read_named asked which name failed old new named only opened calls =
    read_one asked which (Some name) failed old new named only opened (λ none. absurd (is_named name none)) calls

read_then : (given : Option (List ℕ)) (desk : DeskView) (a b c : InputView) → IsReadAs given desk a b → IsReadAs given desk b c
    → IsReadAs given desk a c
read_then given desk a b c (inl one) (inl two) = inl (two ∙ one)
read_then given desk a b c (inr h) (inl two) = inr (h.0, h.1, subst (λ (v : InputView). IsOpenedAs h.0 desk v) (sym two) h.2)
read_then given desk a b c _ (inr h) = inr h

told_before : (given : Option (List ℕ)) (old mid : DeskView) (a b : InputView) → ((name : List ℕ) → mid.held name ≡ old.held name)
    → IsReadAs given mid a b → IsReadAs given old a b
told_before given old mid a b held (inl same) = inl same
told_before given old mid a b held (inr h) =
    inr (h.0, h.1, subst (λ (told : Option (List ℕ)). b.opened ≡ true → IsLeftOf told b.left) (held h.0) h.2)

-- inputs were read, and then later ones
pub and_then : {asked : Asked} {one next : Input} {failed : Option Stream} {old mid new : DeskView} → Account asked one None old mid
    → rank one < rank next → Account asked next failed mid new → Account asked next failed old new
and_then {asked} {one} {next} {failed} {old} {mid} {new} first after second = record {
  held = λ name. second.held name ∙ first.held name;
  inputs = λ input. read_then (asked.inputs input) old (old.inputs input) (mid.inputs input) (new.inputs input) (first.inputs input)
      (told_before (asked.inputs input) old mid (mid.inputs input) (new.inputs input) first.held (second.inputs input));
  later = λ other later. second.later other later ∙ first.later other (omega (arith, after, later));
  outputs = λ output. second.outputs output ∙ first.outputs output;
  calls = then_ends failed new.calls first.calls second.calls;
}

-- inputs up to this one were read, and so up to a later one
pub up_to : {asked : Asked} {one : Input} {failed : Option Stream} {old new : DeskView} (next : Input) → Account asked one failed old new
    → rank one ≤ rank next → Account asked next failed old new
up_to next account after = record {
  held = account.held;
  inputs = account.inputs;
  later = λ other later. account.later other (omega (arith, after, later));
  outputs = account.outputs;
  calls = account.calls;
}

-- one input was read, and no later one was touched
pub ends_first : {which : Input} {old new : DeskView} → ChangesInput which old new → EndsAt which old new
ends_first {which} only = record {
  later = λ other later. only.inputs other (later_apart which other later);
  outputs = only.outputs;
}

-- inputs were read, and then a later one
pub ends_then : {one next : Input} {old mid new : DeskView} → EndsAt one old mid → rank one < rank next → ChangesInput next mid new
    → EndsAt next old new
ends_then {one} {next} ends after only = record {
  later = λ other later. only.inputs other (later_apart next other later) ∙ ends.later other (omega (arith, after, later));
  outputs = λ output. only.outputs output ∙ ends.outputs output;
}

-- nothing later was touched
pub ends_at : {asked : Asked} {last : Input} {failed : Option Stream} {old new : DeskView} → Account asked last failed old new
    → EndsAt last old new
ends_at account = record { later = account.later; outputs = account.outputs }

-- what was read stays so where no input is touched
pub still_read : (names : Input → Option (List ℕ)) (old mid new : DeskView) → AreReadAs names old mid → KeepsInputs mid new
    → AreReadAs names old new
still_read names old mid new read keeps = λ input.
    read_then (names input) old (old.inputs input) (mid.inputs input) (new.inputs input) (read input) (inl (keeps input))

-- the calls of a reading, by its result
pub ends_in : {T : Type 0} (asked : Asked) (result : Result T InputsError) (a b : Told) → Ends failed_input asked result a b
    → EndsBy asked (failed_in result) a b
ends_in asked (Ok x) a b calls = calls
ends_in asked (Err error) a b calls = calls
