-- The calls of a command, one part after another.
use Rattle.std.proofs.Common.{◌≡◌, ◌∙◌, List, [], ◌∷◌, ◌++◌, Option, Some, None, refl, sym, ap, subst, append_assoc}
use Rattle.std.specs.Prelude.{Result, Ok, Err}
use Rattle.std.specs.List.{AllByRecursion}
use Rattle.fb_desk.specs.View.{Call}
use Rattle.fb_desk.specs.Calls.{MakesCall}
use Rattle.fb_streams.specs.Called.{AreServed, Asked, EndsBy, Ends, HasFailed, IsServed, StopsAt, Stream, Told}

all_both : (P : Call → Type 0) (one other : List Call) → AllByRecursion P one → AllByRecursion P other → AllByRecursion P (one ++ other)
all_both P [] other a b = b
all_both P (call ∷ calls) other a b = (a.0, all_both P calls other a.1 b)

-- no call was made
none_made : (asked : Asked) (calls : Told) → AreServed asked calls calls
none_made asked None = record { since = tt }
none_made asked (Some calls) = record { since = ([], calls, refl, refl, tt) }

pub no_call : {asked : Asked} {calls : Told} → AreServed asked calls calls
no_call {asked} {calls} = none_made asked calls

pub same_calls : {asked : Asked} {old new : Told} → new ≡ old → AreServed asked old new
same_calls {asked} {old} {new} same = subst (λ (calls : Told). AreServed asked old calls) (sym same) no_call

-- one call was made, and succeeded
pub one_call : (asked : Asked) (call : Call) (old new : Told) → MakesCall call old new → IsServed asked call → AreServed asked old new
one_call asked call old None makes served = record { since = tt }
one_call asked call old (Some calls) makes served = record { since = (call ∷ [], makes.0, makes.1, makes.2, (served, tt)) }

-- and then more
both_told : (asked : Asked) (a b : Told) (made earlier : List Call) → AreServed asked a b → b ≡ Some earlier
    → AllByRecursion (IsServed asked) made → AreServed asked a (Some (made ++ earlier))
both_told asked a None made earlier first is served = absurd (cc)
both_told asked a (Some calls) made earlier first is served =
    let told = first.since in
    let here : earlier ≡ told.0 ++ told.1 = cc in
    record {
      since = (
        made ++ told.0,
        told.1,
        told.2,
        ap (λ xs. made ++ xs) here ∙ sym (append_assoc made told.0 told.1),
        all_both (IsServed asked) made told.0 served told.4,
      );
    }

both_made : (asked : Asked) (a b c : Told) → AreServed asked a b → AreServed asked b c → AreServed asked a c
both_made asked a b None first second = record { since = tt }
both_made asked a b (Some calls) first second =
    let told = second.since in
    subst (λ (xs : List Call). AreServed asked a (Some xs)) (sym told.3) (both_told asked a b told.0 told.1 first told.2 told.4)

pub then_calls : {asked : Asked} {a b c : Told} → AreServed asked a b → AreServed asked b c → AreServed asked a c
then_calls {asked} {a} {b} {c} first second = both_made asked a b c first second

-- one call was made, and failed
pub one_failed : (asked : Asked) (stream : Stream) (call : Call) (old new : Told) → MakesCall call old new → HasFailed asked stream call
    → StopsAt asked stream old new
one_failed asked stream call old None makes failed = record { since = tt }
one_failed asked stream call old (Some calls) makes failed = record {
  since = (
    call,
    makes.0,
    makes.2,
    failed,
    subst (λ (told : Told). AreServed asked told (Some makes.0)) (sym makes.1) no_call,
  );
}

stops_behind : (asked : Asked) (stream : Stream) (a b c : Told) → AreServed asked a b → StopsAt asked stream b c → StopsAt asked stream a c
stops_behind asked stream a b None first second = record { since = tt }
stops_behind asked stream a b (Some calls) first second =
    let told = second.since in record { since = (told.0, told.1, told.2, told.3, then_calls first told.4) }

pub then_stops : {asked : Asked} {stream : Stream} {a b c : Told} → AreServed asked a b → StopsAt asked stream b c → StopsAt asked stream a c
then_stops {asked} {stream} {a} {b} {c} first second = stops_behind asked stream a b c first second

-- calls that succeeded, and then others
pub then_ends : {asked : Asked} (failed : Option Stream) {a b : Told} (c : Told) → AreServed asked a b → EndsBy asked failed b c
    → EndsBy asked failed a c
then_ends None c first second = then_calls first second
then_ends (Some stream) c first second = then_stops first second

pub then_result : {T E : Type 0} {asked : Asked} (failed : E → Option Stream) (result : Result T E) {a b : Told} (c : Told)
    → AreServed asked a b → Ends failed asked result b c → Ends failed asked result a c
then_result failed (Ok x) c first second = then_calls first second
then_result failed (Err error) c first second = then_ends (failed error) c first second
