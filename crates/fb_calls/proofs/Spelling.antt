-- What a line spells is of its form.
use Rattle.std.proofs.Common.{◌≡◌, ℕ, ◌≤◌, Bool, not, ◌&&◌, List, [], ◌∷◌, length, take, length-take, Option, Some, None, Result, Ok, inl}
use Rattle.std.proofs.Common.{inr, sym, ap, ◌∙◌, subst, arith}
use Rattle.std.proofs.lemmas.Bool.{cases_Bool}
use Rattle.fb_units.proofs.Lists.{same_Ok}
use Rattle.fb_units.proofs.Judged.{both_ok, value_ok, number_small, millis_small}
use Rattle.fb_units.specs.Judging.{or_refuse}
use Rattle.fb_units.specs.Numbers.{millis_of, number_of}
use Rattle.fb_script.specs.declared.call.Action.{Action}
use Rattle.fb_script.specs.declared.call.Action.TheVariants.{Open, Want, Abort, Promote, Suspend, Resume, Close, Segment}
use Rattle.fb_calls.specs.declared.fault.CallsReason.{CallsReason}
use Rattle.fb_calls.specs.declared.fault.CallsReason.TheVariants.{BadLine, BadTime, BadNumber, UnknownKind}
use Rattle.fb_calls.specs.declared.words.Verb.{Verb}
use Rattle.fb_calls.specs.declared.words.Verb.TheVariants.{Open as OpenVerb, Want as WantVerb, Abort as AbortVerb, Promote as PromoteVerb}
use Rattle.fb_calls.specs.declared.words.Verb.TheVariants.{Suspend as SuspendVerb, Resume as ResumeVerb, Close as CloseVerb}
use Rattle.fb_calls.specs.declared.words.Verb.TheVariants.{Segment as SegmentVerb}
use Rattle.fb_calls.specs.Line.{Entry, number, range_of, asked_by, has_its_fields, entry_of}
use Rattle.fb_calls.specs.Live.{bits, is_live, live_of}
use Rattle.fb_script.specs.Names.{is_name}
use Rattle.fb_calls.specs.Words.{verb_of, kind_of}
use Rattle.fb_calls.proofs.Accepting.{IsSpelled, IsWithinEntry, passed}
use Rattle.fb_calls.proofs.Bits.{length-bits, live_some, live_length}

live_spelled : (blocks : ℕ) (digits : List ℕ) (live : List Bool) → live_of blocks digits ≡ Some live → (1 ≤ blocks) × (length live ≡ blocks)
live_spelled blocks digits live given = elim (cases_Bool (is_live blocks digits)) [
  | inl form ↦
      let same : take blocks (bits digits) ≡ live = cc in (
        live_some blocks digits form,
        sym (ap length same) ∙ omega (arith, length-take blocks (bits digits), length-bits digits, live_length blocks digits form),
      )
  | inr other ↦ absurd (cc)
]

-- what was asked for is an action of its form
abbrev AreSpelled : Result Action CallsReason → Type 0
AreSpelled asked = (action : Action) → asked ≡ Ok action → IsSpelled action

is_spelled : (made : Action) → IsSpelled made → AreSpelled (Ok made)
is_spelled made spelled action same = subst IsSpelled (same_Ok made action same) spelled

asked_spelled : (verb : Option Verb) (more : List (List ℕ)) (asked : Result Action CallsReason) → asked_by verb more ≡ Ok asked
    → AreSpelled asked
unfolding asked_by
asked_spelled None more asked given = λ action same. cc
asked_spelled (Some OpenVerb) [] asked given = cc
asked_spelled (Some OpenVerb) (kind ∷ []) asked given = cc
asked_spelled (Some OpenVerb) (kind ∷ weight ∷ []) asked given = cc
asked_spelled (Some OpenVerb) (kind ∷ weight ∷ block ∷ []) asked given =
    let w = both_ok (number 5 weight) _ asked given in
    let b = both_ok (number 6 block) _ asked w.2 in
    subst AreSpelled (same_Ok _ asked b.2) (λ action same.
    let k = both_ok (or_refuse UnknownKind (kind_of kind)) _ action same in
    subst IsSpelled (same_Ok (Open k.0 w.0 b.0) action k.2) tt)
asked_spelled (Some OpenVerb) (kind ∷ weight ∷ block ∷ other ∷ more) asked given = cc
asked_spelled (Some WantVerb) more asked given =
    let range = both_ok (range_of more) _ asked given in
    subst AreSpelled (same_Ok _ asked range.2) (is_spelled (Want range.0.0 range.0.1) tt)
asked_spelled (Some AbortVerb) more asked given =
    let range = both_ok (range_of more) _ asked given in
    subst AreSpelled (same_Ok _ asked range.2) (is_spelled (Abort range.0.0 range.0.1) tt)
asked_spelled (Some PromoteVerb) more asked given =
    let range = both_ok (range_of more) _ asked given in
    subst AreSpelled (same_Ok _ asked range.2) (is_spelled (Promote range.0.0 range.0.1) tt)
asked_spelled (Some SuspendVerb) [] asked given = subst AreSpelled (same_Ok (Ok Suspend) asked given) (is_spelled Suspend tt)
asked_spelled (Some SuspendVerb) (other ∷ more) asked given = cc
asked_spelled (Some ResumeVerb) [] asked given = subst AreSpelled (same_Ok (Ok Resume) asked given) (is_spelled Resume tt)
asked_spelled (Some ResumeVerb) (other ∷ more) asked given = cc
asked_spelled (Some CloseVerb) [] asked given = subst AreSpelled (same_Ok (Ok Close) asked given) (is_spelled Close tt)
asked_spelled (Some CloseVerb) (other ∷ more) asked given = cc
asked_spelled (Some SegmentVerb) [] asked given = cc
asked_spelled (Some SegmentVerb) (first ∷ []) asked given = cc
asked_spelled (Some SegmentVerb) (first ∷ blocks ∷ []) asked given = cc
asked_spelled (Some SegmentVerb) (first ∷ blocks ∷ age ∷ []) asked given = cc
asked_spelled (Some SegmentVerb) (first ∷ blocks ∷ age ∷ live ∷ []) asked given =
    let f = both_ok (number 4 first) _ asked given in
    let b = both_ok (number 5 blocks) _ asked f.2 in
    let a = both_ok (number 6 age) _ asked b.2 in
    let l = both_ok (or_refuse (BadNumber 7) (live_of b.0 live)) _ asked a.2 in
    let small = number_small age a.0 (value_ok (BadNumber 6) (number_of age) a.0 a.1) in
    let form = live_spelled b.0 live l.0 (value_ok (BadNumber 7) (live_of b.0 live) l.0 l.1) in
    subst AreSpelled (same_Ok _ asked l.2) (is_spelled (Segment f.0 b.0 a.0 l.0) (form.0, small, form.1))
asked_spelled (Some SegmentVerb) (first ∷ blocks ∷ age ∷ live ∷ other ∷ more) asked given = cc

pub entry_within : (fields : List (List ℕ)) (entry : Entry) → entry_of fields ≡ Ok entry → IsWithinEntry entry
unfolding entry_of
entry_within [] entry given = cc
entry_within (time ∷ []) entry given = cc
entry_within (time ∷ verb ∷ []) entry given = cc
entry_within (time ∷ verb ∷ name ∷ more) entry given =
    let whole = passed BadLine (not (has_its_fields (verb_of verb) (length more) && is_name name)) _ entry given in
    let instant = both_ok (or_refuse BadTime (millis_of time)) _ entry whole.1 in
    let asked = both_ok (asked_by (verb_of verb) more) _ entry instant.2 in
    subst IsWithinEntry (same_Ok _ entry asked.2)
    (millis_small time instant.0 (value_ok BadTime (millis_of time) instant.0 instant.1), asked_spelled (verb_of verb) more asked.0 asked.1)
