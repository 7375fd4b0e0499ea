-- The tasks of a script that was read have names.
use Rattle.fb_check.proofs.Words.{◌≡◌, ℕ, ◌+◌, List, [], ◌∷◌, true, length, subst, not, ◌&&◌, and_parts, all_append, Shape, Action, Open}
use Rattle.std.proofs.Common.{Ok}
use Rattle.std.proofs.lemmas.Bool.{not-false}
use Rattle.fb_units.proofs.Lists.{same_Ok}
use Rattle.fb_units.proofs.Judged.{both_ok, step_ok}
use Rattle.fb_units.specs.Judging.{or_refuse}
use Rattle.fb_units.specs.Lines.{lines_of, fields_of}
use Rattle.fb_units.specs.Numbers.{millis_of}
use Rattle.fb_calls.specs.declared.fault.CallsReason.TheVariants.{BadLine, BadTime}
use Rattle.fb_script.specs.Names.{is_name}
use Rattle.fb_calls.specs.Words.{verb_of}
use Rattle.fb_calls.specs.Sessions.{names_after}
use Rattle.fb_calls.specs.Judgement.{Progress, call_of, with_call}
use Rattle.fb_calls.specs.Line.{Entry, entry_of, has_its_fields, asked_by}
use Rattle.fb_calls.specs.Reading.{Accepted, at_start, at_end, line_read, fault_at, next_progress, lines_from}
use Rattle.fb_calls.proofs.Accepting.{passed}
use Rattle.fb_report.specs.Printed.{AreNames}
use Rattle.fb_check.specs.Printing.{ScriptsNameTasks}

-- a line without a name is refused
entry_named : (fields : List (List ℕ)) (entry : Entry) → entry_of fields ≡ Ok entry → is_name entry.name ≡ true
unfolding entry_of
entry_named [] entry given = cc
entry_named (time ∷ []) entry given = cc
entry_named (time ∷ verb ∷ []) entry given = cc
entry_named (time ∷ verb ∷ name ∷ more) entry given =
    let known = has_its_fields (verb_of verb) (length more) in
    let whole = passed BadLine (not (known && is_name name)) _ entry given in
    let instant = both_ok (or_refuse BadTime (millis_of time)) _ entry whole.1 in
    let asked = both_ok (asked_by (verb_of verb) more) _ entry instant.2 in
    subst (λ (read : Entry). is_name read.name ≡ true)
    (same_Ok (record { instant = instant.0; name = name; asked = asked.0 }) entry asked.2)
    (and_parts known (is_name name) (not-false (known && is_name name) whole.0)).1

-- an open adds its name
named_after : (names : List (List ℕ)) (name : List ℕ) (action : Action) → is_name name ≡ true → AreNames names
    → AreNames (names_after names name action)
named_after names name (Open kind weight block) named all = all_append (λ name. is_name name ≡ true) names (name ∷ []) all (named, tt)
named_after names name _ named all = all

module _ (disk : Shape) where
  line_named : (number : ℕ) (so_far next : Progress) (fields : List (List ℕ)) → AreNames so_far.names
      → line_read disk number so_far fields ≡ Ok next → AreNames next.names
  unfolding line_read
  line_named number so_far next [] all given = subst (λ (progress : Progress). AreNames progress.names) (same_Ok so_far next given) all
  line_named number so_far next (field ∷ fields) all given =
      let entry = both_ok (entry_of (field ∷ fields)) _ next given in
      let call = both_ok (call_of disk so_far number entry.0) _ next entry.2 in
      subst (λ (progress : Progress). AreNames progress.names) (same_Ok (with_call disk entry.0.name so_far call.0) next call.2)
      (named_after so_far.names entry.0.name call.0.action (entry_named (field ∷ fields) entry.0 entry.1) all)

  lines_named : (number : ℕ) (so_far : Progress) (lines : List (List ℕ)) (script : Accepted) → AreNames so_far.names
      → lines_from disk number so_far lines ≡ Ok script → AreNames script.names
  unfolding lines_from
  lines_named number so_far [] script all given =
      subst (λ (script : Accepted). AreNames script.names) (same_Ok (at_end so_far) script given) all
  lines_named number so_far (line ∷ lines) script all given =
      let next = both_ok (next_progress disk number so_far line) _ script given in
      let step = step_ok (fault_at number) (line_read disk number so_far (fields_of line)) next.0 next.1 in
      lines_named (number + 1) next.0 lines script (line_named number so_far next.0 (fields_of line) all step) next.2

pub scripts_name : ScriptsNameTasks
scripts_name disk traced text script given = lines_named disk 1 (at_start traced) (lines_of text) script tt given
