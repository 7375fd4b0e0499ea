-- An accepted script obeys the rules.
use Rattle.std.proofs.Common.{◌≡◌, ℕ, ◌+◌, ◌^◌, ◌<◌, ◌≤◌, nat_lt, List, [], ◌∷◌, length, Ok, refl, sym, subst, arith}
use Rattle.std.proofs.lemmas.Bool.Decides.{nat_tests}
use Rattle.fb_units.proofs.Lists.{same_Ok}
use Rattle.fb_units.proofs.Judged.{both_ok, step_ok}
use Rattle.fb_units.specs.Lines.{lines_of, fields_of}
use Rattle.fb_geometry.specs.Shape.{Shape}
use Rattle.fb_script.specs.declared.call.Call.{Call}
use Rattle.fb_calls.specs.declared.fault.CallsReason.TheVariants.{OutOfOrder}
use Rattle.fb_script.specs.Allowed.{tasks, IsScript}
use Rattle.fb_calls.specs.Judgement.{Progress, task_for, call_of, with_call}
use Rattle.fb_calls.specs.Line.{Entry, entry_of}
use Rattle.fb_calls.specs.Reading.{Accepted, at_start, at_end, line_read, fault_at, next_progress, lines_from, calls_of}
use Rattle.fb_calls.proofs.Accepting.{IsWithinEntry, passed, admits}
use Rattle.fb_calls.proofs.Following.{Knows}
use Rattle.fb_calls.proofs.Keeping.{call_kept}
use Rattle.fb_calls.proofs.Spelling.{entry_within}

module _ (disk : Shape) (traced : ℕ) where
  call_allowed : (number : ℕ) (so_far : Progress) (entry : Entry) (call : Call) → Knows disk traced so_far → IsWithinEntry entry
      → call_of disk so_far number entry ≡ Ok call
      → Knows disk traced (with_call disk entry.name so_far call)
  unfolding call_of
  call_allowed number so_far entry call knows within given =
      let order = passed OutOfOrder (nat_lt entry.instant so_far.instant) _ call given in
      let asked = both_ok entry.asked _ call order.1 in
      let task = both_ok (task_for disk so_far entry.name asked.0) _ call asked.2 in
      let made : Call = record { line = number; instant = entry.instant; task = task.0; action = asked.0 } in
      let later : so_far.instant ≤ entry.instant = grind (arith, nat_tests) in
      subst (λ c. Knows disk traced (with_call disk entry.name so_far c)) (same_Ok made call task.2)
      (call_kept disk traced so_far knows entry.name made later within.0
      (admits disk traced so_far knows asked.0 task.0 entry.name (within.1 asked.0 asked.1) task.1))

  line_allowed : (number : ℕ) (so_far next : Progress) (fields : List (List ℕ)) → Knows disk traced so_far
      → line_read disk number so_far fields ≡ Ok next → Knows disk traced next
  unfolding line_read
  line_allowed number so_far next [] knows given = subst (Knows disk traced) (same_Ok so_far next given) knows
  line_allowed number so_far next (field ∷ fields) knows given =
      let entry = both_ok (entry_of (field ∷ fields)) _ next given in
      let call = both_ok (call_of disk so_far number entry.0) _ next entry.2 in
      subst (Knows disk traced) (same_Ok (with_call disk entry.0.name so_far call.0) next call.2)
      (call_allowed number so_far entry.0 call.0 knows (entry_within (field ∷ fields) entry.0 entry.1) call.1)

  lines_allowed : (number : ℕ) (so_far : Progress) (lines : List (List ℕ)) (accepted : Accepted) → Knows disk traced so_far
      → lines_from disk number so_far lines ≡ Ok accepted
      → (last : Progress) × (at_end last ≡ accepted) × Knows disk traced last
  unfolding lines_from
  lines_allowed number so_far [] accepted knows given = (so_far, same_Ok (at_end so_far) accepted given, knows)
  lines_allowed number so_far (line ∷ lines) accepted knows given =
      let next = both_ok (next_progress disk number so_far line) _ accepted given in
      let step = step_ok (fault_at number) (line_read disk number so_far (fields_of line)) next.0 next.1 in
      lines_allowed (number + 1) next.0 lines accepted (line_allowed number so_far next.0 (fields_of line) knows step) next.2

  at_start_known : Knows disk traced (at_start traced)
  at_start_known = record {
    terms = refl;
    names_are = refl;
    sizes = λ task. omega arith;
    closed = λ task. refl;
    wanted = λ task. refl;
    allowed = tt;
    blocks_are = refl;
    few_blocks = omega arith;
    reads_are = omega arith;
    few_reads = λ few. few;
    rising = tt;
    last = tt;
  }

  pub script_allowed : (text : List ℕ) (accepted : Accepted) → calls_of disk traced text ≡ Ok accepted → length accepted.calls < 2 ^ 32
      → (length accepted.names ≡ length (tasks accepted.calls)) × IsScript disk traced accepted.calls
  script_allowed text accepted given few =
      let read = lines_allowed 1 (at_start traced) (lines_of text) accepted at_start_known given in
      let knows = read.2 in
      let few_calls : length read.0.calls < 2 ^ 32 = subst (λ a. length a.calls < 2 ^ 32) (sym read.1) few in
      subst (λ a. (length a.names ≡ length (tasks a.calls)) × IsScript disk traced a.calls) read.1 (
        knows.names_are,
        record {
          instants = knows.rising;
          allowed = knows.allowed;
          few_calls = few_calls;
          few_blocks = omega (arith, knows.blocks_are, knows.few_blocks);
          few_reads = λ small. let reads = knows.few_reads small in omega (arith, knows.reads_are);
        },
      )
