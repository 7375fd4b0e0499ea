-- What stands in the loop over decisions.
use Rattle.std.proofs.Common.{◌≡◌, ℕ, List, [], ◌∷◌, ◌++◌, ◌≤◌, ◌<◌, ◌^◌, Bool, true, false, length, ap, sym, subst, arith}
use Rattle.std.specs.List.{AllByRecursion}
use Rattle.std.proofs.lemmas.List.{length-map}
use Rattle.fb_units.proofs.Lists.{all_append}
use Rattle.fb_script.specs.Allowed as allowed
use Rattle.fb_rows.specs.declared.fore.ForeRow.{ForeRow}
use Rattle.fb_rows.specs.declared.back.BackRow.{BackRow}
use Rattle.fb_model.specs.Inputs.{Inputs, served}
use Rattle.fb_model.specs.Content.{medium_of, fore_row, fore_rows}
use Rattle.fb_model.specs.Decisions.{decisions, run_end}
use Rattle.fb_model.specs.Steps.{Step, history, task_rows}
use Rattle.fb_model.specs.FullRun.{IsFull}
use Rattle.fb_rows.specs.Tasks.{HasTaskBelow}
use Rattle.fb_decide.specs.RunState.{RunState}
use Rattle.fb_decide.specs.Making.{HasMade, HasMadeOne, decisions_left}
use Rattle.fb_decide.specs.FullRuns.{DecisionsMakeARun}
use Rattle.fb_engine.specs.Progress.{HasAdvanced}

-- at first
pub at_first : {inputs : Inputs} {state : RunState} → HasMade inputs true [] state → state.course.fore ≡ []
    → state.course.background.rows ≡ [] → HasAdvanced inputs true state
at_first {inputs} made no_fore no_back = record {
  steps = [];
  made = made;
  rows = record { each = tt; fore_so_far = no_fore; back_so_far = no_back };
  fit = subst (AllByRecursion (HasTaskBelow (length (allowed.tasks inputs.calls)))) (sym no_back) tt;
}

-- where another decision follows, and where none does
pub gone_on : {inputs : Inputs} {more goes_on : Bool} {state : RunState}
    → more ≡ goes_on → HasAdvanced inputs more state → HasAdvanced inputs goes_on state
gone_on {inputs} {state = state} e advanced = subst (λ b. HasAdvanced inputs b state) e advanced

-- after one more decision
pub one_on : {inputs : Inputs} {more : Bool} {before after : RunState} → DecisionsMakeARun → (advanced : HasAdvanced inputs true before)
    → HasMadeOne inputs advanced.steps more before after → HasAdvanced inputs more after
one_on {inputs} {before = before} law advanced one = record {
  steps = advanced.steps ++ one.step ∷ [];
  made = one.made;
  rows = rw (one.fore, one.back)
      (law.go_on inputs advanced.steps one.step before.course.fore before.course.background.rows advanced.rows one.is_made);
  fit = rw one.back
      (all_append (HasTaskBelow (length (allowed.tasks inputs.calls))) before.course.background.rows _ advanced.fit one.back_fits);
}

-- and fewer are left
pub less_by : {inputs : Inputs} {steps : List Step} {more was : Bool} {before after : RunState}
    → was ≡ true → HasMadeOne inputs steps more before after → decisions_left inputs more after < decisions_left inputs was before
less_by {inputs} {more = more} {before = before} {after} e one =
    subst (λ b. decisions_left inputs more after < decisions_left inputs b before) (sym e) one.fewer

-- ---- where no decision follows

module _ {inputs : Inputs} {state : RunState} (advanced : HasAdvanced inputs false state) where
  pub is_full : (fore : List ForeRow) (back : List BackRow) → fore ≡ state.course.fore
      → back ≡ state.course.background.rows ++ task_rows (history inputs advanced.steps)
      → (passed_over end : ℕ) → passed_over ≡ inputs.passed_over → DecisionsMakeARun → end ≡ run_end (decisions inputs)
      → IsFull inputs (record { fore = fore; back = back; passed_over = passed_over; end = end })
  is_full fore back same rows passed_over end over law ends =
      rw (same, rows, over, ends)
      (law.full inputs advanced.steps state state.course.fore state.course.background.rows advanced.made advanced.rows)

  pub is_few : (fore : List ForeRow) → fore ≡ state.course.fore → DecisionsMakeARun → length fore ≤ 10 ^ 6
  unfolding fore_rows
  is_few fore same law = omega (
    arith,
    ap length same,
    ap length (law.end inputs advanced.steps state state.course.fore state.course.background.rows advanced.made advanced.rows),
    length-map (served inputs) (fore_row (medium_of inputs)),
    advanced.made.come_to.few,
  )

  pub rows_fit : (back : List BackRow) → back ≡ state.course.background.rows ++ task_rows (history inputs advanced.steps)
      → AllByRecursion (HasTaskBelow (length (allowed.tasks inputs.calls))) (task_rows (history inputs advanced.steps))
      → AllByRecursion (HasTaskBelow (length (allowed.tasks inputs.calls))) back
  rows_fit back rows fits = rw rows (all_append (HasTaskBelow (length (allowed.tasks inputs.calls))) state.course.background.rows
      (task_rows (history inputs advanced.steps)) advanced.fit fits)
