-- The background rows of a run: what its deliveries and seals have, all its rows have.
use Rattle.fb_mirror.proofs.Words.{◌≡◌, ℕ, List, [], ◌∷◌, ◌++◌, map, true, sym, subst, AllByRecursion, flat_map, all_weaker, all_append}
use Rattle.fb_mirror.proofs.Words.{all_left, all_right, BackRow, DeliveryRow, Run, Medium, Inputs, instant_of, Past, delivered}
use Rattle.fb_mirror.proofs.Words.{is_open_backup, tested, is_complete, AtEach, Delivery, Step, decision_in, step_rows, past_after}
use Rattle.fb_mirror.proofs.Words.{chosen_past, IsTested}
use Rattle.fb_rows.specs.declared.back.BackRow.TheVariants.{Got as BackGot}
use Rattle.fb_rows.specs.declared.back.BackRow.TheVariants.{Seal as BackSeal}
use Rattle.fb_model.specs.Steps.{history, opening}
use Rattle.fb_model.specs.Steps.{delivery_rows}
use Rattle.fb_model.specs.SoundRun.{IsSoundBy}
pub use Rattle.fb_model.proofs.EachRow.{AreLinked}
use Rattle.fb_model.proofs.EachRow.{RowsHave, AnyEnds, any_linked, step_has, steps_have, tasks_have}

-- a row is a delivery with a property, or a seal whose instant a fact comes with, or another row
abbrev pub RowFits : (DeliveryRow → Type 0) → (ℕ → Type 0) → BackRow → Type 0
RowFits P C (BackGot row) = P row
RowFits P C (BackSeal row) = C row.instant
RowFits P C _ = Unit {0}

abbrev pub RowsFit : (DeliveryRow → Type 0) → (ℕ → Type 0) → List BackRow → Type 0
RowsFit P C rows = AllByRecursion (RowFits P C) rows

-- no fact comes with seals
abbrev pub NoFact : ℕ → Type 0
NoFact instant = Unit {0}

row_weaker : (P Q : DeliveryRow → Type 0) (C : ℕ → Type 0) → ((row : DeliveryRow) → P row → Q row) → (row : BackRow) → RowFits P C row
    → RowFits Q C row
row_weaker P Q C more (BackGot row) fit = more row fit
row_weaker P Q C more _ fit = fit

pub rows_weaker : (P Q : DeliveryRow → Type 0) (C : ℕ → Type 0) → ((row : DeliveryRow) → P row → Q row) → (rows : List BackRow)
    → RowsFit P C rows → RowsFit Q C rows
rows_weaker P Q C more rows fit = all_weaker (RowFits P C) (RowFits Q C) (row_weaker P Q C more) rows fit

-- ---- one delivery after another

abbrev pub gots : Step → List DeliveryRow
gots step = map (λ (delivery : Delivery). delivery.got) step.deliveries

-- what the history has at an instant stays with deliveries and tests, and where a backup is complete then the fact comes with its seal
pub record IsKept (P : DeliveryRow → Type 0) (C : ℕ → Type 0) (I : ℕ → Past → Type 0) (R : ℕ → ℕ → Type 0) : Type 0 where
  pub seals : (now : ℕ) (past : Past) (task : ℕ) → I now past → is_open_backup past task ≡ true → is_complete past task ≡ true → C now
  pub delivers : (now : ℕ) (past : Past) (row : DeliveryRow) → I now past → P row → R now row.end → I row.end (delivered row ∷ past)
  pub tests : (now : ℕ) (past : Past) (rows : List BackRow) → I now past → I now (tested rows ∷ past)

module _ (P : DeliveryRow → Type 0) (C : ℕ → Type 0) (I : ℕ → Past → Type 0) (R : ℕ → ℕ → Type 0) (kept : IsKept P C I R) where
  rows_have : (medium : Medium) → RowsHave medium (RowFits P C) I R
  rows_have medium = record {
    test = λ now past holds. record {
      segments = λ task choice opened. tt;
      seals = λ task opened. kept.seals now past task holds;
      completes = λ task opened. tt;
    };
    finds = λ row lbn got. tt;
    delivers = kept.delivers;
    tests = kept.tests;
  }

  -- a step's rows have what its deliveries have
  pub step_fits : (inputs : Inputs) (medium : Medium) (past : Past) (step : Step)
      → I (instant_of (decision_in step)) (chosen_past inputs past (decision_in step)) → IsTested inputs medium past step
      → AllByRecursion P (gots step) → AreLinked R (instant_of (decision_in step)) (gots step) → RowsFit P C (step_rows inputs.disk step)
  step_fits inputs medium past step holds is each linked = step_has medium (RowFits P C) I R (rows_have medium) inputs past step holds is
      (λ row. tt) (λ dwell. tt) each linked

-- where no fact comes with seals
any_kept : (P : DeliveryRow → Type 0) → IsKept P NoFact (λ now past. Unit {0}) AnyEnds
any_kept P = record {
  seals = λ now past task holds is_open done. tt;
  delivers = λ now past row holds is linked. tt;
  tests = λ now past rows holds. tt;
}

pub gots_fit_step : (P : DeliveryRow → Type 0) (inputs : Inputs) (medium : Medium) (past : Past) (step : Step)
    → IsTested inputs medium past step → AllByRecursion P (gots step) → RowsFit P NoFact (step_rows inputs.disk step)
gots_fit_step P inputs medium past step is each = step_fits P NoFact (λ now past. Unit {0}) AnyEnds
    (any_kept P) inputs medium past step tt is each (any_linked (instant_of (decision_in step)) (gots step))

-- ---- the rows of all steps, and of all tasks behind them

-- the background of a run has what the rows of each step have
pub back_fits : (P : DeliveryRow → Type 0) (C : ℕ → Type 0) (inputs : Inputs) (run : Run) (steps : List Step) → IsSoundBy inputs steps run
    → AtEach (λ past step. RowsFit P C (step_rows inputs.disk step)) inputs [] steps → RowsFit P C run.back
back_fits P C inputs run steps is each = subst (RowsFit P C) (sym is.back)
    (all_append (RowFits P C) (flat_map (step_rows inputs.disk) steps) is.tasks
    (steps_have (RowFits P C) inputs [] steps each)
    (subst (RowsFit P C) (sym is.counted) (tasks_have (RowFits P C) (history inputs steps) (λ task opened. tt))))

-- ---- and the deliveries have what the rows have

gots_of : (P : DeliveryRow → Type 0) (C : ℕ → Type 0) (deliveries : List Delivery)
    → RowsFit P C (delivery_rows deliveries)
    → AllByRecursion P (map (λ (delivery : Delivery). delivery.got) deliveries)
gots_of P C [] fit = tt
gots_of P C (delivery ∷ deliveries) fit = (
  (all_left (RowFits P C) (BackGot delivery.got ∷ delivery.after)
      (delivery_rows deliveries) fit).0,
  gots_of P C deliveries (all_right (RowFits P C) (BackGot delivery.got ∷ delivery.after)
      (delivery_rows deliveries) fit),
)

-- the deliveries of each step
gots_fit : (P : DeliveryRow → Type 0) (C : ℕ → Type 0) (inputs : Inputs) (past : Past) (steps : List Step)
    → RowsFit P C (flat_map (step_rows inputs.disk) steps)
    → AtEach (λ past step. AllByRecursion P (gots step)) inputs past steps
gots_fit P C inputs past [] fit = tt
gots_fit P C inputs past (step ∷ steps) fit = (
  gots_of P C step.deliveries
      (all_right (RowFits P C) (step.test ++ opening inputs.disk step.act)
      (delivery_rows step.deliveries)
      (all_left (RowFits P C) (step_rows inputs.disk step) (flat_map (step_rows inputs.disk) steps) fit)),
  gots_fit P C inputs (past_after inputs past step) steps
      (all_right (RowFits P C) (step_rows inputs.disk step) (flat_map (step_rows inputs.disk) steps) fit),
)

pub gots_of_back : (P : DeliveryRow → Type 0) (C : ℕ → Type 0) (inputs : Inputs) (run : Run) (steps : List Step)
    → IsSoundBy inputs steps run → RowsFit P C run.back
    → AtEach (λ past step. AllByRecursion P (gots step)) inputs [] steps
gots_of_back P C inputs run steps is fit = gots_fit P C inputs [] steps
    (all_left (RowFits P C) (flat_map (step_rows inputs.disk) steps) is.tasks (subst (RowsFit P C) is.back fit))
