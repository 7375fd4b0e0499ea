-- What each row of a run's background has: the rows of tests, findings, deliveries, steps and tasks.
use Rattle.fb_model.proofs.Words.{◌≡◌, ℕ, ◌<◌, List, [], ◌∷◌, ◌++◌, length, map, Bool, true, false, refl, sym, subst, arith, ◌&&◌, filter}
use Rattle.fb_model.proofs.Words.{not, if◌then◌else◌, AllByRecursion, flat_map, and_parts, all_append, all_range, all_map, BackRow}
use Rattle.fb_model.proofs.Words.{DeliveryRow, Dwell, Inputs, Medium, instant_of, Act, serving, idling, ending, Past, delivered, tested}
use Rattle.fb_model.proofs.Words.{tasks, task_numbers, terms_of, is_open_backup, Choice, choices, is_complete, was_complete, work}
use Rattle.fb_model.proofs.Words.{bad_sectors, complete_rows, findings, image, is_newly_cleaned, is_scrub, packed, seal_rows, segment_row}
use Rattle.fb_model.proofs.Words.{segment_rows, test_rows, AtEach, Delivery, Step, decision_in, opening, step_rows, past_after}
use Rattle.fb_model.proofs.Words.{chosen_past, task_row, task_rows, delivery_rows, tested_past, with_delivery, AreFollowed, IsTested}
use Rattle.fb_units.proofs.Each.{all_map_any}
use Rattle.fb_units.proofs.Parts.{all-parts}
use Rattle.fb_rows.specs.declared.back.BackRow.TheVariants.{Gap as BackGap, Idle as BackIdle, Got as BackGot, Bad as BackBad}
use Rattle.fb_rows.specs.declared.back.BackRow.TheVariants.{Seal as BackSeal, Complete as BackComplete}
use Rattle.fb_rows.specs.declared.back.GapRow.{GapRow}

-- each end is in a relation to the one before it
abbrev pub AreLinked : (ℕ → ℕ → Type 0) → ℕ → List DeliveryRow → Type 0
AreLinked R now [] = Unit {0}
AreLinked R now (row ∷ rows) = R now row.end × AreLinked R row.end rows

abbrev pub AnyEnds : ℕ → ℕ → Type 0
AnyEnds now end = Unit {0}

pub any_linked : (now : ℕ) (rows : List DeliveryRow) → AreLinked AnyEnds now rows
any_linked now [] = tt
any_linked now (row ∷ rows) = (tt, any_linked row.end rows)

-- each row has Q that a test at this instant can give
pub record TestHas (medium : Medium) (Q : BackRow → Type 0) (now : ℕ) (past : Past) : Type 0 where
  pub segments : (task : ℕ) (choice : Choice) → task < length (tasks past) → Q (segment_row now task (packed medium past choice) choice)
  pub seals : (task : ℕ) → task < length (tasks past) → is_open_backup past task ≡ true → is_complete past task ≡ true
      → Q (BackSeal (record { task = task; instant = now; content = image medium past task now }))
  pub completes : (task : ℕ) → task < length (tasks past) → Q (BackComplete (record { task = task; instant = now }))

-- what a history has at an instant gives Q to the rows of a test, and stays with deliveries and tests
pub record RowsHave (medium : Medium) (Q : BackRow → Type 0) (I : ℕ → Past → Type 0) (R : ℕ → ℕ → Type 0) : Type 0 where
  pub test : (now : ℕ) (past : Past) → I now past → TestHas medium Q now past
  pub finds : (row : DeliveryRow) (lbn : ℕ) → Q (BackGot row) → Q (BackBad (record { task = row.block.task; lbn = lbn }))
  pub delivers : (now : ℕ) (past : Past) (row : DeliveryRow) → I now past → Q (BackGot row) → R now row.end
      → I row.end (delivered row ∷ past)
  pub tests : (now : ℕ) (past : Past) (rows : List BackRow) → I now past → I now (tested rows ∷ past)

one_if : (Q : BackRow → Type 0) (b : Bool) (row : BackRow) → (b ≡ true → Q row) → AllByRecursion Q (if b then row ∷ [] else [])
one_if Q true row has = (has refl, tt)
one_if Q false row has = tt

module _ (medium : Medium) (Q : BackRow → Type 0) (now : ℕ) (past : Past) (has : TestHas medium Q now past) where
  pub tests_have : AllByRecursion Q (test_rows medium past now)
  unfolding test_rows
  tests_have =
      all_append Q (flat_map (segment_rows (packed medium past) past now) (task_numbers past))
      (flat_map (λ task. seal_rows (image medium past task now) past now task ++ complete_rows past now task) (task_numbers past))
      (all-parts Q (segment_rows (packed medium past) past now) 0 (length (tasks past)) (λ task from below.
      let opened : task < length (tasks past) = omega (arith, below) in
      all_map_any Q (λ (choice : Choice). segment_row now task (packed medium past choice) choice)
      (λ choice. has.segments task choice opened) (filter (is_newly_cleaned (work past task)) (choices past task))))
      (all-parts Q (λ task. seal_rows (image medium past task now) past now task ++ complete_rows past now task) 0 (length (tasks past))
      (λ task from below.
      let opened : task < length (tasks past) = omega (arith, below) in
      all_append Q (seal_rows (image medium past task now) past now task) (complete_rows past now task)
      (one_if Q (is_open_backup past task && is_complete past task) _
      (λ is. let both = and_parts (is_open_backup past task) (is_complete past task) is in has.seals task opened both.0 both.1))
      (one_if Q (is_complete past task && not (was_complete past task)) _ (λ is. has.completes task opened))))

module _ (medium : Medium) (Q : BackRow → Type 0) (I : ℕ → Past → Type 0) (R : ℕ → ℕ → Type 0) (have : RowsHave medium Q I R) where
  findings_have : (past : Past) (row : DeliveryRow) → Q (BackGot row) → AllByRecursion Q (findings past row)
  findings_have past row got = by (is_scrub (terms_of past row.block.task).kind)
    where
      by : (b : Bool)
          → AllByRecursion Q (if b then map (λ lbn. BackBad (record { task = row.block.task; lbn = lbn })) (bad_sectors row.content) else [])
      by true = all_map_any Q (λ lbn. BackBad (record { task = row.block.task; lbn = lbn })) (λ lbn. have.finds row lbn got)
          (bad_sectors row.content)
      by false = tt

  pub followed_have : (now : ℕ) (past : Past) (deliveries : List Delivery) → I now past → AreFollowed medium past deliveries
      → AllByRecursion (λ (row : DeliveryRow). Q (BackGot row)) (map (λ (d : Delivery). d.got) deliveries)
      → AreLinked R now (map (λ (d : Delivery). d.got) deliveries) → AllByRecursion Q (delivery_rows deliveries)
  followed_have now past [] h followed gots linked = tt
  followed_have now past (d ∷ ds) h followed gots linked =
      let next = have.delivers now past d.got h gots.0 linked.0 in
      all_append Q (BackGot d.got ∷ d.after) (delivery_rows ds) (
        gots.0,
        subst (AllByRecursion Q) (sym followed.0)
            (all_append Q (findings past d.got) (test_rows medium (delivered d.got ∷ past) d.got.end)
            (findings_have past d.got gots.0) (tests_have medium Q d.got.end (delivered d.got ∷ past)
            (have.test d.got.end (delivered d.got ∷ past) next))),
      )
      (followed_have d.got.end (with_delivery past d) ds (have.tests d.got.end (delivered d.got ∷ past) d.after next)
      followed.1 gots.1 linked.1)

  pub step_has : (inputs : Inputs) (past : Past) (step : Step)
      → I (instant_of (decision_in step)) (chosen_past inputs past (decision_in step)) → IsTested inputs medium past step
      → ((row : GapRow) → Q (BackGap row)) → ((dwell : Dwell) → Q (BackIdle dwell))
      → AllByRecursion (λ (row : DeliveryRow). Q (BackGot row)) (map (λ (d : Delivery). d.got) step.deliveries)
      → AreLinked R (instant_of (decision_in step)) (map (λ (d : Delivery). d.got) step.deliveries)
      → AllByRecursion Q (step_rows inputs.disk step)
  step_has inputs past step h is gap idle gots linked =
      let chosen = chosen_past inputs past (decision_in step) in
      let now = instant_of (decision_in step) in
      all_append Q (step.test ++ opening inputs.disk step.act) (delivery_rows step.deliveries)
      (all_append Q step.test (opening inputs.disk step.act)
      (subst (AllByRecursion Q) (sym is.test) (tests_have medium Q now chosen (have.test now chosen h))) (opened step.act))
      (followed_have now (tested_past inputs past step) step.deliveries (have.tests now chosen step.test h) is.followed gots linked)
    where
      opened : (act : Act) → AllByRecursion Q (opening inputs.disk act)
      opened (serving served plan) = (gap _, tt)
      opened (idling dwell) = (idle dwell, tt)
      opened (ending now) = tt

-- ---- the rows of all steps, and those of all tasks

pub steps_have : (Q : BackRow → Type 0) (inputs : Inputs) (past : Past) (steps : List Step)
    → AtEach (λ past step. AllByRecursion Q (step_rows inputs.disk step)) inputs past steps
    → AllByRecursion Q (flat_map (step_rows inputs.disk) steps)
steps_have Q inputs past [] each = tt
steps_have Q inputs past (step ∷ steps) each = all_append Q (step_rows inputs.disk step) (flat_map (step_rows inputs.disk) steps) each.0
    (steps_have Q inputs (past_after inputs past step) steps each.1)

pub tasks_have : (Q : BackRow → Type 0) (past : Past) → ((task : ℕ) → task < length (tasks past) → Q (task_row past task))
    → AllByRecursion Q (task_rows past)
unfolding task_rows
tasks_have Q past each = all_map Q (task_row past) (task_numbers past)
    (all_range (λ task. Q (task_row past task)) 0 (length (tasks past)) (λ task from below. each task (omega (arith, below))))
