-- Rows that say nothing of where the head is: tests of completion, findings, deliveries and tasks.
use Rattle.fb_model.proofs.Words.{◌≡◌, ℕ, List, [], ◌∷◌, ◌++◌, map, refl, sym, subst, AllByRecursion, all_any, Disk, ForeRow, BackRow}
use Rattle.fb_model.proofs.Words.{DeliveryRow, Inputs, Medium, timeline, instant_of, Past, Delivery, Step, decision_in, tested_past}
use Rattle.fb_model.proofs.Words.{chosen_past, task_rows, delivery_rows, IsTested}
use Rattle.fb_rows.specs.declared.back.BackRow.TheVariants.{Gap as BackGap, Idle as BackIdle}
use Rattle.fb_model.proofs.EachRow.{TestHas, RowsHave, AnyEnds, any_linked, tests_have, followed_have, tasks_have}

-- no gap row and no idle row
abbrev pub IsQuiet : BackRow → Type 0
IsQuiet (BackGap row) = ⊥
IsQuiet (BackIdle dwell) = ⊥
IsQuiet _ = Unit {0}

-- they leave the timeline as it is
pub quiet_before : (disk : Disk) (rows back : List BackRow) (fore : List ForeRow) → AllByRecursion IsQuiet rows
    → timeline disk (rows ++ back) fore ≡ timeline disk back fore
unfolding timeline
quiet_before disk [] back fore all = refl
quiet_before disk (BackGap row ∷ rows) back fore all = absurd all.0
quiet_before disk (BackIdle dwell ∷ rows) back fore all = absurd all.0
quiet_before disk (_ ∷ rows) back fore all = quiet_before disk rows back fore all.1

pub all_quiet : (disk : Disk) (rows : List BackRow) (fore : List ForeRow) → AllByRecursion IsQuiet rows → timeline disk rows fore ≡ []
unfolding timeline
all_quiet disk [] fore all = refl
all_quiet disk (BackGap row ∷ rows) fore all = absurd all.0
all_quiet disk (BackIdle dwell ∷ rows) fore all = absurd all.0
all_quiet disk (_ ∷ rows) fore all = all_quiet disk rows fore all.1

-- ---- which rows are so

test_quiet : (medium : Medium) (now : ℕ) (past : Past) → TestHas medium IsQuiet now past
test_quiet medium now past =
    record { segments = λ task choice opened. tt; seals = λ task opened is_open done. tt; completes = λ task opened. tt }

quiet_kept : (medium : Medium) → RowsHave medium IsQuiet (λ now past. Unit {0}) AnyEnds
quiet_kept medium = record {
  test = λ now past any. test_quiet medium now past;
  finds = λ row lbn got. tt;
  delivers = λ now past row any got linked. tt;
  tests = λ now past rows any. tt;
}

pub tasks_quiet : (past : Past) → AllByRecursion IsQuiet (task_rows past)
tasks_quiet past = tasks_have IsQuiet past (λ task opened. tt)

-- ---- a step's rows beside the one that opens it

pub record IsQuietStep (step : Step) : Type 0 where
  pub test : AllByRecursion IsQuiet step.test
  pub delivered : AllByRecursion IsQuiet (delivery_rows step.deliveries)

pub quiet_step : (inputs : Inputs) (medium : Medium) (past : Past) (step : Step) → IsTested inputs medium past step → IsQuietStep step
quiet_step inputs medium past step tested =
    let now = instant_of (decision_in step) in
    let chosen = chosen_past inputs past (decision_in step) in
    let rows = map (λ (d : Delivery). d.got) step.deliveries in
    record {
      test = subst (AllByRecursion IsQuiet) (sym tested.test) (tests_have medium IsQuiet now chosen (test_quiet medium now chosen));
      delivered = followed_have medium IsQuiet (λ now past. Unit {0}) AnyEnds (quiet_kept medium) now (tested_past inputs past step)
          step.deliveries tt tested.followed (all_any (λ (row : DeliveryRow). Unit {0}) (λ row. tt) rows) (any_linked now rows);
    }
