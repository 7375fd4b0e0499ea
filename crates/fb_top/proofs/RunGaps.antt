-- Each gap row of a full run goes with its next foreground row.
use Rattle.fb_top.proofs.Words.{List, [], ◌∷◌, ◌++◌, map, refl, sym, subst, AllByRecursion, flat_map, Disk, ForeRow, Run, Medium, fore_row}
use Rattle.fb_top.proofs.Words.{fore_rows, medium_of, Decision, IsFull, Inputs, requests, Served, decisions_follow, services, Request}
use Rattle.std.proofs.Common.{append_assoc}
use Rattle.fb_rows.specs.declared.back.BackRow.{BackRow}
use Rattle.fb_rows.specs.declared.back.BackRow.TheVariants.{Gap as BackGap, Idle as BackIdle}
use Rattle.fb_model.specs.Decisions.{Act, serving, idling, ending}
use Rattle.fb_model.specs.History.{Past}
use Rattle.fb_model.specs.SoundRun.{HasPlan, IsPlanned, IsTested}
use Rattle.fb_model.specs.Steps.{AtEach, Step, decisions_in, history, opening, step_rows, past_after, delivery_rows}
use Rattle.fb_model.proofs.QuietRows.{IsQuiet, IsQuietStep, quiet_step, tasks_quiet}
use Rattle.fb_units.proofs.Each.{all_any}
use Rattle.fb_bgwrite.specs.Spilled.{AreGaps}

-- rows that are no gaps stand before others
quiet_before : (disk : Disk) (rows back : List BackRow) (fore : List ForeRow) → AllByRecursion IsQuiet rows → AreGaps disk back fore
    → AreGaps disk (rows ++ back) fore
quiet_before disk [] back fore quiet are = are
quiet_before disk (BackGap row ∷ rows) back fore quiet are = absurd quiet.0
quiet_before disk (BackIdle dwell ∷ rows) back fore quiet are = absurd quiet.0
quiet_before disk (_ ∷ rows) back fore quiet are = quiet_before disk rows back fore quiet.1 are

-- or alone
all_quiet : (disk : Disk) (rows : List BackRow) (fore : List ForeRow) → AllByRecursion IsQuiet rows → AreGaps disk rows fore
all_quiet disk [] fore quiet = tt
all_quiet disk (BackGap row ∷ rows) fore quiet = absurd quiet.0
all_quiet disk (BackIdle dwell ∷ rows) fore quiet = absurd quiet.0
all_quiet disk (_ ∷ rows) fore quiet = all_quiet disk rows fore quiet.1

module _ (inputs : Inputs) (medium : Medium) (tasks : List BackRow) (quiet : AllByRecursion IsQuiet tasks) where
  abbrev back_rows : List Step → List BackRow
  back_rows steps = flat_map (step_rows inputs.disk) steps ++ tasks

  abbrev HasGaps : List Step → Type 0
  HasGaps steps = AreGaps inputs.disk (back_rows steps) (map (fore_row medium) (services (decisions_in steps)))

  -- the rows of a step, which open with its own
  opened : (step : Step) (steps : List Step) (fore : List ForeRow) → IsQuietStep step
      → AreGaps inputs.disk (opening inputs.disk step.act ++ (delivery_rows step.deliveries ++ back_rows steps)) fore
      → AreGaps inputs.disk (back_rows (step ∷ steps)) fore
  opened step steps fore silent are =
      let first = opening inputs.disk step.act in
      let others = delivery_rows step.deliveries in
      let whole = append_assoc (step_rows inputs.disk step) (flat_map (step_rows inputs.disk) steps) tasks in
      subst (λ (rows : List BackRow). AreGaps inputs.disk rows fore) (sym whole)
      (subst (λ (rows : List BackRow). AreGaps inputs.disk rows fore) (sym (append_assoc (step.test ++ first) others (back_rows steps)))
      (subst (λ (rows : List BackRow). AreGaps inputs.disk rows fore) (sym (append_assoc step.test first (others ++ back_rows steps)))
      (quiet_before inputs.disk step.test (first ++ (others ++ back_rows steps)) fore silent.test are)))

  -- one step, by what is done at it, before those that have their gaps
  one_more : (step : Step) (act : Act) (steps : List Step) → IsQuietStep (record step { act = act }) → HasPlan inputs.disk act
      → HasGaps steps → HasGaps (record step { act = act } ∷ steps)
  one_more step (serving served plan) steps silent is_plan rest =
      let fore = map (fore_row medium) (services (decisions_in steps)) in
      opened (record step { act = serving served plan }) steps (fore_row medium served ∷ fore) silent (
        record { name = refl; start = refl; media = refl; write = refl; target = refl; plan = is_plan },
        quiet_before inputs.disk (delivery_rows step.deliveries) (back_rows steps) fore silent.delivered rest,
      )
  one_more step (idling dwell) steps silent is_plan rest =
      let fore = map (fore_row medium) (services (decisions_in steps)) in
      opened (record step { act = idling dwell }) steps fore silent
      (quiet_before inputs.disk (delivery_rows step.deliveries) (back_rows steps) fore silent.delivered rest)
  one_more step (ending end) steps silent is_plan rest =
      let fore = map (fore_row medium) (services (decisions_in steps)) in
      opened (record step { act = ending end }) steps fore silent
      (quiet_before inputs.disk (delivery_rows step.deliveries) (back_rows steps) fore silent.delivered rest)

  all_gaps : (past : Past) (steps : List Step) → AtEach (IsPlanned inputs medium) inputs past steps
      → AtEach (IsTested inputs medium) inputs past steps → HasGaps steps
  all_gaps past [] planned tested = all_quiet inputs.disk tasks [] quiet
  all_gaps past (step ∷ steps) planned tested =
      one_more step step.act steps (quiet_step inputs medium past step tested.0) planned.0
      (all_gaps (past_after inputs past step) steps planned.1 tested.1)

pub run_gaps : (inputs : Inputs) (run : Run) → IsFull inputs run → AreGaps inputs.disk run.back run.fore
unfolding fore_rows
run_gaps inputs run full =
    let sound = full.sound in
    let follow = decisions_follow (λ (r : Request). Unit {0}) inputs (all_any (λ (r : Request). Unit {0}) (λ _. tt) (requests inputs)) in
    let quiet = subst (AllByRecursion IsQuiet) (sym sound.counted) (tasks_quiet (history inputs full.steps)) in
    let back = flat_map (step_rows inputs.disk) full.steps ++ sound.tasks in
    subst (λ (rows : List BackRow). AreGaps inputs.disk rows run.fore) (sym sound.back)
    (subst (λ (rows : List ForeRow). AreGaps inputs.disk back rows) (sym sound.fore)
    (subst (λ (replay : List Served). AreGaps inputs.disk back (map (fore_row (medium_of inputs)) replay)) follow.1
    (subst (λ (ds : List Decision). AreGaps inputs.disk back (map (fore_row (medium_of inputs)) (services ds))) sound.decided
    (all_gaps inputs (medium_of inputs) sound.tasks quiet [] full.steps sound.planned sound.tested))))
