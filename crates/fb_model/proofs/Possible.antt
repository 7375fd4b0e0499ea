-- The head can go the way that the rows of a run's steps tell.
use Rattle.fb_model.proofs.Words.{◌≡◌, ℕ, List, [], ◌∷◌, ◌++◌, map, ap, sym, subst, ◌∙◌, Some, append_assoc, AllByRecursion, flat_map}
use Rattle.fb_model.proofs.Words.{fold, Request, Track, IsSound, Disk, ForeRow, Plan, BackRow, Served, service, media, finish, last_track}
use Rattle.fb_model.proofs.Words.{first_track, Inputs, Medium, medium_of, fore_row, fore_rows, IsAccepted, stay, gap_legs, timeline}
use Rattle.fb_model.proofs.Words.{led_to, IsPossible, IsPlan, gap_of, end_of, Act, serving, idling, ending, decision_of, decisions}
use Rattle.fb_model.proofs.Words.{run_end, Past, Step, decisions_in, past_after, AtEach, opening, step_rows, task_rows, delivery_rows}
use Rattle.fb_model.proofs.Words.{IsPlanned, HasPlan, IsTested, Throughout}
use Rattle.fb_model.specs.PlainReplay.{target}
use Rattle.fb_model.specs.Timeline.{service_legs}
use Rattle.fb_model.proofs.Leads.{Leads, lead_on, lead_gap, lead_stay}
use Rattle.fb_model.proofs.Passages.{LiesOnDisk, requests_lie}
use Rattle.fb_model.proofs.Ways.{lead_service, have_angles}
use Rattle.fb_model.proofs.Chain.{Follow, services, decisions_follow}
use Rattle.fb_model.proofs.QuietRows.{IsQuiet, quiet_before, all_quiet, tasks_quiet, IsQuietStep, quiet_step}

-- the rows of a step that tell nothing of the head fall away
step_timeline : (disk : Disk) (step : Step) (back : List BackRow) (fore : List ForeRow) → IsQuietStep step
    → timeline disk (step_rows disk step ++ back) fore
    ≡ timeline disk (opening disk step.act ++ (delivery_rows step.deliveries ++ back)) fore
step_timeline disk step back fore quiet =
    ap (λ rows. timeline disk rows fore) (append_assoc (step.test ++ opening disk step.act) (delivery_rows step.deliveries) back
    ∙ append_assoc step.test (opening disk step.act) (delivery_rows step.deliveries ++ back))
    ∙ quiet_before disk step.test (opening disk step.act ++ (delivery_rows step.deliveries ++ back)) fore quiet.test

-- a gap by one of its plans, and the service behind it
lead_serve : (disk : Disk) (medium : Medium) (head : Track) (now : ℕ) (request : Request) (plan : Plan) → IsSound disk.map
    → LiesOnDisk disk.map request
    → (let served = service disk head now request in IsPlan disk (gap_of disk served) plan
    → Leads disk head now (gap_legs disk (gap_of disk served) plan ++ service_legs disk (gap_of disk served) (fore_row medium served))
    (last_track disk served) (finish served))
lead_serve disk medium head now request plan sound lies is_plan =
    let served = service disk head now request in
    lead_on disk head (target disk served) (last_track disk served) now (media served) (finish served)
    (gap_legs disk (gap_of disk served) plan) (service_legs disk (gap_of disk served) (fore_row medium served))
    (lead_gap disk (gap_of disk served) plan is_plan)
    (lead_service disk head now request.write request.lbn request.count lies.some (have_angles disk.map sound request lies))

lead_served : (disk : Disk) (medium : Medium) (head : Track) (now : ℕ) (served : Served) (plan : Plan) → IsSound disk.map
    → served ≡ service disk head now served.request → LiesOnDisk disk.map served.request
    → IsPlan disk (gap_of disk served) plan
    → Leads disk head now (gap_legs disk (gap_of disk served) plan ++ service_legs disk (gap_of disk served) (fore_row medium served))
    (last_track disk served) (finish served)
lead_served disk medium head now served plan sound same lies is_plan =
    subst (λ (s : Served). Leads disk head now (gap_legs disk (gap_of disk s) plan ++ service_legs disk (gap_of disk s) (fore_row medium s))
    (last_track disk s) (finish s)) (sym same)
    (lead_serve disk medium head now served.request plan sound lies (subst (λ (s : Served). IsPlan disk (gap_of disk s) plan) same is_plan))

module _ (inputs : Inputs) (medium : Medium) (tasks : List BackRow) (quiet : AllByRecursion IsQuiet tasks)
    (sound : IsSound inputs.disk.map) where
  abbrev back_rows : List Step → List BackRow
  back_rows steps = flat_map (step_rows inputs.disk) steps ++ tasks

  abbrev Arrives : Track → ℕ → List Step → Type 0
  Arrives head now steps =
      led_to inputs.disk head now (timeline inputs.disk (back_rows steps) (map (fore_row medium) (services (decisions_in steps))))
      ≡ Some (fold (λ end decision. end_of decision) now (decisions_in steps))

  one_timeline : (step : Step) (steps : List Step) (fore : List ForeRow) → IsQuietStep step
      → timeline inputs.disk (back_rows (step ∷ steps)) fore
      ≡ timeline inputs.disk (opening inputs.disk step.act ++ (delivery_rows step.deliveries ++ back_rows steps)) fore
  one_timeline step steps fore silent =
      ap (λ rows. timeline inputs.disk rows fore) (append_assoc (step_rows inputs.disk step) (flat_map (step_rows inputs.disk) steps) tasks)
      ∙ step_timeline inputs.disk step (back_rows steps) fore silent

  -- one step, by what is done at it, where the later ones arrive
  arrives_by : (head : Track) (now : ℕ) (step : Step) (act : Act) (steps : List Step)
      → Follow (LiesOnDisk inputs.disk.map) inputs.disk head now (decision_of act ∷ decisions_in steps)
      → IsQuietStep (record step { act = act }) → HasPlan inputs.disk act
      → ((head : Track) (now : ℕ) → Follow (LiesOnDisk inputs.disk.map) inputs.disk head now (decisions_in steps) → Arrives head now steps)
      → Arrives head now (record step { act = act } ∷ steps)
  unfolding timeline
  arrives_by head now step (serving served plan) steps follow silent is_plan rest =
      let fore = map (fore_row medium) (services (decisions_in steps)) in
      let to = last_track inputs.disk served in
      let behind = timeline inputs.disk (delivery_rows step.deliveries ++ back_rows steps) fore in
      let quiet_behind = quiet_before inputs.disk (delivery_rows step.deliveries) (back_rows steps) fore silent.delivered in
      ap (led_to inputs.disk head now)
      (one_timeline (record step { act = serving served plan }) steps (fore_row medium served ∷ fore) silent)
      ∙ (lead_served inputs.disk medium head now served plan sound follow.0 follow.1 is_plan behind
      ∙ (ap (led_to inputs.disk to (finish served)) quiet_behind
      ∙ rest to (finish served) follow.2))
  arrives_by head now step (idling dwell) steps follow silent is_plan rest =
      let fore = map (fore_row medium) (services (decisions_in steps)) in
      let here : Leads inputs.disk head now (stay dwell.track dwell.begin dwell.end ∷ []) head dwell.end =
      rw (follow.0, follow.1) (lead_stay inputs.disk head now dwell.end follow.2) in
      ap (led_to inputs.disk head now) (one_timeline (record step { act = idling dwell }) steps fore silent)
      ∙ (here (timeline inputs.disk (delivery_rows step.deliveries ++ back_rows steps) fore)
      ∙ (ap (led_to inputs.disk head dwell.end)
      (quiet_before inputs.disk (delivery_rows step.deliveries) (back_rows steps) fore silent.delivered)
      ∙ rest head dwell.end follow.3))
  arrives_by head now step (ending end) steps follow silent is_plan rest =
      let fore = map (fore_row medium) (services (decisions_in steps)) in
      ap (led_to inputs.disk head now) (one_timeline (record step { act = ending end }) steps fore silent
      ∙ quiet_before inputs.disk (delivery_rows step.deliveries) (back_rows steps) fore silent.delivered)
      ∙ (rest head now follow.1 ∙ ap (λ t. Some (fold (λ end decision. end_of decision) t (decisions_in steps))) (sym follow.0))

  arrives : (past : Past) (head : Track) (now : ℕ) (steps : List Step)
      → Follow (LiesOnDisk inputs.disk.map) inputs.disk head now (decisions_in steps)
      → AtEach (IsPlanned inputs medium) inputs past steps → AtEach (IsTested inputs medium) inputs past steps → Arrives head now steps
  unfolding led_to
  arrives past head now [] follow planned tested = ap (led_to inputs.disk head now) (all_quiet inputs.disk tasks [] quiet)
  arrives past head now (step ∷ steps) follow planned tested =
      arrives_by head now step step.act steps follow (quiet_step inputs medium past step tested.0) planned.0
      (λ head now later. arrives (past_after inputs past step) head now steps later planned.1 tested.1)

-- the timeline of decisions with plans of their gaps is possible
pub possible : (inputs : Inputs) (steps : List Step) (past : Past) → IsSound inputs.disk.map → IsAccepted inputs
    → decisions_in steps ≡ decisions inputs
    → Throughout IsPlanned inputs steps → Throughout IsTested inputs steps
    → IsPossible inputs.disk (timeline inputs.disk (flat_map (step_rows inputs.disk) steps ++ task_rows past) (fore_rows inputs))
    (run_end (decisions inputs))
unfolding fore_rows
possible inputs steps past sound accepted decided planned tested =
    let chain = decisions_follow (LiesOnDisk inputs.disk.map) inputs (requests_lie inputs accepted) in
    let rows = λ (replay : List Served). timeline inputs.disk (flat_map (step_rows inputs.disk) steps ++ task_rows past)
    (map (fore_row (medium_of inputs)) replay) in
    subst (λ replay. IsPossible inputs.disk (rows replay) (run_end (decisions inputs))) chain.1
    (subst (λ ds. led_to inputs.disk first_track 0 (rows (services ds)) ≡ Some (run_end ds)) decided
    (arrives inputs (medium_of inputs) (task_rows past) (tasks_quiet past) sound [] first_track 0 steps
    (subst (Follow (LiesOnDisk inputs.disk.map) inputs.disk first_track 0) (sym decided) chain.0) planned tested))
