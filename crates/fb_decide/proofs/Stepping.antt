-- What one decision adds to a run.
use Rattle.fb_decide.proofs.Words.{◌≡◌, ℕ, ◌<◌, ◌≤◌, List, [], ◌∷◌, ◌++◌, length, map, refl, ap, sym, subst, ◌∙◌, arith, append_assoc}
use Rattle.fb_decide.proofs.Words.{append-nil, AllByRecursion, all_weaker, Request, Block, DeliveryRow, BackRow, wanted_all, Inputs}
use Rattle.fb_decide.proofs.Words.{IsRequestOf, contents_at, medium_of, Served, service, Decision, serves, idles, ends, instant_of, end_of}
use Rattle.fb_decide.proofs.Words.{Act, serving, idling, ending, decision_of, due, caught_rows, Past, tested, tasks, registered, wanted}
use Rattle.fb_decide.proofs.Words.{bare_state, Delivery, Step, decision_in, chosen_past, past_after, with_delivery, step_rows}
use Rattle.fb_decide.proofs.Words.{delivery_rows, chosen_by, IsTested, delivery_of, Tells, IsBlockOf, Background, Course, IsCalled}
use Rattle.fb_decide.proofs.Words.{tested_by, test_rows_by, HasDelivered, HasServed, IsRegistered, followed, past_with, held_now, Mirrors}
use Rattle.fb_decide.proofs.Words.{IsFoundIn, IsTrue, HasServedNext, HasStayed, dwell_until, ready_to_act, IsMade, DeliversBy}
use Rattle.fb_rows.specs.declared.gap.How.TheVariants.{Idle as ByIdle}
use Rattle.fb_model.specs.Steps.{with_finish, opening}
use Rattle.fb_model.specs.FullRun.{HasBestPlan}
use Rattle.fb_decide.specs.Calls.{HasPrepared}
use Rattle.fb_tasks.proofs.Calls.{called-finished}
use Rattle.fb_decide.proofs.Calling.{called_delivered}
use Rattle.fb_decide.proofs.Truth.{LeftBy, step_by, decision_true, after_true}
use Rattle.fb_decide.proofs.Mirroring.{held_until, held_between, media_held, media_before, finish_held}
use Rattle.fb_model.proofs.Steps.{best_is_plan}
use Rattle.fb_decide.proofs.Due.{due_found, due_same}

-- a step was made, and the disk and the background are as it leaves them
pub record HasStepped (inputs : Inputs) (past : Past) (before : Course) (step : Step) (after : Course) : Type 0 where
  pub rows_after : after.background.rows ≡ before.background.rows ++ step_rows inputs.disk step
  pub tells : Tells inputs.disk.map (past_after inputs past step) after.background.sessions after.background.blocks
  pub is_made : IsMade inputs past step
  pub finds : IsTrue (medium_of inputs) after.store (past_after inputs past step)
  pub called : IsCalled inputs.disk.map inputs.calls (past_after inputs past step) after.called
  pub ends_at : end_of (decision_in step) ≡ after.now

-- with some deliveries
pub record StepsBy (inputs : Inputs) (past : Past) (before : Course) (act : Act) (after : Course) : Type 0 where
  pub gots : List DeliveryRow
  pub stepped : HasStepped inputs past before (step_by inputs.disk.map inputs.calls past act gots) after

-- ---- what deliveries and tests leave of wanted blocks and rows

pub wanted_tested : (past : Past) (rows : List BackRow) → wanted (tested rows ∷ past) ≡ wanted past
unfolding wanted bare_state
wanted_tested past rows = refl

pub gots_followed : (past : Past) (gots : List DeliveryRow) → map (λ (delivery : Delivery). delivery.got) (followed past gots) ≡ gots
gots_followed past [] = refl
gots_followed past (got ∷ gots) = ap (λ rest. got ∷ rest) (gots_followed (with_delivery past (delivery_of past got)) gots)

-- the rows of a step behind those before it
rows_join : (before test opens delivered : List BackRow) (rows middle : List BackRow) → middle ≡ before ++ test
    → rows ≡ (middle ++ opens) ++ delivered → rows ≡ before ++ ((test ++ opens) ++ delivered)
rows_join before test opens delivered rows middle e f =
    f ∙ ap (λ m. (m ++ opens) ++ delivered) e ∙ ap (λ m. m ++ delivered) (append_assoc before test opens)
    ∙ append_assoc before (test ++ opens) delivered

-- ---- one decision

module _ (inputs : Inputs) (past : Past) (before : Course) (background : Background) (called : ℕ) (act : Act) (gots : List DeliveryRow)
    (after : Course) where
  abbrev decision : Decision
  decision = decision_of act

  abbrev then : Past
  then = tested_by inputs.disk.map inputs.calls past (instant_of decision)

  abbrev step : Step
  step = step_by inputs.disk.map inputs.calls past act gots

  -- what a decision does after its test
  pub record HasDone (end : ℕ) : Type 0 where
    pub order : instant_of decision ≤ end
    pub mirrors : Mirrors (medium_of inputs) before.store (instant_of decision) end
    pub found : AllByRecursion (IsFoundIn before.store (instant_of decision) end) gots
    pub there : AllByRecursion (λ got. IsRegistered then got.block) gots
    pub best : HasBestPlan inputs.disk (wanted then) act
    pub all : gots ≡ due (medium_of inputs).disk (contents_at (medium_of inputs)) act (wanted then)
    pub rows_behind : after.background.rows ≡ (background.rows ++ opening inputs.disk act) ++ delivery_rows (followed then gots)
    pub tells_after : Tells inputs.disk.map (with_finish (past_with then gots) decision) after.background.sessions after.background.blocks
    pub contents : LeftBy decision before.store after.store
    pub same_called : after.called ≡ called
    pub ends_at : end_of decision ≡ after.now

  module _ (end : ℕ) (h : HasDone end) (tells : Tells inputs.disk.map past before.background.sessions before.background.blocks)
      (finds : IsTrue (medium_of inputs) before.store past)
      (test : HasPrepared inputs.disk.map inputs.calls past (instant_of decision) called before.background.rows background) where
    same_wanted : wanted then ≡ wanted (chosen_past inputs past decision)
    unfolding chosen_past
    same_wanted = wanted_tested (chosen_by inputs.disk.map inputs.calls past (instant_of decision))
        (test_rows_by inputs.disk.map inputs.calls past (instant_of decision))

    truths : IsTested inputs (medium_of inputs) past step × IsTrue (medium_of inputs) before.store (past_with then gots)
    truths = decision_true inputs (medium_of inputs) before.store past act end gots finds h.mirrors h.order tells test.current.tells h.found
        h.there

    after_is : past_after inputs past step ≡ with_finish (past_with then gots) decision
    unfolding chosen_past past_after
    after_is = refl

    finished_called : (d : Decision) → IsCalled inputs.disk.map inputs.calls (with_finish (past_with then gots) d) called
    finished_called (serves served) = called-finished inputs.disk.map inputs.calls (past_with
        then gots) called (called_delivered inputs.disk.map inputs.calls then called gots test.called) served.request
    finished_called (idles dwell) = called_delivered inputs.disk.map inputs.calls then called gots test.called
    finished_called (ends now) = called_delivered inputs.disk.map inputs.calls then called gots test.called

    pub stepped : HasStepped inputs past before step after
    stepped = record {
      rows_after = rows_join before.background.rows (test_rows_by inputs.disk.map inputs.calls past (instant_of decision))
          (opening inputs.disk act) (delivery_rows (followed then gots))
          after.background.rows background.rows test.rows_after h.rows_behind;
      tells = subst (λ p. Tells inputs.disk.map p after.background.sessions after.background.blocks) (sym after_is) h.tells_after;
      is_made = record {
        planned = best_is_plan inputs.disk (wanted then) act h.best;
        best = subst (λ blocks. HasBestPlan inputs.disk blocks act) same_wanted h.best;
        all = gots_followed then gots ∙ (h.all ∙ ap (due (medium_of inputs).disk (contents_at (medium_of inputs)) act) same_wanted);
        tested = truths.0;
      };
      finds = after_true inputs (medium_of inputs) before.store after.store past act gots h.contents truths.1;
      called = subst (λ p. IsCalled inputs.disk.map inputs.calls p after.called) (sym after_is) (subst (IsCalled inputs.disk.map
          inputs.calls (with_finish (past_with then gots) decision)) (sym h.same_called) (finished_called decision));
      ends_at = h.ends_at;
    }

-- ---- each kind of step

module _ (inputs : Inputs) (past : Past) (before : Course) (background : Background) (joined called : ℕ)
    (test : HasPrepared inputs.disk.map inputs.calls past before.now called before.background.rows background)
    (tells : Tells inputs.disk.map past before.background.sessions before.background.blocks)
    (finds : IsTrue (medium_of inputs) before.store past) where
  -- by its deliveries and what they leave
  abbrev stepped_by : (act : Act) → instant_of (decision_of act) ≡ before.now → (gots : List DeliveryRow) (after : Course) (end : ℕ)
      → HasDone inputs past before background called act gots after end → StepsBy inputs past before act after
  stepped_by act now gots after end h = record {
    gots = gots;
    stepped = stepped inputs past before background called act gots after end h tells finds
        (subst (λ t. HasPrepared inputs.disk.map inputs.calls past t called before.background.rows background) (sym now) test);
  }

  abbrev ready : Course
  ready = ready_to_act before background joined called

  abbrev tested_now : Past
  tested_now = tested_by inputs.disk.map inputs.calls past before.now

  all_some : AllByRecursion (λ (block : Block). 0 < block.count) (wanted tested_now)
  all_some = wanted_all (λ (block : Block). 0 < block.count) tested_now
      (all_weaker (IsBlockOf inputs.disk.map (length (tasks tested_now))) (λ (block : Block). 0 < block.count) (λ block h. h.some)
      (registered tested_now) test.current.tells.on_disk)

  -- a request is served
  module _ (request : Request) (inside : IsRequestOf inputs.disk.map request) (after : Course)
      (now_served : HasServedNext inputs.disk request ready after)
      (mirrors : Mirrors (medium_of inputs) before.store before.now (held_until (service inputs.disk before.head before.now request))) where
    abbrev served : Served
    served = service inputs.disk before.head before.now request

    abbrev has_served : HasServed inputs.disk before.store tested_now served background.rows after.background
    has_served = now_served.served tested_now test.current

    -- after the plan that was found
    abbrev pub served_act : Act
    served_act = serving served has_served.plan

    abbrev served_gots : List DeliveryRow
    served_gots = due inputs.disk (held_now before.store) served_act (wanted tested_now)

    over : DeliversBy (held_until served) (serves served)
    over = (media_held served (media_before inputs.disk before.head before.now request inside.range.some), finish_held served)

    pub serves_step : StepsBy inputs past before served_act after
    unfolding due medium_of
    serves_step = stepped_by served_act refl served_gots after (held_until served) (record {
      order = (held_between inputs.disk before.head before.now request inside.range.some).0;
      mirrors = mirrors;
      found =
          due_found inputs.disk before.store served_act (held_until served) (wanted tested_now) refl has_served.best.is_plan over all_some;
      there = has_served.delivered.registered;
      best = has_served.best;
      all = due_same (medium_of inputs) before.store served_act (held_until served)
          (wanted tested_now) refl has_served.best.is_plan over all_some mirrors;
      rows_behind = has_served.same_rows ∙ has_served.delivered.rows_after;
      tells_after = has_served.tells;
      contents = now_served.contents;
      same_called = now_served.same_called;
      ends_at = sym now_served.finished;
    })

  -- the head stays
  module _ (instant : ℕ) (later : before.now ≤ instant) (after : Course) (stayed : HasStayed inputs.disk instant ready after)
      (mirrors : Mirrors (medium_of inputs) before.store before.now instant) where
    has_delivered : HasDelivered inputs.disk.map tested_now
        (caught_rows inputs.disk (held_now before.store) ByIdle (dwell_until ready instant) (wanted tested_now))
        (background.rows ++ opening inputs.disk (idling (dwell_until ready instant))) after.background
    has_delivered = stayed.delivered tested_now test.current

    abbrev stayed_gots : List DeliveryRow
    stayed_gots = caught_rows inputs.disk (held_now before.store) ByIdle (dwell_until ready instant) (wanted tested_now)

    pub stays_step : StepsBy inputs past before (idling (dwell_until ready instant)) after
    unfolding due medium_of
    stays_step = stepped_by (idling (dwell_until ready instant)) refl stayed_gots after instant (record {
      order = later;
      mirrors = mirrors;
      found = due_found inputs.disk before.store (idling (dwell_until ready instant)) instant (wanted tested_now) tt tt (omega arith)
          all_some;
      there = has_delivered.registered;
      best = tt;
      all = due_same (medium_of inputs) before.store (idling (dwell_until ready instant)) instant (wanted tested_now) tt tt
          (omega arith) all_some mirrors;
      rows_behind = has_delivered.rows_after;
      tells_after = has_delivered.current.tells;
      contents = stayed.same_store;
      same_called = stayed.same_called;
      ends_at = sym stayed.until;
    })

  -- the run ends
  pub ends_step : Mirrors (medium_of inputs) before.store before.now before.now → StepsBy inputs past before (ending before.now) ready
  unfolding due
  ends_step mirrors = stepped_by (ending before.now) refl [] ready before.now (record {
    order = omega arith;
    mirrors = mirrors;
    found = tt;
    there = tt;
    best = tt;
    all = refl;
    rows_behind = sym (append-nil (background.rows ++ []) ∙ append-nil background.rows);
    tells_after = test.current.tells;
    contents = refl;
    same_called = refl;
    ends_at = refl;
  })
