-- A run goes on by one decision.
use Rattle.fb_decide.proofs.Words.{◌≡◌, ℕ, List, [], ◌∷◌, ◌++◌, refl, ap, sym, subst, ◌∙◌, append_assoc, suc, ◌+◌, ◌<◌, ◌≤◌, ◌^◌, Bool}
use Rattle.fb_decide.proofs.Words.{true, false, None, Some, length, map, take, drop, arith, append-nil, fold, AllByRecursion, map-append}
use Rattle.fb_decide.proofs.Words.{length-append, nat_lt, nat_le, slice_get, nat_tests, all_weaker, all_append, all_left, all_right}
use Rattle.fb_decide.proofs.Words.{Request, all_map, all_pass, Served, service, finish, last_track, plain, first_least, start_of, Inputs}
use Rattle.fb_decide.proofs.Words.{served, requests, medium_of, Written, fore_row, Decision, end_of, run_end, serves, idles, ends}
use Rattle.fb_decide.proofs.Words.{instants_of, decisions_from, decisions, last_decision, Act, idling, ending, Step, decision_in}
use Rattle.fb_decide.proofs.Words.{decisions_in, past_after, history, take_call, calls_due, Tells, calls_of, Course, IsCalled, tested_by}
use Rattle.fb_decide.proofs.Words.{IsTrue, Mirrors, Replayed, all_writes, fore_row_of, GoesOn, HasComeTo, AreKnown, decisions_by, rest_of}
use Rattle.fb_decide.proofs.Words.{DeliveryRow, Shape, IsTrackOf, Call, AreAllowed, Holding, content_in, IsRequestOf, Past, IsAmong}
use Rattle.fb_decide.proofs.Words.{Background, RunState, left, IsWaiting, AreByArrival, next_of, dwell_until, ready_to_act, HasServedNext}
use Rattle.fb_decide.proofs.Words.{HasStayed, HasActed, serves_pick, stays_on, stays_last, ends_here, HasDecided, by_all}
use Rattle.std.specs.Prelude.{filter, if◌then◌else◌}
use Rattle.fb_units.proofs.Comparing.{is_by}
use Rattle.fb_model.specs.Steps.{calls_left}
use Rattle.fb_model.proofs.Steps.{history-append}
use Rattle.fb_decide.specs.Making.{HasRun, HasEnded}
use Rattle.fb_decide.specs.Making.{decisions_left, rest_by}
use Rattle.fb_decide.proofs.Truth.{step_by}
use Rattle.fb_decide.proofs.Stepping.{HasStepped, StepsBy, served_act, serves_step, stays_step, ends_step}
use Rattle.fb_decide.specs.Deciding.{IsReadyToAct}
use Rattle.fb_decide.proofs.Decided.{none_served, taken, taken_ready, start_waiting, ahead_of, plain_next, order_dropped, serves_now}
use Rattle.fb_decide.proofs.Decided.{stays_next, ends_now, plain_same, starts_from, StartsFrom, HasCome, to_come, among_instants}
use Rattle.fb_decide.proofs.Decided.{apart_instants, left_later, passed_instants, none_left, rising_instants}
use Rattle.fb_decide.proofs.Replayed.{row_made, replayed_more}
use Rattle.fb_decide.proofs.Instants.{all_of_both, at_among}
use Rattle.fb_decide.proofs.Mirroring.{held_until, mirrors_run, all_late, served_late}

-- ---- one more step

pub one_decided : (steps : List Step) (step : Step) (rest later whole : List Decision)
    → decisions_in steps ++ rest ≡ whole → rest ≡ decision_in step ∷ later → decisions_in (steps ++ step ∷ []) ++ later ≡ whole
one_decided steps step rest later whole so_far next =
    ap (λ ds. ds ++ later) (map-append decision_in steps (step ∷ []))
    ∙ append_assoc (decisions_in steps) (decision_in step ∷ []) later
    ∙ ap (λ ds. decisions_in steps ++ ds) (sym next) ∙ so_far

pub fold_last : (now : ℕ) (ds : List Decision) (d : Decision) → fold (λ end decision. end_of decision) now (ds ++ d ∷ []) ≡ end_of d
fold_last now [] d = refl
fold_last now (e ∷ ds) d = fold_last (end_of e) ds d

module _ (inputs : Inputs) (rest later : List Served) (before : Course) (steps : List Step) (run : HasRun inputs rest before steps)
    (step : Step) (after : Course) (this : HasStepped inputs (history inputs steps) before step after) where
  pub same_history : history inputs (steps ++ step ∷ []) ≡ past_after inputs (history inputs steps) step
  same_history = history-append inputs [] steps (step ∷ [])

  pub called_more : IsCalled inputs.disk.map inputs.calls (history inputs (steps ++ step ∷ [])) after.called
  called_more = subst (λ past. IsCalled inputs.disk.map inputs.calls past after.called) (sym same_history) this.called

  abbrev pub run_more : (done : List Served) → Replayed inputs.latent (served inputs) later after.now after.store done
      → HasRun inputs later after (steps ++ step ∷ [])
  run_more done replayed = record {
    done = done;
    replayed = replayed;
    tells = subst (λ past. Tells inputs.disk.map past after.background.sessions after.background.blocks) (sym same_history) this.tells;
    finds = subst (IsTrue (medium_of inputs) after.store) (sym same_history) this.finds;
    ends_at = ap run_end (map-append decision_in steps (step ∷ [])) ∙ fold_last 0 (decisions_in steps) (decision_in step) ∙ this.ends_at;
  }

-- ---- the calls that have taken effect

calls_after : (disk : Shape) (past : Past) (calls : List Call) → calls_of (fold (take_call disk) past calls) ≡ calls_of past ++ calls
calls_after disk past [] = sym (append-nil (calls_of past))
calls_after disk past (call ∷ calls) = calls_after disk (take_call disk past call) calls ∙ append_assoc (calls_of past) (call ∷ []) calls

calls_tested : (disk : Shape) (calls : List Call) (past : Past) (now : ℕ)
    → calls_of (tested_by disk calls past now) ≡ calls_of past ++ calls_due calls past now
calls_tested disk calls past now =
    let called = fold (take_call disk) past (calls_due calls past now) in
    by_all (λ p. calls_of p ≡ calls_of called) disk (λ p task segment blocks e. e) called refl
    ∙ calls_after disk past (calls_due calls past now)

all_come : (now : ℕ) (calls : List Call) → AllByRecursion (λ c. c.instant ≤ now) (filter (λ call. nat_le call.instant now) calls)
all_come now calls = all_weaker _ _ (λ (c : Call) by. is_by c.instant now by) _ (all_pass (λ call. nat_le call.instant now) calls)

-- ---- every instant is early

early_calls : (disk : Shape) (before calls : List Call) → AreAllowed disk before calls → AllByRecursion (λ c. c.instant ≤ 10 ^ 15) calls
early_calls disk before [] allowed = tt
early_calls disk before (call ∷ calls) allowed = (allowed.0, early_calls disk (before ++ call ∷ []) calls allowed.2)

early_instant : (inputs : Inputs) (t : ℕ) → AreKnown inputs → IsAmong t (instants_of inputs) → t ≤ 10 ^ 15
early_instant inputs t known there = at_among (λ x. x ≤ 10 ^ 15) t (instants_of inputs)
    (all_of_both (λ x. x ≤ 10 ^ 15) (map (λ c. c.instant) inputs.calls) (map (λ r. r.arrival) (requests inputs))
    (all_map (λ x. x ≤ 10 ^ 15) (λ (r : Request). r.arrival) (requests inputs) (all_weaker (IsRequestOf inputs.disk.map)
    (λ (r : Request). r.arrival ≤ 10 ^ 15) (λ r h. h.arrival) (requests inputs) known.list.on_disk))
    (all_map (λ x. x ≤ 10 ^ 15) (λ (c : Call). c.instant) inputs.calls (early_calls inputs.disk.map [] inputs.calls known.accepted.calls)))
    there

-- ---- a stay changes nothing of the foreground

stays_replayed : (latent : List ℕ) (whole done rest : List Served) (now : ℕ) (holding : Holding) (later : List Served) (now' : ℕ)
    (holding' : Holding)
    → Replayed latent whole rest now holding done → rest ≡ later → now ≤ now' → holding' ≡ holding
    → Replayed latent whole later now' holding' done
stays_replayed latent whole done rest now holding later now' holding' so_far same from held = record {
  all = ap (λ services. done ++ services) (sym same) ∙ so_far.all;
  ended = all_weaker (λ (w : Written). w.passage.end ≤ now) (λ w. w.passage.end ≤ now') (λ w h. omega (arith, h, from))
      (all_writes done) so_far.ended;
  holds = λ lbn. ap (λ h. content_in h lbn) held ∙ so_far.holds lbn;
}

-- a decision leads on
pub record LeadsOn (inputs : Inputs) (steps : List Step) (more : Bool) (before after : RunState) : Type 0 where
  pub step : Step
  pub stepped : HasStepped inputs (history inputs steps) before.course step after.course
  pub fore : after.course.fore ≡ before.course.fore ++ fore_row_of (medium_of inputs) (decision_in step)
  pub come_to : HasComeTo inputs more after (steps ++ step ∷ [])
  pub fewer : decisions_left inputs more after < decisions_left inputs true before

-- where a replay of these inputs stands
abbrev standing : Inputs → Course → List Request → ℕ → RunState
standing inputs course waiting joined = record { requests = requests inputs; course = course; pending = waiting; joined = joined }

-- ---- from one decision to the next

module _ (inputs : Inputs) (known : AreKnown inputs) (before : Course) (pending : List Request) (count : ℕ) (steps : List Step)
    (so_far : GoesOn inputs (standing inputs before pending count) steps)
    (background : Background) (joined called : ℕ) (waiting : List Request) (queued : ℕ)
    (ready : IsReadyToAct inputs (history inputs steps) (standing inputs before pending count)
    (standing inputs (ready_to_act before background joined called) waiting queued)) where
  abbrev state : RunState
  state = standing inputs before pending count

  abbrev step_of : Act → List DeliveryRow → Step
  step_of act gots = step_by inputs.disk.map inputs.calls (history inputs steps) act gots

  -- those that have not arrived, and all that are left
  abbrev ahead : List Request
  ahead = drop joined (requests inputs)

  abbrev left_over : List Request
  left_over = left (requests inputs) joined waiting

  abbrev rest : List Served
  rest = rest_by inputs before left_over

  same_rest : rest ≡ rest_of inputs state
  same_rest = ap (rest_by inputs before) ready.same_left

  abbrev run : HasRun inputs rest before steps
  run = record {
    done = so_far.run.done;
    replayed = subst (λ rest. Replayed inputs.latent (served inputs) rest before.now before.store so_far.run.done)
        (sym same_rest) so_far.run.replayed;
    tells = so_far.run.tells;
    finds = so_far.run.finds;
    ends_at = so_far.run.ends_at;
  }

  same_left : length (decisions_by inputs before rest) ≡ decisions_left inputs true state
  same_left = ap (λ services. length (decisions_by inputs before services)) same_rest

  decided : decisions_in steps ++ decisions_by inputs before rest ≡ decisions inputs
  decided = ap (λ rest. decisions_in steps ++ decisions_by inputs before rest) same_rest ∙ so_far.decided

  on_disk : AllByRecursion (IsRequestOf inputs.disk.map) left_over
  on_disk = subst (AllByRecursion (IsRequestOf inputs.disk.map)) (sym ready.same_left) so_far.waits.on_disk

  not_come : AllByRecursion (λ r. before.now < r.arrival) ahead
  not_come = ahead_of before.now joined (requests inputs) known.list.order ready.ahead

  calls_taken : AllByRecursion (λ c. c.instant ≤ before.now) (take called inputs.calls)
  calls_taken =
      let past = history inputs steps in
      subst (AllByRecursion (λ c. c.instant ≤ before.now))
      (sym (calls_tested inputs.disk.map inputs.calls past before.now) ∙ ready.test.called.taken)
      (all_append (λ c. c.instant ≤ before.now) (calls_of past) (calls_due inputs.calls past before.now)
      (subst (AllByRecursion (λ c. c.instant ≤ before.now)) (sym so_far.called.taken) so_far.calls_taken)
      (all_come before.now (calls_left inputs.calls past)))

  come : HasCome inputs before.now joined called
  come = record {
    rising = known.rising;
    instants = known.accepted.instants;
    arrivals = ready.come;
    calls = calls_taken;
    no_arrival = ready.ahead;
    no_call = ready.test.ahead;
  }

  -- a request is served
  module _ (request : Request) (others : List Request) (after : Course)
      (pick : first_least (inputs.key inputs.disk before.head before.now) waiting ≡ Some (request, others))
      (now_served : HasServedNext inputs.disk request (ready_to_act before background joined called) after)
      (waits : IsWaiting inputs.disk (standing inputs after others queued)) where
    abbrev this : Served
    this = service inputs.disk before.head before.now request

    abbrev later : List Served
    later = rest_of inputs (standing inputs after others queued)

    among : IsRequestOf inputs.disk.map request
        × (AllByRecursion (IsRequestOf inputs.disk.map) others × (length others + 1 ≡ length waiting))
    among = taken (IsRequestOf inputs.disk.map) (inputs.key inputs.disk before.head before.now) waiting request others
        (all_left (IsRequestOf inputs.disk.map) waiting ahead on_disk) pick

    others_on_disk : AllByRecursion (IsRequestOf inputs.disk.map) (others ++ ahead)
    others_on_disk =
        all_append (IsRequestOf inputs.disk.map) others ahead among.1.0 (all_right (IsRequestOf inputs.disk.map) waiting ahead on_disk)

    size : length left_over ≡ suc (length (others ++ ahead))
    size = omega (arith, length-append waiting ahead, length-append others ahead, among.1.1)

    first_served : rest ≡ this
        ∷ plain (length (others ++ ahead)) inputs.disk inputs.key (last_track inputs.disk this) (finish this) (others ++ ahead)
    first_served =
        let start : before.now ≡ start_of before.now left_over =
        sym (start_waiting before.now waiting ahead (omega (arith, among.1.1)) ready.arrived) in
        ap (λ n. plain n inputs.disk inputs.key before.head before.now left_over) size
        ∙ plain_next (length (others ++ ahead)) inputs.disk inputs.key before.head before.now left_over before.now request
        (others ++ ahead) start
        (taken_ready (inputs.key inputs.disk before.head before.now) before.now waiting ahead request others ready.arrived not_come pick)

    next : rest ≡ this ∷ later
    next = rw (now_served.same_joined, now_served.stands, now_served.finished) first_served

    mirrors : Mirrors (medium_of inputs) before.store before.now (held_until this)
    mirrors = mirrors_run inputs run.done rest before.now (held_until this) before.store run.replayed
        (subst (λ services. AllByRecursion (λ (w : Written). held_until this < w.passage.end) (all_writes services)) (sym first_served)
        (served_late (length (others ++ ahead)) inputs.disk known.takes_time inputs.key before.head before.now request
        (last_track inputs.disk this) (others ++ ahead) among.0 others_on_disk))

    abbrev act : Act
    act = served_act inputs (history inputs steps) before background joined called ready.test run.tells run.finds request among.0 after
        now_served mirrors

    made : StepsBy inputs (history inputs steps) before act after
    made = serves_step inputs (history inputs steps) before background joined called ready.test run.tells run.finds request among.0 after
        now_served mirrors

    abbrev step : Step
    step = step_of act made.gots

    row_is : now_served.row ≡ fore_row (medium_of inputs) this
    unfolding medium_of
    row_is = row_made inputs.disk inputs.latent
        (served inputs) run.done rest later before.head before.now after.now request before.store run.replayed next
        (let h = now_served.later in omega (arith, h)) now_served.finished now_served.row now_served.is_row now_served.each
        (all_weaker _ _ (λ (w : Written) h. omega (arith, h)) _ (all_late (length (left (requests inputs) after.joined others)) inputs.disk
        known.takes_time inputs.key after.head after.now (left (requests inputs) after.joined others) waits.on_disk))

    replayed : Replayed inputs.latent (served inputs) later after.now after.store (run.done ++ this ∷ [])
    replayed = replayed_more inputs.disk inputs.latent
        (served inputs) run.done rest later before.head before.now after.now request before.store run.replayed next
        (let h = now_served.later in omega (arith, h)) now_served.finished after.store now_served.contents

    next_decided : decisions_by inputs before rest ≡ serves this ∷ decisions_by inputs after later
    next_decided = rw (now_served.same_joined, now_served.stands, now_served.finished)
        (ap (decisions_by inputs before) first_served
        ∙ serves_now inputs.disk (instants_of inputs) inputs.until before.head before.now request _)

    longer : length (run.done ++ this ∷ []) ≡ length run.done + 1
    longer = length-append run.done (this ∷ [])

    goes_on_serving : GoesOn inputs (standing inputs after others queued) (steps ++ step ∷ [])
    goes_on_serving =
        let late = now_served.later in
        let soon = now_served.soon in
        record {
          run = run_more inputs rest later before steps run step after made.stepped (run.done ++ this ∷ []) replayed;
          decided = one_decided steps step (decisions_by inputs before rest) (decisions_by inputs after later)
              (decisions inputs) decided next_decided;
          called = called_more inputs rest later before steps run step after made.stepped;
          arrivals = subst (λ n. AllByRecursion (λ r. r.arrival ≤ after.now) (take n (requests inputs))) (sym now_served.same_joined)
              (all_weaker (λ (r : Request). r.arrival ≤ before.now) (λ r. r.arrival ≤ after.now) (λ r h. omega (arith, h, late))
              (take joined (requests inputs)) ready.come);
          calls_taken = subst (λ n. AllByRecursion (λ c. c.instant ≤ after.now) (take n inputs.calls)) (sym now_served.same_called)
              (all_weaker (λ (c : Call). c.instant ≤ before.now) (λ c. c.instant ≤ after.now) (λ c h. omega (arith, h, late))
              (take called inputs.calls) calls_taken);
          waits = waits;
          stands = now_served.on_disk;
          soon = omega (arith, soon, so_far.soon, longer);
          counted = omega (
            arith,
            ap (λ n. length (others ++ drop n (requests inputs))) now_served.same_joined,
            longer,
            size,
            ap length ready.same_left,
            so_far.counted,
          );
        }

    leads_serving : LeadsOn inputs steps true state (standing inputs after others queued)
    leads_serving = record {
      step = step;
      stepped = made.stepped;
      fore = now_served.more ∙ ap (λ row. before.fore ++ row ∷ []) row_is;
      come_to = goes_on_serving;
      fewer = omega (arith, ap length next_decided, same_left);
    }

  -- the head stays, and nothing that is left to be written ends by then
  module _ (instant : ℕ) (upto : before.now ≤ instant) (after : Course)
      (stayed : HasStayed inputs.disk instant (ready_to_act before background joined called) after)
      (late : AllByRecursion (λ (w : Written). instant < w.passage.end) (all_writes rest)) where
    stays : StepsBy inputs (history inputs steps) before (idling (dwell_until before instant)) after
    stays =
        stays_step inputs (history inputs steps) before background joined called ready.test run.tells run.finds instant upto after stayed
        (mirrors_run inputs run.done rest before.now instant before.store run.replayed late)

  leads_by : (instant : ℕ) (after : Course) (more : Bool)
      → HasStayed inputs.disk instant (ready_to_act before background joined called) after
      → (made : StepsBy inputs (history inputs steps) before (idling (dwell_until before instant)) after)
      → HasComeTo inputs more (standing inputs after waiting queued)
      (steps ++ step_of (idling (dwell_until before instant)) made.gots ∷ [])
      → decisions_left inputs more (standing inputs after waiting queued) < length (decisions_by inputs before rest)
      → LeadsOn inputs steps more state (standing inputs after waiting queued)
  leads_by instant after more stayed made come_to fewer = record {
    step = step_of (idling (dwell_until before instant)) made.gots;
    stepped = made.stepped;
    fore = stayed.same_fore ∙ sym (append-nil before.fore);
    come_to = come_to;
    fewer = omega (arith, fewer, same_left);
  }

  -- until the next instant
  module _ (instant : ℕ) (after : Course) (empty : waiting ≡ [])
      (next : next_of (slice_get (requests inputs) joined) (slice_get inputs.calls called) ≡ Some instant)
      (stayed : HasStayed inputs.disk instant (ready_to_act before background joined called) after)
      (waits : IsWaiting inputs.disk (standing inputs after waiting queued)) where
    abbrev rest_after : List Served
    rest_after = rest_of inputs (standing inputs after waiting queued)

    less : before.now < instant
    less = to_come inputs before.now joined called come instant next

    order_left : AreByArrival left_over
    order_left = subst (λ ws. AreByArrival (ws ++ ahead)) (sym empty) (order_dropped joined (requests inputs) known.list.order)

    late_left : AllByRecursion (λ r. instant ≤ r.arrival) left_over
    late_left = subst (λ ws. AllByRecursion (λ r. instant ≤ r.arrival) (ws ++ ahead)) (sym empty)
        (left_later inputs before.now joined called come instant next)

    abbrev rest_then : List Served
    rest_then = plain (length left_over) inputs.disk inputs.key before.head instant left_over

    same_then : rest ≡ rest_then
    same_then = plain_same (length left_over) inputs.disk inputs.key before.head before.now instant left_over
        (omega (arith, less)) order_left late_left

    same_after : rest_then ≡ rest_after
    same_after = rw (stayed.same_joined, stayed.same_head, stayed.until) refl

    late_writes : AllByRecursion (λ (w : Written). instant < w.passage.end) (all_writes rest)
    late_writes = subst (λ services. AllByRecursion (λ (w : Written). instant < w.passage.end) (all_writes services)) (sym same_then)
        (all_late (length left_over) inputs.disk known.takes_time inputs.key before.head instant left_over on_disk)

    stays_now : StepsBy inputs (history inputs steps) before (idling (dwell_until before instant)) after
    stays_now = stays instant (omega (arith, less)) after stayed late_writes

    abbrev step_stay : Step
    step_stay = step_of (idling (dwell_until before instant)) stays_now.gots

    next_stay : decisions_by inputs before rest
        ≡ idles (dwell_until before instant) ∷ decisions_by inputs after rest_after
    next_stay = rw (stayed.same_joined, stayed.same_head, stayed.until)
        (stays_next inputs.disk (instants_of inputs) inputs.until before.head before.now instant rest less
        (rising_instants inputs before.now joined called come)
        (among_instants inputs before.now joined called come instant next)
        (apart_instants inputs before.now joined called come instant next)
        (subst (StartsFrom instant) (sym same_then) (starts_from (length left_over) inputs.disk inputs.key before.head instant left_over))
        ∙ ap (λ services. idles (dwell_until before instant)
        ∷ decisions_from inputs.disk (instants_of inputs) inputs.until before.head instant services) same_then)

    replayed_stay : Replayed inputs.latent (served inputs) rest_after after.now after.store run.done
    replayed_stay = stays_replayed inputs.latent (served inputs) run.done rest before.now before.store
        rest_after after.now after.store
        run.replayed (same_then ∙ same_after) (let until = stayed.until in omega (arith, until, less)) stayed.same_store

    goes_on_staying : GoesOn inputs (standing inputs after waiting queued) (steps ++ step_stay ∷ [])
    goes_on_staying =
        let until = stayed.until in
        record {
          run =
              run_more inputs rest rest_after before steps run step_stay after stays_now.stepped run.done replayed_stay;
          decided = one_decided steps step_stay (decisions_by inputs before rest) (decisions_by inputs after rest_after)
              (decisions inputs) decided next_stay;
          called = called_more inputs rest rest_after before steps run step_stay after stays_now.stepped;
          arrivals = subst (λ n. AllByRecursion (λ r. r.arrival ≤ after.now) (take n (requests inputs))) (sym stayed.same_joined)
              (all_weaker (λ (r : Request). r.arrival ≤ before.now) (λ r. r.arrival ≤ after.now) (λ r h. omega (arith, h, less, until))
              (take joined (requests inputs)) ready.come);
          calls_taken = subst (λ n. AllByRecursion (λ c. c.instant ≤ after.now) (take n inputs.calls)) (sym stayed.same_called)
              (all_weaker (λ (c : Call). c.instant ≤ before.now) (λ c. c.instant ≤ after.now) (λ c h. omega (arith, h, less, until))
              (take called inputs.calls) calls_taken);
          waits = waits;
          stands = subst (IsTrackOf inputs.disk.map) (sym stayed.same_head) so_far.stands;
          soon =
              omega (arith, until, early_instant inputs instant known (among_instants inputs before.now joined called come instant next));
          counted = omega (
            arith,
            ap (λ n. length (waiting ++ drop n (requests inputs))) stayed.same_joined,
            ap length ready.same_left,
            so_far.counted,
          );
        }

    leads_staying : LeadsOn inputs steps true state (standing inputs after waiting queued)
    leads_staying = leads_by instant after true stayed stays_now goes_on_staying (omega (arith, ap length next_stay))

  -- nothing is to come: the head stays until the end, or the run ends
  module _ (empty : waiting ≡ []) (next : next_of (slice_get (requests inputs) joined) (slice_get inputs.calls called) ≡ None) where
    no_rest : rest ≡ []
    no_rest = none_served (length left_over) inputs.disk inputs.key before.head before.now left_over
        (ap length (ap (λ ws. ws ++ ahead) empty ∙ none_left inputs before.now joined called come next))

    last_is : decisions_by inputs before rest ≡ last_decision before.head before.now inputs.until ∷ []
    last_is = ap (decisions_by inputs before) no_rest
        ∙ ends_now inputs.disk (instants_of inputs) inputs.until before.head before.now
        (passed_instants inputs before.now joined called come next)

    none_late : (end : ℕ) → AllByRecursion (λ (w : Written). end < w.passage.end) (all_writes rest)
    none_late end = subst (λ services. AllByRecursion (λ (w : Written). end < w.passage.end) (all_writes services)) (sym no_rest) tt

    few_served : length (served inputs) ≤ 10 ^ 6
    few_served = omega (arith, ap length run.replayed.all, length-append run.done rest, ap length no_rest, so_far.counted, known.list.few)

    module _ (later : before.now < inputs.until) (after : Course)
        (stayed : HasStayed inputs.disk inputs.until (ready_to_act before background joined called) after) where
      stays_last_time : StepsBy inputs (history inputs steps) before (idling (dwell_until before inputs.until)) after
      stays_last_time = stays inputs.until (omega (arith, later)) after stayed (none_late inputs.until)

      abbrev step_last : Step
      step_last = step_of (idling (dwell_until before inputs.until)) stays_last_time.gots

      ends_staying : HasEnded inputs after (steps ++ step_last ∷ [])
      ends_staying =
          let until = stayed.until in
          let idle : nat_lt before.now inputs.until ≡ true = grind (arith, nat_tests) in
          record {
            run = run_more inputs rest [] before steps run step_last after stays_last_time.stepped run.done
                (stays_replayed inputs.latent (served inputs) run.done rest before.now before.store [] after.now after.store run.replayed
                no_rest (omega (arith, until, later)) stayed.same_store);
            decided = sym (append-nil (decisions_in (steps ++ step_last ∷ [])))
                ∙ one_decided steps step_last (decisions_by inputs before rest) [] (decisions inputs) decided
                (last_is ∙ ap (λ b. (if b then idles (dwell_until before inputs.until) else ends before.now) ∷ []) idle);
            calls_made = (called_more inputs rest [] before steps run step_last after stays_last_time.stepped).taken;
            few = few_served;
            early = omega (arith, until, known.accepted.until);
          }

      leads_last : LeadsOn inputs steps false state (standing inputs after waiting queued)
      leads_last = leads_by inputs.until after false stayed stays_last_time ends_staying (omega (arith, ap length last_is))

    module _ (over : inputs.until ≤ before.now) where
      ends_now_by : StepsBy inputs (history inputs steps) before (ending before.now) (ready_to_act before background joined called)
      ends_now_by = ends_step inputs (history inputs steps) before background joined called ready.test run.tells run.finds
          (mirrors_run inputs run.done rest before.now before.now before.store run.replayed (none_late before.now))

      abbrev step_end : Step
      step_end = step_of (ending before.now) ends_now_by.gots

      ends_there : HasEnded inputs (ready_to_act before background joined called) (steps ++ step_end ∷ [])
      ends_there =
          let ends_now : nat_lt before.now inputs.until ≡ false = grind (arith, nat_tests) in
          record {
            run = run_more inputs rest [] before steps run step_end (ready_to_act before background joined called) ends_now_by.stepped
                run.done
                (subst (λ services. Replayed inputs.latent (served inputs) services before.now before.store run.done) no_rest run.replayed);
            decided = sym (append-nil (decisions_in (steps ++ step_end ∷ [])))
                ∙ one_decided steps step_end (decisions_by inputs before rest) [] (decisions inputs) decided
                (last_is ∙ ap (λ b. (if b then idles (dwell_until before inputs.until) else ends before.now) ∷ []) ends_now);
            calls_made =
                (called_more inputs rest [] before steps run step_end (ready_to_act before background joined called)
                ends_now_by.stepped).taken;
            few = few_served;
            early = omega (arith, so_far.soon, so_far.counted, known.list.few);
          }

      leads_to_end : LeadsOn inputs steps false state (standing inputs (ready_to_act before background joined called) waiting queued)
      leads_to_end = record {
        step = step_end;
        stepped = ends_now_by.stepped;
        fore = sym (append-nil before.fore);
        come_to = ends_there;
        fewer = omega (arith, ap length last_is, same_left);
      }

  -- whatever is done
  by_action : (goes_on : Bool) (after : RunState)
      → HasActed inputs (standing inputs (ready_to_act before background joined called) waiting queued) goes_on after
      → (goes_on ≡ true → IsWaiting inputs.disk after) → LeadsOn inputs steps goes_on state after
  by_action goes_on after (serves_pick request course others pick now_served) waits =
      leads_serving request others course pick now_served (waits refl)
  by_action goes_on after (stays_on instant course empty next stayed) waits = leads_staying instant course empty next stayed (waits refl)
  by_action goes_on after (stays_last course empty next later stayed) waits = leads_last empty next later course stayed
  by_action goes_on after (ends_here empty next over) waits = leads_to_end empty next over

-- what is ready differs from what stood before just in what it says
ready_is : {inputs : Inputs} {past : Past} {before ready : RunState} → IsReadyToAct inputs past before ready
    → ready ≡ record ready {
      requests = before.requests;
      course = ready_to_act before.course ready.course.background ready.course.joined ready.course.called;
    }
ready_is {before = before} {ready = ready} is = ap (λ list. record ready { requests = list }) is.same_requests
    ∙ ap (λ course. record ready { requests = before.requests; course = course }) is.same

-- one decision leads on from where the run had come to
pub decided_more : (inputs : Inputs) (steps : List Step) (goes_on : Bool) (before after : RunState) → AreKnown inputs
    → before.requests ≡ requests inputs → GoesOn inputs before steps → HasDecided inputs (history inputs steps) before goes_on after
    → (goes_on ≡ true → IsWaiting inputs.disk after) → LeadsOn inputs steps goes_on before after
decided_more inputs steps goes_on before after known requests_are =
    subst (λ list. GoesOn inputs (record before { requests = list }) steps
    → HasDecided inputs (history inputs steps) (record before { requests = list }) goes_on after
    → (goes_on ≡ true → IsWaiting inputs.disk after)
    → LeadsOn inputs steps goes_on (record before { requests = list }) after) (sym requests_are)
    (λ so_far decided waits.
    let ready = decided.ready in
    let is = decided.is_ready in
    by_action inputs known before.course before.pending before.joined steps so_far ready.course.background ready.course.joined
    ready.course.called ready.pending ready.joined
    (subst (IsReadyToAct inputs (history inputs steps) (standing inputs before.course before.pending before.joined)) (ready_is is) is)
    goes_on after (subst (λ ready. HasActed inputs ready goes_on after) (ready_is is) decided.acted) waits)
