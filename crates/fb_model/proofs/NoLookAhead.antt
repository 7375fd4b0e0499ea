-- No decision looks ahead: what is known of a run by an instant depends only on what has come by then.
use Rattle.fb_model.proofs.Words.{◌≡◌, ℕ, ◌<◌, ◌≤◌, List, [], ◌∷◌, ◌++◌, length, map, refl, ap, ap₂, sym, subst, ◌∙◌, arith, append_assoc}
use Rattle.fb_model.proofs.Words.{false, filter, AllByRecursion, fold, flat_map, all_any, all_unmapped, all_weaker, not_none, same_first}
use Rattle.fb_model.proofs.Words.{same_rest, Track, Request, kept_map, after_is, IsSound, Call, Disk, Dwell, BackRow, DeliveryRow, Run}
use Rattle.fb_model.proofs.Words.{Key, has_arrived, first_track, plain_replay, Inputs, requests, served, HaveSameSectors, Medium, Written}
use Rattle.fb_model.proofs.Words.{contents_at, medium_of, fore_row, fore_rows, Decision, idles, instant_of, end_of, Act, serving, idling}
use Rattle.fb_model.proofs.Words.{ending, decision_of, decisions_from, decisions, among, Past, tested, wanted, test_rows, due, Delivery}
use Rattle.fb_model.proofs.Words.{Step, decision_in, decisions_in, chosen_past, with_delivery, with_finish, tested_past, delivery_rows}
use Rattle.fb_model.proofs.Words.{past_after, AtEach, opening, step_rows, IsAccepted, AreFollowed, HasBestPlan, IsFull, only_if}
use Rattle.fb_model.proofs.Words.{known_from, fore_known, without_line}
use Rattle.fb_rows.specs.declared.gap.How.TheVariants.{Idle as ByIdle}
use Rattle.fb_rows.specs.declared.back.BackRow.TheVariants.{Idle as BackIdle}
use Rattle.fb_model.specs.Accepted.{IsRising}
use Rattle.fb_model.specs.Known.{AgreeUpTo, SameKnown}
use Rattle.fb_model.proofs.Joined.{in_order}
use Rattle.fb_model.proofs.Due.{IsDueRow, due_block, due_true}
use Rattle.fb_model.proofs.Replays.{Rises, plain_turns}
use Rattle.fb_model.proofs.Steps.{best_is_plan, dwelt, is_dwelt}
use Rattle.fb_model.proofs.FullRuns.{gots, IsFullStep, one_step, full_steps}
use Rattle.fb_model.proofs.ReplaysUpTo.{alike_turns}
use Rattle.fb_model.proofs.Passages.{LiesOnDisk, are_services, requests_lie, write_late}
use Rattle.fb_model.proofs.ContentsUpTo.{medium_with, HoldSame, same_contents, hold_same, same_fore}
use Rattle.fb_model.proofs.Instants.{instants_from, rising_all_among, all_come, same_instants}
use Rattle.fb_model.proofs.DecisionsUpTo.{IsMade, IsLater, AlikeDecisions, same, dwelling, later, end_from, alike_decisions}
use Rattle.fb_model.proofs.HistoriesUpTo.{HasSector, AreFine, HasBegun, wanted_fine, chosen_fine, after_fine, all_fine_weaker, calls_by}
use Rattle.fb_model.proofs.HistoriesUpTo.{RiseInTime, same_chosen}
use Rattle.fb_model.proofs.RowsUpTo.{AreUnknown, AreKnownAlike, IsUnknown, unknown_before, alike_behind, tests_unknown, tasks_unknown}
use Rattle.fb_model.proofs.RowsUpTo.{deliveries_unknown, same_tests, same_followed, ends_by_then, RisingEnds}
use Rattle.fb_model.proofs.RowsUpTo.{alike_deliveries}
use Rattle.fb_model.proofs.Unlined.{unlined_inputs, steps_same, instants_same}
use Rattle.fb_model.proofs.DueUpTo.{LiesBetween, AgreeBetween, delivers_by, due_between, same_due, rising_caught, same_by_then}

-- ---- one decision

regroup : (test opened got rest more : List BackRow)
    → (((test ++ opened) ++ got) ++ rest) ++ more ≡ test ++ (opened ++ (got ++ (rest ++ more)))
regroup test opened got rest more = simp append_assoc

opening_unknown : (t : ℕ) (disk : Disk) (act : Act) → IsLater t disk (decision_of act) → AllByRecursion (IsUnknown t) (opening disk act)
opening_unknown t disk (serving served plan) late = (λ follows. after_is served.start t late.from, tt)
opening_unknown t disk (idling dwell) late = (λ follows. after_is dwell.end t late.upto, tt)
opening_unknown t disk (ending now) late = tt

module _ (disk : Disk) (latent : List ℕ) (key : Key) (trace : List Request) (passed_over : ℕ) (calls : List Call) (until : ℕ)
    (writes : List Written) where
  abbrev inputs : Inputs
  inputs = record { disk = disk; latent = latent; trace = trace; passed_over = passed_over; calls = calls; key = key; until = until }

  abbrev medium : Medium
  medium = record { disk = disk; latent = latent; writes = writes }

  -- deliveries lie within their decision
  step_between : (P : DeliveryRow → Type 0) (past : Past) (step : Step) → IsFullStep inputs medium past step
      → IsMade disk (decision_in step) → AreFine P past
      → AllByRecursion (LiesBetween (instant_of (decision_in step)) (end_of (decision_in step))) (gots step.deliveries)
  step_between P past step full made fine =
      let blocks = wanted (chosen_past inputs past (decision_in step)) in
      subst (AllByRecursion (LiesBetween (instant_of (decision_in step)) (end_of (decision_in step)))) (sym full.all)
      (all_weaker (IsDueRow disk (contents_at medium) step.act HasSector)
      (LiesBetween (instant_of (decision_in step)) (end_of (decision_in step)))
      (λ row due_row.
      let over = delivers_by disk (decision_in step) (end_of (decision_in step)) made (omega arith) in
      let block = due_block disk (contents_at medium) step.act HasSector row due_row in
      due_between disk (contents_at medium) step.act HasSector (end_of (decision_in step)) made
      (best_is_plan disk blocks step.act full.best) over row block due_row)
      (due disk (contents_at medium) step.act blocks)
      (due_true disk (contents_at medium) step.act HasSector blocks
      (wanted_fine P (chosen_past inputs past (decision_in step)) (chosen_fine P inputs past (decision_in step) fine))))

  -- nothing of decisions after t is known
  steps_unknown : (t : ℕ) (P : DeliveryRow → Type 0) → ((row : DeliveryRow) → P row)
      → (past : Past) (steps : List Step) (more : List BackRow) → AllByRecursion (IsLater t disk) (decisions_in steps)
      → AtEach (IsFullStep inputs medium) inputs past steps → AreFine P past → AreUnknown t more
      → AreUnknown t (flat_map (step_rows disk) steps ++ more)
  steps_unknown t P any past [] more late full fine unknown = unknown
  steps_unknown t P any past (step ∷ steps) more late full fine unknown =
      let rest = flat_map (step_rows disk) steps in
      let d = decision_in step in
      let instant = late.0.from in
      let between = step_between P past step full.0 late.0.made fine in
      let others = steps_unknown t P any (past_after inputs past step) steps more late.1 full.1
      (after_fine P inputs past step (all_unmapped P (λ (d : Delivery). d.got) step.deliveries
      (all_weaker (LiesBetween (instant_of d) (end_of d)) P (λ row h. any row) (gots step.deliveries) between)) fine) unknown in
      subst (AreUnknown t) (sym (regroup step.test (opening disk step.act) (delivery_rows step.deliveries) rest more))
      (unknown_before t step.test (opening disk step.act ++ (delivery_rows step.deliveries ++ (rest ++ more)))
      (subst (AllByRecursion (IsUnknown t)) (sym full.0.tests.test)
      (tests_unknown t medium (chosen_past inputs past d) (instant_of d) instant))
      (unknown_before t (opening disk step.act) (delivery_rows step.deliveries ++ (rest ++ more)) (opening_unknown t disk step.act late.0)
      (deliveries_unknown t medium (tested_past inputs past step) step.deliveries (rest ++ more) full.0.tests.followed
      (all_weaker (LiesBetween (instant_of d) (end_of d)) (λ (row : DeliveryRow). t < row.end)
      (λ row h. let begins = h.begins in let in_turn = h.in_turn in omega (arith, begins, in_turn, instant)) (gots step.deliveries) between)
      others)))

-- ---- two runs

any_delivery : DeliveryRow → Type 0
any_delivery row = Unit {0}

module _ (disk : Disk) (latent_a latent_b : List ℕ) (key : Key) (trace_a trace_b : List Request) (over_a over_b : ℕ) (calls_a calls_b : List Call)
    (until_a until_b : ℕ) (writes_a writes_b : List Written)
    (rising_a : RiseInTime calls_a) (rising_b : RiseInTime calls_b)
    (t done : ℕ) (since : t ≤ done) (come : filter (calls_by t) calls_a ≡ filter (calls_by t) calls_b)
    (hold : HoldSame done (record { disk = disk; latent = latent_a; writes = writes_a })
    (record { disk = disk; latent = latent_b; writes = writes_b })) where
  abbrev inputs_a : Inputs
  inputs_a = record { disk = disk; latent = latent_a; trace = trace_a; passed_over = over_a; calls = calls_a; key = key; until = until_a }

  abbrev inputs_b : Inputs
  inputs_b = record { disk = disk; latent = latent_b; trace = trace_b; passed_over = over_b; calls = calls_b; key = key; until = until_b }

  abbrev medium_a : Medium
  medium_a = record { disk = disk; latent = latent_a; writes = writes_a }

  abbrev medium_b : Medium
  medium_b = record { disk = disk; latent = latent_b; writes = writes_b }

  agree : AgreeBetween 0 done (contents_at medium_a) (contents_at medium_b)
  agree lbn n u after before = same_contents done medium_a medium_b hold lbn n u before

  chooses : (past : Past) (d e : Decision) → instant_of d ≤ t → instant_of d ≡ instant_of e
      → chosen_past inputs_a past d ≡ chosen_past inputs_b past e
  chooses past d e h at = same_chosen inputs_a inputs_b t past d e refl rising_a rising_b come h at

  -- a step of the one run's would do in the other
  as_well : (past : Past) (step : Step) → instant_of (decision_in step) ≤ t → end_of (decision_in step) ≤ done
      → IsMade disk (decision_in step) → AreFine (HasBegun done) past
      → IsFullStep inputs_b medium_b past step → IsFullStep inputs_a medium_a past step
  as_well past step h ended made fine full =
      let d = decision_in step in
      let chosen = chooses past d d h refl in
      let chosen_a = chosen_past inputs_a past d in
      let blocks = wanted (chosen_past inputs_b past d) in
      let fine_a = chosen_fine (HasBegun done) inputs_a past d fine in
      let between = step_between disk latent_b key trace_b over_b calls_b until_b writes_b (HasBegun done) past step full made fine in
      record {
        tests = record {
          test = full.tests.test ∙ (ap (λ past. test_rows medium_b past (instant_of d)) (sym chosen)
              ∙ sym (same_tests done medium_a medium_b hold chosen_a (instant_of d) fine_a (omega arith)));
          followed = same_followed done medium_a medium_b hold (tested step.test ∷ chosen_a) step.deliveries (tt, fine_a)
              (all_weaker (LiesBetween (instant_of d) (end_of d)) (λ (row : DeliveryRow). (row.begin ≤ done) × (row.end ≤ done))
              (λ row lies. let in_turn = lies.in_turn in let over = lies.ends in
              (omega (arith, in_turn, over, ended), omega (arith, over, ended))) (gots step.deliveries) between)
              (subst (λ past. AreFollowed medium_b (tested step.test ∷ past) step.deliveries) (sym chosen) full.tests.followed);
        };
        best = subst (λ past. HasBestPlan disk (wanted past) step.act) (sym chosen) full.best;
        all = full.all ∙ (ap (λ past. due disk (contents_at medium_b) step.act (wanted past)) (sym chosen)
            ∙ sym (same_due disk (contents_at medium_a) (contents_at medium_b) 0 done agree step.act
            (wanted chosen_a) made (best_is_plan disk blocks step.act full.best) (omega arith) (delivers_by disk d done made ended)
            (wanted_fine (HasBegun done) chosen_a fine_a)));
      }

  goes_on : (past : Past) (step : Step) → instant_of (decision_in step) ≤ t → past_after inputs_a past step ≡ past_after inputs_b past step
  unfolding past_after
  goes_on past step h = ap (λ past. with_finish (fold with_delivery (tested step.test ∷ past) step.deliveries) (decision_in step))
      (chooses past (decision_in step) (decision_in step) h refl)

  -- a dwell that is under way
  dwell_alike : (past : Past) (head : Track) (now end_a end_b : ℕ) (x y : Step) (rest_a rest_b more_a more_b : List BackRow) → now ≤ t
      → t < end_a → t < end_b → AreFine (HasBegun done) past
      → IsFullStep inputs_a medium_a past (dwelt x (record { track = head; begin = now; end = end_a }))
      → IsFullStep inputs_b medium_b past (dwelt y (record { track = head; begin = now; end = end_b }))
      → AreUnknown t (rest_a ++ more_a) → AreUnknown t (rest_b ++ more_b)
      → AreKnownAlike t ((step_rows disk (dwelt x (record { track = head; begin = now; end = end_a })) ++ rest_a) ++ more_a)
      ((step_rows disk (dwelt y (record { track = head; begin = now; end = end_b })) ++ rest_b) ++ more_b)
  unfolding due
  dwell_alike past head now end_a end_b x y rest_a rest_b more_a more_b h late_a late_b fine full_a full_b unknown_a unknown_b =
      let dwell_a : Dwell = record { track = head; begin = now; end = end_a } in
      let dwell_b : Dwell = record { track = head; begin = now; end = end_b } in
      let d_a = idles dwell_a in
      let d_b = idles dwell_b in
      let chosen_a = chosen_past inputs_a past d_a in
      let chosen_b = chosen_past inputs_b past d_b in
      let chosen : chosen_a ≡ chosen_b = chooses past d_a d_b h refl in
      let fine_a = chosen_fine (HasBegun done) inputs_a past d_a fine in
      let rows : x.test ≡ y.test = full_a.tests.test ∙ (same_tests done medium_a medium_b hold chosen_a now fine_a (omega arith)
      ∙ (ap (λ past. test_rows medium_b past now) chosen ∙ sym full_b.tests.test)) in
      let pasts : tested x.test ∷ chosen_a ≡ tested y.test ∷ chosen_b = ap₂ (λ rows past. tested rows ∷ past) rows chosen in
      let between =
      step_between disk latent_a key trace_a over_a calls_a until_a writes_a (HasBegun done) past (dwelt x dwell_a) full_a tt fine in
      let kept : filter (ends_by_then t) (gots x.deliveries) ≡ filter (ends_by_then t) (gots y.deliveries) =
      ap (filter (ends_by_then t)) full_a.all ∙ (same_by_then disk (contents_at medium_a)
      (contents_at medium_b) t done since agree ByIdle head now end_a end_b late_a late_b (wanted chosen_a)
      ∙ (ap (λ past. filter (ends_by_then t) (due disk (contents_at medium_b) (idling dwell_b) (wanted past))) chosen
      ∙ sym (ap (filter (ends_by_then t)) full_b.all))) in
      let alike = alike_deliveries t done since medium_a medium_b hold (tested x.test ∷ chosen_a) x.deliveries y.deliveries (rest_a
      ++ more_a) (rest_b ++ more_b) (tt, fine_a) full_a.tests.followed
      (subst (λ past. AreFollowed medium_b past y.deliveries) (sym pasts) full_b.tests.followed)
      (subst RisingEnds (sym full_a.all)
      (rising_caught disk (contents_at medium_a) ByIdle (record { track = head; begin = now; end = end_a }) (wanted chosen_a)))
      (subst RisingEnds (sym full_b.all)
      (rising_caught disk (contents_at medium_b) ByIdle (record { track = head; begin = now; end = end_b }) (wanted chosen_b)))
      (all_weaker (LiesBetween now end_a) (λ (row : DeliveryRow). row.begin ≤ row.end) (λ row lies. lies.in_turn)
      (gots x.deliveries) between)
      kept unknown_a unknown_b in
      let got_a = delivery_rows x.deliveries ++ (rest_a ++ more_a) in
      let got_b = delivery_rows y.deliveries ++ (rest_b ++ more_b) in
      let opened : AreKnownAlike t (BackIdle (record { track = head; begin = now; end = end_a })
      ∷ got_a) (BackIdle (record { track = head; begin = now; end = end_b }) ∷ got_b) = λ follows.
      ap (λ b. only_if b (BackIdle (record { track = head; begin = now; end = end_a })) (known_from t false got_a))
      (after_is end_a t late_a)
      ∙ (alike false ∙ sym (ap (λ b. only_if b (BackIdle (record { track = head; begin = now; end = end_b })) (known_from t false got_b))
      (after_is end_b t late_b))) in
      λ follows.
      ap (known_from t follows) (regroup x.test (opening disk (idling dwell_a)) (delivery_rows x.deliveries) rest_a more_a)
      ∙ (alike_behind t x.test (BackIdle (record { track = head; begin = now; end = end_a }) ∷ got_a)
      (BackIdle (record { track = head; begin = now; end = end_b }) ∷ got_b) opened follows
      ∙ (ap (λ rows. known_from t follows (rows ++ (BackIdle (record { track = head; begin = now; end = end_b }) ∷ got_b))) rows
      ∙ sym (ap (known_from t follows) (regroup y.test (opening disk (idling dwell_b)) (delivery_rows y.deliveries) rest_b more_b))))

  no_property : (past : Past) → AreFine (HasBegun done) past → AreFine any_delivery past
  unfolding any_delivery
  no_property past fine = all_fine_weaker (HasBegun done) any_delivery (λ row h. tt) past fine

  any_is : (row : DeliveryRow) → any_delivery row
  unfolding any_delivery
  any_is row = tt

  rest_unknown_a : (past : Past) (steps : List Step) (more : List BackRow) → AllByRecursion (IsLater t disk) (decisions_in steps)
      → AtEach (IsFullStep inputs_a medium_a) inputs_a past steps → AreFine any_delivery past → AreUnknown t more
      → AreUnknown t (flat_map (step_rows disk) steps ++ more)
  rest_unknown_a = steps_unknown disk latent_a key trace_a over_a calls_a until_a writes_a t any_delivery any_is

  rest_unknown_b : (past : Past) (steps : List Step) (more : List BackRow) → AllByRecursion (IsLater t disk) (decisions_in steps)
      → AtEach (IsFullStep inputs_b medium_b) inputs_b past steps → AreFine any_delivery past → AreUnknown t more
      → AreUnknown t (flat_map (step_rows disk) steps ++ more)
  rest_unknown_b = steps_unknown disk latent_b key trace_b over_b calls_b until_b writes_b t any_delivery any_is

  steps_alike : (past : Past) {ds es : List Decision} → AlikeDecisions t done disk ds es
      → (xs ys : List Step) (more_a more_b : List BackRow) → decisions_in xs ≡ ds → decisions_in ys ≡ es
      → AtEach (IsFullStep inputs_a medium_a) inputs_a past xs → AtEach (IsFullStep inputs_b medium_b) inputs_b past ys
      → AreFine (HasBegun done) past → AreUnknown t more_a → AreUnknown t more_b
      → AreKnownAlike t (flat_map (step_rows disk) xs ++ more_a) (flat_map (step_rows disk) ys ++ more_b)
  steps_alike past (same h ended made alike) [] ys more_a more_b is_x is_y full_a full_b fine unknown_a unknown_b =
      absurd (not_none _ _ (sym is_x))
  steps_alike past (same h ended made alike) (x ∷ xs) [] more_a more_b is_x is_y full_a full_b fine unknown_a unknown_b =
      absurd (not_none _ _ (sym is_y))
  steps_alike past (same h ended made alike) (x ∷ xs) (y ∷ ys) more_a more_b is_x is_y full_a full_b fine unknown_a unknown_b =
      let there = same_first _ _ _ _ is_y in
      let here = subst (λ d. (instant_of d ≤ t) × (end_of d ≤ done) × IsMade disk d) (sym there) (h, ended, made) in
      let well = as_well past y here.0 here.1 here.2 fine full_b.0 in
      let one = one_step inputs_a medium_a past x y (same_first _ _ _ _ is_x ∙ sym there) full_a.0 well in
      let rest_a = flat_map (step_rows disk) xs in
      let rest_b = flat_map (step_rows disk) ys in
      let between = step_between disk latent_a key trace_a over_a calls_a until_a writes_a (HasBegun done) past y well here.2 fine in
      let begun : (row : DeliveryRow) → LiesBetween (instant_of (decision_in y)) (end_of (decision_in y)) row → HasBegun done row =
      λ row lies. omega (arith, lies.in_turn, lies.ends, here.1) in
      let each = all_unmapped (HasBegun done) (λ (d : Delivery). d.got) y.deliveries (all_weaker _ _ begun (gots y.deliveries) between) in
      let fine_after = after_fine (HasBegun done) inputs_a past y each fine in
      let others = steps_alike (past_after inputs_a past y) alike xs ys more_a more_b (same_rest _ _ _ _ is_x) (same_rest _ _ _ _ is_y)
      (subst (λ x. AtEach (IsFullStep inputs_a medium_a) inputs_a (past_after inputs_a past x) xs) one full_a.1)
      (subst (λ past. AtEach (IsFullStep inputs_b medium_b) inputs_b past ys) (sym (goes_on past y here.0)) full_b.1)
      fine_after unknown_a unknown_b in
      λ follows.
      ap (λ x. known_from t follows ((step_rows disk x ++ rest_a) ++ more_a)) one
      ∙ (ap (known_from t follows) (append_assoc (step_rows disk y) rest_a more_a)
      ∙ (alike_behind t (step_rows disk y) (rest_a ++ more_a) (rest_b ++ more_b) others follows
      ∙ sym (ap (known_from t follows) (append_assoc (step_rows disk y) rest_b more_b))))
  steps_alike past (dwelling h late_a late_b after_a after_b) [] ys more_a more_b is_x is_y full_a full_b fine unknown_a unknown_b =
      absurd (not_none _ _ (sym is_x))
  steps_alike past (dwelling h late_a late_b after_a after_b) (x ∷ xs) [] more_a more_b is_x is_y full_a full_b fine unknown_a unknown_b =
      absurd (not_none _ _ (sym is_y))
  steps_alike past (dwelling {head = head} {now = now} {until_a = end_a} {until_b = end_b} h late_a late_b after_a after_b)
      (x ∷ xs) (y ∷ ys) more_a more_b is_x is_y full_a full_b fine unknown_a unknown_b =
      let x_is = is_dwelt x (record { track = head; begin = now; end = end_a }) (same_first _ _ _ _ is_x) in
      let y_is = is_dwelt y (record { track = head; begin = now; end = end_b }) (same_first _ _ _ _ is_y) in
      let later_a = subst (AllByRecursion (IsLater t disk)) (sym (same_rest _ _ _ _ is_x)) after_a in
      let later_b = subst (AllByRecursion (IsLater t disk)) (sym (same_rest _ _ _ _ is_y)) after_b in
      let rest_a = flat_map (step_rows disk) xs in
      let rest_b = flat_map (step_rows disk) ys in
      let any = no_property past fine in
      let each = all_any (λ (d : Delivery). any_delivery d.got) (λ d. any_is d.got) in
      let next_a = after_fine any_delivery inputs_a past x (each x.deliveries) any in
      let next_b = after_fine any_delivery inputs_b past y (each y.deliveries) any in
      let alike = dwell_alike past head now end_a end_b x y rest_a rest_b more_a more_b h late_a late_b fine
      (subst (IsFullStep inputs_a medium_a past) x_is full_a.0) (subst (IsFullStep inputs_b medium_b past) y_is full_b.0)
      (rest_unknown_a (past_after inputs_a past x) xs more_a later_a full_a.1 next_a unknown_a)
      (rest_unknown_b (past_after inputs_b past y) ys more_b later_b full_b.1 next_b unknown_b) in
      λ follows.
      ap (λ x. known_from t follows ((step_rows disk x ++ rest_a) ++ more_a)) x_is
      ∙ (alike follows ∙ sym (ap (λ y. known_from t follows ((step_rows disk y ++ rest_b) ++ more_b)) y_is))
  steps_alike past (later late_a late_b) xs ys more_a more_b is_x is_y full_a full_b fine unknown_a unknown_b = λ follows.
      let later_a = subst (AllByRecursion (IsLater t disk)) (sym is_x) late_a in
      let later_b = subst (AllByRecursion (IsLater t disk)) (sym is_y) late_b in
      rest_unknown_a past xs more_a later_a full_a (no_property past fine) unknown_a follows
      ∙ sym (rest_unknown_b past ys more_b later_b full_b (no_property past fine) unknown_b follows)

-- ---- whole runs

-- what the law needs of a full run: its rows, by its list of requests and the instants of arrivals and calls
record IsRunOf (t : ℕ) (inputs : Inputs) (list : List Request) (instants : List ℕ) (run : Run) : Type 0 where
  pub steps : List Step
  pub tasks : List BackRow
  pub fore : run.fore ≡ map (fore_row (medium_with inputs.disk inputs.latent (plain_replay inputs.disk inputs.key list)))
      (plain_replay inputs.disk inputs.key list)
  pub back : run.back ≡ flat_map (step_rows inputs.disk) steps ++ tasks
  pub end : run.end ≡ end_from 0 (decisions_from inputs.disk instants inputs.until first_track 0 (plain_replay inputs.disk inputs.key list))
  pub decided : decisions_in steps
      ≡ decisions_from inputs.disk instants inputs.until first_track 0 (plain_replay inputs.disk inputs.key list)
  pub each : AtEach (IsFullStep inputs (medium_with inputs.disk inputs.latent (plain_replay inputs.disk inputs.key list))) inputs [] steps
  pub unknown : AreUnknown t tasks

run_of : (t : ℕ) (inputs : Inputs) (run : Run) → IsFull inputs run
    → IsRunOf t inputs (requests inputs) (instants_from (requests inputs) inputs.calls) run
unfolding decisions served medium_of fore_rows
run_of t inputs run full = record {
  steps = full.steps;
  tasks = full.sound.tasks;
  fore = full.sound.fore;
  back = full.sound.back;
  end = full.sound.end;
  decided = full.sound.decided;
  each = full_steps inputs run full;
  unknown = subst (AreUnknown t) (sym full.sound.counted) (tasks_unknown t _);
}

-- it is one of the same calls on other lines
unlined_run : (t : ℕ) (inputs : Inputs) (list : List Request) (run : Run) → IsRunOf t inputs list (instants_from list inputs.calls) run
    → IsRunOf t (unlined_inputs inputs) list (instants_from list (map without_line inputs.calls)) run
unlined_run t inputs list run is =
    let medium = medium_with inputs.disk inputs.latent (plain_replay inputs.disk inputs.key list) in
    subst (λ instants. IsRunOf t (unlined_inputs inputs) list instants run)
    (sym (ap (fold among (map (λ (r : Request). r.arrival) list)) (instants_same inputs.calls)))
    (record {
      steps = is.steps;
      tasks = is.tasks;
      fore = is.fore;
      back = is.back;
      end = is.end;
      decided = is.decided;
      each = steps_same medium inputs [] is.steps is.each;
      unknown = is.unknown;
    })

-- requests of an accepted list
record IsListOf (disk : Disk) (list : List Request) : Type 0 where
  pub rises : Rises list
  pub lie : AllByRecursion (LiesOnDisk disk.map) list

list_of : (inputs : Inputs) → IsAccepted inputs → IsListOf inputs.disk (requests inputs)
list_of inputs accepted = record { rises = (in_order inputs accepted).ascend; lie = requests_lie inputs accepted }

runs_alike : (t : ℕ) (disk : Disk) (latent_a latent_b : List ℕ) → HaveSameSectors latent_a latent_b → (key : Key) (trace_a trace_b : List Request) (over_a over_b : ℕ)
    (calls_a calls_b : List Call) (until_a until_b : ℕ) (list_a list_b : List Request) (run_a run_b : Run)
    → IsSound disk.map → IsListOf disk list_a → IsListOf disk list_b → RiseInTime calls_a → RiseInTime calls_b
    → IsRunOf t (record {
      disk = disk;
      latent = latent_a;
      trace = trace_a;
      passed_over = over_a;
      calls = calls_a;
      key = key;
      until = until_a;
    }) list_a (instants_from list_a calls_a) run_a
    → IsRunOf t (record {
      disk = disk;
      latent = latent_b;
      trace = trace_b;
      passed_over = over_b;
      calls = calls_b;
      key = key;
      until = until_b;
    }) list_b (instants_from list_b calls_b) run_b
    → t < run_a.end → t < run_b.end → filter (has_arrived t) list_a ≡ filter (has_arrived t) list_b
    → filter (calls_by t) calls_a ≡ filter (calls_by t) calls_b
    → SameKnown t run_a run_b
runs_alike t disk latent_a latent_b alike_latent key trace_a trace_b over_a over_b calls_a calls_b until_a until_b list_a list_b run_a run_b sound accepted_a accepted_b rising_a rising_b full_a full_b long_a long_b arrived come =
    let replay_a = plain_replay disk key list_a in
    let replay_b = plain_replay disk key list_b in
    let turns_a = plain_turns (length list_a) disk key first_track 0 list_a (omega arith) in
    let turns_b = plain_turns (length list_b) disk key first_track 0 list_b (omega arith) in
    let alike =
    alike_turns t disk key first_track 0 list_a list_b replay_a replay_b arrived accepted_a.rises accepted_b.rises turns_a turns_b in
    let late_a = write_late disk key sound first_track 0 list_a replay_a turns_a accepted_a.lie in
    let late_b = write_late disk key sound first_track 0 list_b replay_b turns_b accepted_b.lie in
    let hold = hold_same disk latent_a latent_b alike_latent t alike.done replay_a replay_b alike.alike late_a late_b in
    let medium_a = medium_with disk latent_a replay_a in
    let medium_b = medium_with disk latent_b replay_b in
    let instants_a = instants_from list_a calls_a in
    let instants_b = instants_from list_b calls_b in
    let decided = alike_decisions t alike.done disk key alike.from instants_a instants_b until_a until_b
    (rising_all_among (map (λ (call : Call). call.instant) calls_a) (map (λ (r : Request). r.arrival) list_a) accepted_a.rises)
    (rising_all_among (map (λ (call : Call). call.instant) calls_b) (map (λ (r : Request). r.arrival) list_b) accepted_b.rises)
    (same_instants t list_a list_b calls_a calls_b accepted_a.rises accepted_b.rises arrived come)
    first_track 0 list_a list_b 0 0 alike.alike turns_a turns_b (all_come list_a calls_a) (all_come list_b calls_b)
    (subst (λ e. t < e) full_a.end long_a) (subst (λ e. t < e) full_b.end long_b) in
    record {
      fore = ap (fore_known t) full_a.fore
          ∙ (same_fore t alike.done medium_a medium_b hold disk alike.alike (are_services disk key first_track 0 list_a replay_a turns_a)
          ∙ sym (ap (fore_known t) full_b.fore));
      back = ap (known_from t false) full_a.back
          ∙ (steps_alike disk latent_a latent_b key trace_a trace_b over_a over_b calls_a calls_b until_a until_b medium_a.writes medium_b.writes
          rising_a rising_b t alike.done alike.from come hold
          [] decided full_a.steps full_b.steps full_a.tasks full_b.tasks full_a.decided full_b.decided full_a.each full_b.each tt
          full_a.unknown full_b.unknown false
          ∙ sym (ap (known_from t false) full_b.back));
    }

same_inputs : (a b : Inputs) → a.disk ≡ b.disk → a.key ≡ b.key → b ≡ record b { disk = a.disk; key = a.key }
same_inputs a b disk key = ap (λ x. record b { disk = x }) (sym disk) ∙ ap (λ x. record b { disk = a.disk; key = x }) (sym key)

-- calls that are the same but for their lines are the same without them
same_unlined : (t : ℕ) (calls_a calls_b : List Call)
    → map without_line (filter (calls_by t) calls_a) ≡ map without_line (filter (calls_by t) calls_b)
    → filter (calls_by t) (map without_line calls_a) ≡ filter (calls_by t) (map without_line calls_b)
same_unlined t calls_a calls_b e = kept_map (calls_by t) without_line calls_a ∙ (e ∙ sym (kept_map (calls_by t) without_line calls_b))

unlined_rising : (calls : List Call) → RiseInTime calls → RiseInTime (map without_line calls)
unlined_rising calls rising = subst IsRising (sym (instants_same calls)) rising

pub no_look_ahead : (a b : Inputs) (run_a run_b : Run) (t : ℕ) → IsSound a.disk.map → IsAccepted a → IsAccepted b → IsFull a run_a
    → IsFull b run_b → t < run_a.end → t < run_b.end → AgreeUpTo t a b → SameKnown t run_a run_b
no_look_ahead a b run_a run_b t sound accepted_a accepted_b full_a full_b long_a long_b agree =
    let is = same_inputs a b agree.disk agree.key in
    let like_a = record b { disk = a.disk; key = a.key } in
    runs_alike t a.disk a.latent b.latent agree.latent a.key a.trace b.trace a.passed_over b.passed_over (map without_line a.calls)
    (map without_line b.calls) a.until b.until (requests a) (requests b) run_a run_b sound
    (list_of a accepted_a) (list_of like_a (subst IsAccepted is accepted_b))
    (unlined_rising a.calls accepted_a.instants) (unlined_rising b.calls accepted_b.instants)
    (unlined_run t a (requests a) run_a (run_of t a run_a full_a))
    (unlined_run t like_a (requests b) run_b (run_of t like_a run_b (subst (λ inputs. IsFull inputs run_b) is full_b)))
    long_a long_b agree.requests (same_unlined t a.calls b.calls agree.calls)
