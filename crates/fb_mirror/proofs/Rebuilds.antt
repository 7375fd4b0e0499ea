-- A rebuild that was sealed has covered every sector of the disk.
use Rattle.fb_mirror.proofs.Words.{◌≡◌, ℕ, ◌+◌, ◌<◌, ◌≤◌, List, [], ◌∷◌, length, Option, Some, None, Bool, true, false, cond, refl, ap}
use Rattle.fb_mirror.proofs.Words.{sym, subst, ◌∙◌, arith, inl, inr, filter, is_some, nat_lt, AllByRecursion, flat_map, range_with_len}
use Rattle.fb_mirror.proofs.Words.{option_map, unwrap_or, true≢false, filter-append, length-range_with_len, same_Some, none-some, Among}
use Rattle.fb_mirror.proofs.Words.{all_weaker, all_any, all_both, by_is, IsSound, Cut, cutting, Content, Unreadable, runs_of, sectors_of}
use Rattle.fb_mirror.proofs.Words.{is_within, inside, sectors_of-runs_of, taken_block, Block, BackRow, Got, Seal, DeliveryRow, Run, Inputs}
use Rattle.fb_mirror.proofs.Words.{served, IsAccepted, Medium, content, contents_at, medium_of, decisions, end_of, instant_of, instants_of}
use Rattle.fb_mirror.proofs.Words.{IsFull, Past, delivered, is_open_backup, tested, wanted, is_complete, ForegroundListsAscend}
use Rattle.fb_mirror.proofs.Words.{OnePlainReplay, Served, first_track, numbered, IsDelivered, IsPlanned, IsTested, AtEach, Step}
use Rattle.fb_mirror.proofs.Words.{decision_in, decisions_in, step_rows, past_after, chosen_past, HasBytes, IsDueRow, due_block}
use Rattle.fb_mirror.proofs.Words.{delivery_true, HasSector, Event, decided, deliveries_in, events, given, held_after, later, sealed_in}
use Rattle.fb_mirror.proofs.Words.{writes_in, rebuild_calls, IsAtRest, events_by, sectors, survives}
use Rattle.fb_units.proofs.Lists.{all_range}
use Rattle.fb_units.proofs.Alike.{same_map_where}
use Rattle.fb_units.proofs.Filtered.{all_kept}
use Rattle.fb_model.specs.FullRun.{IsAllDelivered}
use Rattle.fb_mirror.specs.Survivor.{CoveredSectorsAreTheSurvivors, CoveredSectorsAreTheSurvivorsAtRest, IsWhole}
use Rattle.fb_mirror.proofs.AtRest.{by_then}
use Rattle.fb_mirror.proofs.Between.{IsPlaced, decisions_placed, due_quiet, quiet_until}
use Rattle.fb_mirror.proofs.CutCover.{HoldsIn, cuts_hold}
use Rattle.fb_mirror.proofs.Ordered.{AreInTurn, NoEarlier, decisions_in_turn, due_ascends}
use Rattle.fb_mirror.proofs.RebuildPast.{IsRebuilding, IsUnderWay, after_rebuilds, complete_delivered, disk_blocks, disk_ones}
use Rattle.fb_mirror.proofs.RebuildPast.{disk_some, rebuilding_more, rebuilding_weaker, chosen_rebuilds, wanted_have}
use Rattle.fb_mirror.proofs.RunRows.{AreLinked, IsKept, NoFact, RowsFit, back_fits, gots, gots_of_back, step_fits, rows_weaker}
use Rattle.fb_mirror.proofs.Survival.{IsFoundIn, back_found, decided-append, event_of}
use Rattle.fb_mirror.proofs.Writing.{are_served, medium_with}

-- ---- what deliveries cover

-- of the events of these rows those that a test keeps
abbrev kept_in : (Event → Bool) → List BackRow → List Event
kept_in keep rows = filter keep (flat_map deliveries_in rows)

-- a delivery that is kept covers its sectors
abbrev CoversIn : (Event → Bool) → List BackRow → DeliveryRow → Type 0
CoversIn keep rows row = keep (event_of row) ≡ true → (lbn : ℕ) → is_within row.block.lbn row.block.count lbn ≡ true
    → is_some (decided lbn (kept_in keep rows)) ≡ true

some_first : (a : ℕ × Content) (b : Option (ℕ × Content)) → is_some (later (Some a) b) ≡ true
some_first a None = refl
some_first a (Some b) = by (nat_lt b.0 a.0)
  where
    by : (c : Bool) → is_some (cond c (Some a) (Some b)) ≡ true
    by true = refl
    by false = refl

some_behind : (a b : Option (ℕ × Content)) → is_some b ≡ true → is_some (later a b) ≡ true
some_behind a None h = absurd (true≢false (sym h))
some_behind None (Some b) h = refl
some_behind (Some a) (Some b) h = some_first a (Some b)

-- a row with bytes
abbrev HasItsBytes : DeliveryRow → Type 0
HasItsBytes row = (medium : Medium) × HasBytes (contents_at medium) row

row_covers : (keep : Event → Bool) (row : DeliveryRow) (rows : List BackRow) → HasItsBytes row → CoversIn keep (Got row ∷ rows) row
row_covers keep row rows has is_kept lbn within =
    let medium = has.0 in
    let held = λ (l : ℕ). content medium l row.begin in
    let value = taken_block held row.block.lbn row.block.count lbn (sectors_of row.content) None
    (ap sectors_of has.1.content ∙ sectors_of-runs_of (contents_at medium row.block.lbn row.block.count row.begin)) in
    let behind = kept_in keep rows in
    ap (λ b. is_some (decided lbn (cond b (event_of row ∷ behind) behind))) is_kept
    ∙ ap (λ o. is_some (later (option_map (λ c. (row.end, c)) o) (decided lbn behind)))
    (value ∙ ap (λ b. cond b (Some (held lbn)) None) within)
    ∙ some_first (row.end, held lbn) (decided lbn behind)

still_covered : (lbn : ℕ) (event : Event) (events : List Event) (is_kept : Bool) → is_some (decided lbn events) ≡ true
    → is_some (decided lbn (cond is_kept (event ∷ events) events)) ≡ true
still_covered lbn event events true covered = some_behind (given lbn event) (decided lbn events) covered
still_covered lbn event events false covered = covered

all_cover : (keep : Event → Bool) (rows : List BackRow) → RowsFit HasItsBytes NoFact rows → RowsFit (CoversIn keep rows) NoFact rows
all_cover keep [] fit = tt
all_cover keep (Got row ∷ rows) fit = (
  row_covers keep row rows fit.0,
  rows_weaker (CoversIn keep rows) (CoversIn keep (Got row ∷ rows)) NoFact (λ other covers is_kept lbn within.
      still_covered lbn (event_of row) (kept_in keep rows) (keep (event_of row)) (covers is_kept lbn within))
      rows (all_cover keep rows fit.1),
)
all_cover keep (_ ∷ rows) fit = (tt, all_cover keep rows fit.1)

-- where there is a seal there is the fact that comes with it
sealed_fact : (P : DeliveryRow → Type 0) (C : ℕ → Type 0) (rows : List BackRow) (sealed : ℕ) → RowsFit P C rows
    → sealed_in rows ≡ Some sealed → C sealed
sealed_fact P C [] sealed fit is = absurd (none-some sealed is)
sealed_fact P C (Seal row ∷ rows) sealed fit is = subst C (same_Some row.instant sealed is) fit.0
sealed_fact P C (_ ∷ rows) sealed fit is = sealed_fact P C rows sealed fit.1 is

-- ---- decision by decision

-- the deliveries that a test keeps, among them all up to an instant
module _ (inputs : Inputs) (replay : List Served) (rows : List BackRow) (calls : inputs.calls ≡ rebuild_calls inputs.disk.map)
    (keep : Event → Bool) (limit : ℕ) (keeps : (row : DeliveryRow) → row.end ≤ limit → keep (event_of row) ≡ true) where
  abbrev survivor : Medium
  survivor = medium_with inputs.disk inputs.latent replay

  -- a delivery of one of the disk's blocks, which covers it
  abbrev IsCopied : DeliveryRow → Type 0
  IsCopied row = Among (disk_blocks inputs.disk.map) row.block × CoversIn keep rows row

  -- by then
  abbrev IsCopiedBy : ℕ → DeliveryRow → Type 0
  IsCopiedBy now row = Among (disk_blocks inputs.disk.map) row.block × CoversIn keep rows row × (row.end ≤ now)

  copied_later : (now next : ℕ) → now ≤ next → (row : DeliveryRow) → IsCopiedBy now row → IsCopiedBy next row
  copied_later now next order row copied = (copied.0, copied.1, omega (arith, copied.2, order))

  abbrev IsCovered : ℕ → Type 0
  IsCovered lbn = is_some (decided lbn (kept_in keep rows)) ≡ true

  -- a seal by the limit comes with the fact that all sectors are covered
  abbrev AreAllCovered : ℕ → Type 0
  AreAllCovered sealed = sealed ≤ limit → (lbn : ℕ) → lbn < sectors inputs → IsCovered lbn

  cuts_of : (task weight n : ℕ) (cuts : List Cut) → AllByRecursion (λ (block : Block). (lbn : ℕ)
      → is_within block.lbn block.count lbn ≡ true → IsCovered lbn) (numbered task weight n cuts) → AllByRecursion (HoldsIn IsCovered) cuts
  cuts_of task weight n [] all = tt
  cuts_of task weight n (cut ∷ cuts) all =
      (λ lbn from to. all.0 lbn (inside cut.lbn cut.count lbn from to), cuts_of task weight (n + 1) cuts all.1)

  abbrev IsRebuiltBy : ℕ → Past → Type 0
  IsRebuiltBy now past = IsRebuilding (IsCopiedBy now) inputs.disk.map past

  sealed_covers : (now : ℕ) (past : Past) (task : ℕ) → IsRebuiltBy now past → is_open_backup past task ≡ true → is_complete past task ≡ true
      → AreAllCovered now
  sealed_covers now past task is unsealed done early lbn less =
      cuts_hold IsCovered inputs.disk.map 16 0 (sectors inputs)
      (cuts_of 0 1 0 (cutting inputs.disk.map 16 0 (sectors inputs))
      (all_weaker (λ (block : Block). (row : DeliveryRow) × IsCopiedBy now row × (row.block ≡ block))
      (λ (block : Block). (lbn : ℕ) → is_within block.lbn block.count lbn ≡ true → IsCovered lbn)
      (λ block copied lbn within.
      copied.1.1 (keeps copied.0 (let over = copied.1.2 in omega arith)) lbn
      (ap (λ (b : Block). is_within b.lbn b.count lbn) copied.2 ∙ within)) (disk_blocks inputs.disk.map)
      (complete_delivered (IsCopiedBy now) inputs.disk.map past task (λ row copied. copied.0) is unsealed done)))
      lbn (omega arith) (omega arith)

  rebuild_kept : IsKept IsCopied AreAllCovered IsRebuiltBy NoEarlier
  rebuild_kept = record {
    seals = sealed_covers;
    delivers = λ now past row is copied order. rebuilding_more (IsCopiedBy row.end) inputs.disk.map past (delivered row)
        (rebuilding_weaker (IsCopiedBy now) (IsCopiedBy row.end) inputs.disk.map past (copied_later now row.end order) is)
        (copied.0, copied.1, omega arith);
    tests = λ now past rows is. rebuilding_more (IsCopiedBy now) inputs.disk.map past (tested rows) is tt;
  }

  -- nothing has happened, or the blocks that were delivered were copied by then
  abbrev HasComeTo : ℕ → Past → Type 0
  HasComeTo now past = IsUnderWay (IsCopiedBy now) inputs calls past

  come_later : (now next : ℕ) (past : Past) → now ≤ next → HasComeTo now past → HasComeTo next past
  come_later now next past order (inl none) = inl none
  come_later now next past order (inr is) =
      inr (rebuilding_weaker (IsCopiedBy now) (IsCopiedBy next) inputs.disk.map past (copied_later now next order) is)

  module _ (past : Past) (step : Step) (come : HasComeTo (instant_of (decision_in step)) past)
      (placed : IsPlaced inputs.disk 0 replay (decision_in step)) (planned : IsPlanned inputs survivor past step)
      (some : IsDelivered inputs survivor past step) where
    chosen_then : IsRebuiltBy (instant_of (decision_in step)) (chosen_past inputs past (decision_in step))
    chosen_then = chosen_rebuilds (IsCopiedBy (instant_of (decision_in step))) inputs calls past (decision_in step) come

    wanted_some : AllByRecursion HasSector (wanted (chosen_past inputs past (decision_in step)))
    wanted_some = wanted_have (IsCopiedBy (instant_of (decision_in step))) inputs.disk.map (chosen_past inputs past
        (decision_in step)) HasSector chosen_then (disk_some inputs.disk.map)

    got_copied : AllByRecursion (CoversIn keep rows) (gots step) → AllByRecursion IsCopied (gots step)
    got_copied cover =
        let One = Among (disk_blocks inputs.disk.map) in
        let due = delivery_true inputs survivor past step One some (wanted_have (IsCopiedBy (instant_of (decision_in step))) inputs.disk.map
        (chosen_past inputs past (decision_in step)) One chosen_then (disk_ones inputs.disk.map)) in
        all_both (λ row. One row.block) (CoversIn keep rows) (gots step)
        (all_weaker (IsDueRow survivor.disk (contents_at survivor) step.act One) (λ row. One row.block)
        (λ row due_row. due_block survivor.disk (contents_at survivor) step.act One row due_row) (gots step) due) cover

    got_by : (bound : ℕ) → quiet_until (decision_in step) ≤ bound → AllByRecursion (λ (row : DeliveryRow). row.end ≤ bound) (gots step)
    got_by bound order =
        all_weaker (IsDueRow survivor.disk (contents_at survivor) step.act HasSector) (λ (row : DeliveryRow). row.end ≤ bound)
        (λ row due_row. let over = (due_quiet survivor step.act HasSector placed.of_disk planned row
        (due_block survivor.disk (contents_at survivor) step.act HasSector row due_row) due_row).ends in omega arith)
        (gots step) (delivery_true inputs survivor past step HasSector some wanted_some)

    got_linked : IsAllDelivered inputs survivor past step → AreLinked NoEarlier (instant_of (decision_in step)) (gots step)
    got_linked all = subst (AreLinked NoEarlier (instant_of (decision_in step))) (sym all) (due_ascends survivor step.act
        (wanted (chosen_past inputs past (decision_in step))) placed.of_disk planned wanted_some)

  abbrev Copies : Past → List Step → Type 0
  Copies past steps = AtEach (λ past step. RowsFit IsCopied AreAllCovered (step_rows inputs.disk step)) inputs past steps

  steps_copied : (now : ℕ) (past : Past) (steps : List Step) → HasComeTo now past → AreInTurn now (decisions_in steps)
      → AllByRecursion (IsPlaced inputs.disk 0 replay) (decisions_in steps) → AtEach (IsPlanned inputs survivor) inputs past steps
      → AtEach (IsDelivered inputs survivor) inputs past steps → AtEach (IsAllDelivered inputs survivor) inputs past steps
      → AtEach (IsTested inputs survivor) inputs past steps
      → AtEach (λ past step. AllByRecursion (CoversIn keep rows) (gots step)) inputs past steps → Copies past steps
  steps_copied now past [] come turns placed planned some all tests cover = tt
  steps_copied now past (step ∷ steps) come turns placed planned some all tests cover =
      let d = decision_in step in
      let here = come_later now (instant_of d) past turns.0 come in
      let copied = got_copied past step here placed.0 planned.0 some.0 cover.0 in
      let over = got_by past step here placed.0 planned.0 some.0 (end_of d) turns.2 in
      let after = come_later (instant_of d) (end_of d) past (omega (arith, turns.1, turns.2)) here in
      let copied_by =
      all_weaker (λ row. IsCopied row × (row.end ≤ end_of d)) (IsCopiedBy (end_of d)) (λ row both. (both.0.0, both.0.1, both.1)) (gots step)
      (all_both IsCopied (λ (row : DeliveryRow). row.end ≤ end_of d) (gots step) copied over) in (
        step_fits IsCopied AreAllCovered IsRebuiltBy NoEarlier rebuild_kept inputs survivor past step (chosen_then past step here placed.0
            planned.0 some.0) tests.0 copied (got_linked past step here placed.0 planned.0 some.0 all.0),
        steps_copied (end_of d) (past_after inputs past step) steps
            (inr (after_rebuilds (IsCopiedBy (end_of d)) inputs calls past step after copied_by)) turns.3 placed.1 planned.1 some.1 all.1
            tests.1 cover.1,
      )

-- ---- the law

module _ (ascend : ForegroundListsAscend) (one : OnePlainReplay) (inputs : Inputs) (run : Run) (sealed : ℕ)
    (sound : IsSound inputs.disk.map) (accepted : IsAccepted inputs) (full : IsFull inputs run)
    (calls : inputs.calls ≡ rebuild_calls inputs.disk.map) (is : sealed_in run.back ≡ Some sealed) where
  -- every sector of the disk was delivered
  all_covered : (keep : Event → Bool) (limit : ℕ) → ((row : DeliveryRow) → row.end ≤ limit → keep (event_of row) ≡ true) → sealed ≤ limit
      → (lbn : ℕ) → lbn < sectors inputs
      → is_some (decided lbn (filter keep (flat_map deliveries_in run.back))) ≡ true
  unfolding decisions medium_of
  all_covered keep limit keeps early =
      let are = are_served inputs accepted ascend one in
      let replay = served inputs in
      let bytes = rows_weaker (IsFoundIn inputs) HasItsBytes NoFact
      (λ row found. (medium_with inputs.disk inputs.latent replay, found.bytes)) run.back (back_found inputs run sound are full) in
      let covers = gots_of_back (CoversIn keep run.back) NoFact inputs run full.steps full.sound (all_cover keep run.back bytes) in
      let fits = back_fits (IsCopied inputs replay run.back calls keep limit keeps) (AreAllCovered inputs replay run.back calls keep limit
      keeps) inputs run full.steps full.sound
      (steps_copied inputs replay run.back calls keep limit keeps 0 [] full.steps (inl refl) (subst (AreInTurn 0) (sym full.sound.decided)
      (decisions_in_turn inputs.disk (instants_of inputs) inputs.until first_track 0 replay are))
      (subst (AllByRecursion (IsPlaced inputs.disk 0 replay)) (sym full.sound.decided)
      (decisions_placed inputs.disk sound (instants_of inputs) inputs.until first_track 0 replay are)) full.sound.planned
      full.sound.deliveries full.all full.sound.tested covers) in
      sealed_fact (IsCopied inputs replay run.back calls keep limit keeps)
      (AreAllCovered inputs replay run.back calls keep limit keeps) run.back sealed fits is early

some_held : (o : Option (ℕ × Content)) → is_some o ≡ true → (held : Content) × (option_map (λ last. last.1) o ≡ Some held)
some_held None h = absurd (true≢false (sym h))
some_held (Some last) h = (last.1, refl)

-- where a delivery that is kept covers a sector, it holds something after the events that are kept
kept_held : (keep : Event → Bool) (run : Run) (lbn : ℕ) → is_some (decided lbn (filter keep (flat_map deliveries_in run.back))) ≡ true
    → (held : Content) × (held_after (filter keep (events run)) lbn ≡ Some held)
kept_held keep run lbn got =
    let writes = filter keep (flat_map writes_in run.fore) in
    let gots = filter keep (flat_map deliveries_in run.back) in
    let split = filter-append keep (flat_map writes_in run.fore) (flat_map deliveries_in run.back) in
    some_held (decided lbn (filter keep (events run)))
    (ap (λ es. is_some (decided lbn es)) split ∙ ap is_some (decided-append lbn writes gots)
    ∙ some_behind (decided lbn writes) (decided lbn gots) got)

module _ (ascend : ForegroundListsAscend) (one : OnePlainReplay) where
  pub sealed_stays : CoveredSectorsAreTheSurvivorsAtRest → (inputs : Inputs) (run : Run) (sealed t : ℕ) → IsSound inputs.disk.map
      → IsAccepted inputs → IsFull inputs run → inputs.calls ≡ rebuild_calls inputs.disk.map
      → sealed_in run.back ≡ Some sealed → sealed ≤ t → IsAtRest t run → (lbn : ℕ) → lbn < sectors inputs
      → held_after (events_by t run) lbn ≡ Some (content (medium_of inputs) lbn t)
  sealed_stays survive inputs run sealed t sound accepted full calls is early rests lbn less =
      let got =
      all_covered ascend one inputs run sealed sound accepted full calls is (by_then t) t (λ row by. by_is row.end t by) early lbn less in
      let held = kept_held (by_then t) run lbn got in
      held.1 ∙ ap Some (survive inputs run t lbn held.0 sound accepted full rests held.1)

  pub sealed_whole : CoveredSectorsAreTheSurvivors → (inputs : Inputs) (run : Run) (sealed : ℕ) → IsSound inputs.disk.map
      → IsAccepted inputs → IsFull inputs run → inputs.calls ≡ rebuild_calls inputs.disk.map
      → sealed_in run.back ≡ Some sealed → IsWhole inputs run
  sealed_whole survive inputs run sealed sound accepted full calls is =
      let count = sectors inputs in
      let all =
      all_range (λ lbn. held_after (events run) lbn ≡ Some (survives inputs run lbn)) 0 count (λ lbn from to. each lbn (omega arith)) in
      record {
        each = each;
        covered = ap length (all_kept (λ lbn. is_some (held_after (events run) lbn)) (range_with_len 0 count)
            (all_weaker (λ lbn. held_after (events run) lbn ≡ Some (survives inputs run lbn))
            (λ lbn. is_some (held_after (events run) lbn) ≡ true) (λ lbn is. ap is_some is) (range_with_len 0 count) all))
            ∙ length-range_with_len 0 count;
        content = ap runs_of (same_map_where (λ lbn. held_after (events run) lbn ≡ Some (survives inputs run lbn))
            (λ lbn. (lbn, unwrap_or (held_after (events run) lbn) Unreadable)) (λ lbn. (lbn, survives inputs run lbn))
            (λ lbn is. ap (λ o. (lbn, unwrap_or o Unreadable)) is) (range_with_len 0 count) all);
      }
    where
      each : (lbn : ℕ) → lbn < sectors inputs → held_after (events run) lbn ≡ Some (survives inputs run lbn)
      each lbn less =
          let got = all_covered ascend one inputs run sealed sound accepted full calls is (λ event. true) sealed (λ row by. refl)
          (omega arith) lbn less in
          let held = kept_held (λ event. true) run lbn got in
          let whole = all_kept (λ event. true) (events run) (all_any _ (λ _. refl) (events run)) in
          let holds = sym (ap (λ es. held_after es lbn) whole) ∙ held.1 in
          holds ∙ ap Some (survive inputs run lbn held.0 sound accepted full holds)
