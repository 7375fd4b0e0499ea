-- The run that is made decision by decision is the full one.
use Rattle.fb_model.proofs.Words.{◌≡◌, ℕ, zero, suc, ◌+◌, ◌<◌, ◌≤◌, List, [], ◌∷◌, map, refl, ap, ap₂, sym, subst, arith, Track, pos}
use Rattle.fb_model.proofs.Words.{track_at, Disk, passages, media_of, Block, DeliveryRow, Direct, Served, service, finish, last_track}
use Rattle.fb_model.proofs.Words.{first_track, Inputs, Medium, medium_of, IsPlan, Decision, serves, idles, ends, decision_of, decisions}
use Rattle.fb_model.proofs.Words.{Past, wanted, gap_of, Delivery, decisions_in, chosen_past, with_delivery, past_after, AtEach}
use Rattle.fb_model.proofs.Words.{AreFollowed, HasBestPlan, IsFull, timeline, IsPossible, Run, AllByRecursion}
use Rattle.std.specs.Prelude.{Bool}
use Rattle.fb_model.specs.TheRun.{act_at, followed, all_followed, step_at, steps_at, the_steps, the_run, FullRunsExist}
use Rattle.fb_model.proofs.Passages.{LiesOnDisk, requests_lie, from_on}
use Rattle.fb_model.proofs.Chain.{Follow, decisions_follow}
use Rattle.fb_model.proofs.BestPlans.{best_exists}
use Rattle.fb_model.proofs.FullRuns.{IsFullStep, one_full}
use Rattle.fb_model.proofs.FullSteps.{steps_are_full, possible_steps_are_full}

-- ---- the head may always go straight to the target of a request that is served

media_after : (disk : Disk) (head : Track) (now : ℕ) (write : Bool) (lbn n : ℕ) → 0 < n
    → now + pos disk.mechanism head (track_at disk.map lbn) write ≤ media_of (passages disk head now write lbn n)
unfolding passages
media_after disk head now write lbn zero some = absurd (omega arith)
media_after disk head now write lbn (suc n) some = from_on disk lbn (now + pos disk.mechanism head (track_at disk.map lbn) write)

abbrev pub GoesStraight : Disk → Decision → Type 0
GoesStraight disk (serves served) = IsPlan disk (gap_of disk served) (Direct served.start)
GoesStraight disk _ = Unit {0}

goes_straight : (disk : Disk) (head : Track) (now : ℕ) (served : Served) → served ≡ service disk head now served.request
    → LiesOnDisk disk.map served.request → GoesStraight disk (serves served)
goes_straight disk head now served same lies = subst (λ (s : Served). GoesStraight disk (serves s)) (sym same)
    (omega arith, media_after disk head now served.request.write served.request.lbn served.request.count lies.some)

-- ---- a step

best_act : (disk : Disk) (wanted : List Block) (decision : Decision) → GoesStraight disk decision
    → HasBestPlan disk wanted (act_at disk wanted decision)
best_act disk wanted (serves served) straight = best_exists disk (gap_of disk served) wanted straight
best_act disk wanted (idles dwell) straight = tt
best_act disk wanted (ends now) straight = tt

act_decides : (disk : Disk) (wanted : List Block) (decision : Decision) → decision_of (act_at disk wanted decision) ≡ decision
act_decides disk wanted (serves served) = refl
act_decides disk wanted (idles dwell) = refl
act_decides disk wanted (ends now) = refl

are_followed : (medium : Medium) (past : Past) (rows : List DeliveryRow) → AreFollowed medium past (all_followed medium past rows)
are_followed medium past [] = tt
are_followed medium past (row ∷ rows) = (refl, are_followed medium (with_delivery past (followed medium past row)) rows)

gots_are : (medium : Medium) (past : Past) (rows : List DeliveryRow)
    → map (λ (delivery : Delivery). delivery.got) (all_followed medium past rows) ≡ rows
gots_are medium past [] = refl
gots_are medium past (row ∷ rows) = ap (λ rows. row ∷ rows) (gots_are medium (with_delivery past (followed medium past row)) rows)

-- the step at a decision is as a full run has it
full_step : (inputs : Inputs) (past : Past) (decision : Decision) → GoesStraight inputs.disk decision
    → IsFullStep inputs (medium_of inputs) past (step_at inputs (medium_of inputs) past decision)
full_step inputs past (serves served) straight = record {
  tests = record { test = refl; followed = are_followed (medium_of inputs) _ _ };
  best = best_act inputs.disk (wanted (chosen_past inputs past (serves served))) (serves served) straight;
  all = gots_are (medium_of inputs) _ _;
}
full_step inputs past (idles dwell) straight = record {
  tests = record { test = refl; followed = are_followed (medium_of inputs) _ _ };
  best = tt;
  all = gots_are (medium_of inputs) _ _;
}
full_step inputs past (ends now) straight = record {
  tests = record { test = refl; followed = are_followed (medium_of inputs) _ _ };
  best = tt;
  all = gots_are (medium_of inputs) _ _;
}

-- ---- all steps

module _ (inputs : Inputs) where
  abbrev medium : Medium
  medium = medium_of inputs

  abbrev Follows : Track → ℕ → List Decision → Type 0
  Follows head now later = Follow (LiesOnDisk inputs.disk.map) inputs.disk head now later

  decided : (past : Past) (later : List Decision) → decisions_in (steps_at inputs medium past later) ≡ later
  unfolding steps_at
  decided past [] = refl
  decided past (decision ∷ later) = ap₂ (λ d ds. d ∷ ds)
      (act_decides inputs.disk (wanted (chosen_past inputs past decision)) decision)
      (decided (past_after inputs past (step_at inputs medium past decision)) later)

  all_straight : (head : Track) (now : ℕ) (later : List Decision) → Follows head now later
      → AllByRecursion (GoesStraight inputs.disk) later
  all_straight head now [] follow = tt
  all_straight head now (serves served ∷ later) follow =
      (goes_straight inputs.disk head now served follow.0 follow.1, all_straight (last_track inputs.disk served) (finish served) later follow.2)
  all_straight head now (idles dwell ∷ later) follow = (tt, all_straight head dwell.end later follow.3)
  all_straight head now (ends end ∷ later) follow = (tt, all_straight head now later follow.1)

  full_steps : (past : Past) (later : List Decision) → AllByRecursion (GoesStraight inputs.disk) later
      → AtEach (IsFullStep inputs medium) inputs past (steps_at inputs medium past later)
  unfolding steps_at
  full_steps past [] straight = tt
  full_steps past (decision ∷ later) straight =
      (full_step inputs past decision straight.0, full_steps (past_after inputs past (step_at inputs medium past decision)) later straight.1)

-- ---- the run

pub full_runs_exist : FullRunsExist
full_runs_exist inputs sound accepted =
    let follow = (decisions_follow (LiesOnDisk inputs.disk.map) inputs (requests_lie inputs accepted)).0 in
    let straight = all_straight inputs first_track 0 (decisions inputs) follow in
    let full = steps_are_full inputs (the_steps inputs) (full_steps inputs [] (decisions inputs) straight) sound accepted
    (decided inputs [] (decisions inputs)) in
    record { full = full; only = λ other is. one_full inputs other (the_run inputs) accepted is full }

-- a run that was computed is full if the head can go straight to each request, and can go the whole way
pub computed_is_full : (inputs : Inputs) (run : Run) → AllByRecursion (GoesStraight inputs.disk) (decisions inputs)
    → IsPossible inputs.disk (timeline inputs.disk run.back run.fore) run.end → the_run inputs ≡ run → IsFull inputs run
computed_is_full inputs run straight possible same = subst (IsFull inputs) same (possible_steps_are_full inputs (the_steps inputs)
    (full_steps inputs [] (decisions inputs) straight) (decided inputs [] (decisions inputs))
    (subst (λ (run : Run). IsPossible inputs.disk (timeline inputs.disk run.back run.fore) run.end) (sym same) possible))
