-- A run is full if each of its steps is as a full run has it, however its rows were made.
use Rattle.fb_model.proofs.Words.{◌≡◌, List, [], ◌∷◌, map, refl, subst, IsSound, Inputs, IsAccepted, Medium, medium_of, fore_rows}
use Rattle.fb_model.proofs.Words.{timeline, IsPossible, decisions, run_end, Past, wanted, Step, decision_in, decisions_in, chosen_past}
use Rattle.fb_model.proofs.Words.{past_after, history, AtEach, task_rows, IsPlanned, IsTested, IsSublist, IsDelivered, Throughout, none}
use Rattle.fb_model.proofs.Words.{taken, IsBestPlanned, IsAllDelivered, IsFull}
use Rattle.fb_model.specs.TheRun.{run_of}
use Rattle.fb_model.proofs.FullRuns.{IsFullStep}
use Rattle.fb_model.proofs.Possible.{possible}
use Rattle.fb_model.proofs.Steps.{best_is_plan}

all_of_itself : {X : Type 0} (xs : List X) → IsSublist xs xs
all_of_itself [] = none
all_of_itself (x ∷ xs) = taken (all_of_itself xs)

module _ (inputs : Inputs) (steps : List Step) (each : AtEach (IsFullStep inputs (medium_of inputs)) inputs [] steps) where
  -- what follows at each step
  each_then : (Q : Past → Step → Type 0) → ((past : Past) (step : Step) → IsFullStep inputs (medium_of inputs) past step → Q past step)
      → (past : Past) (steps : List Step) → AtEach (IsFullStep inputs (medium_of inputs)) inputs past steps → AtEach Q inputs past steps
  each_then Q f past [] each = tt
  each_then Q f past (step ∷ steps) each = (f past step each.0, each_then Q f (past_after inputs past step) steps each.1)

  throughout : (Q : Inputs → Medium → Past → Step → Type 0)
      → ((past : Past) (step : Step) → IsFullStep inputs (medium_of inputs) past step → Q inputs (medium_of inputs) past step)
      → Throughout Q inputs steps
  throughout Q f = each_then (Q inputs (medium_of inputs)) f [] steps each

  planned : Throughout IsPlanned inputs steps
  planned = throughout IsPlanned
      (λ past step full. best_is_plan inputs.disk (wanted (chosen_past inputs past (decision_in step))) step.act full.best)

  tested : Throughout IsTested inputs steps
  tested = throughout IsTested (λ past step full. full.tests)

  pub possible_steps_are_full : decisions_in steps ≡ decisions inputs
      → IsPossible inputs.disk (timeline inputs.disk (run_of inputs steps).back (fore_rows inputs)) (run_end (decisions inputs))
      → IsFull inputs (run_of inputs steps)
  possible_steps_are_full decided possible = record {
    steps = steps;
    sound = record {
      fore = refl;
      passed_over = refl;
      possible = possible;
      end = refl;
      decided = decided;
      tasks = task_rows (history inputs steps);
      back = refl;
      planned = planned;
      deliveries = throughout IsDelivered (λ past step full. subst (IsSublist (map (λ delivery. delivery.got) step.deliveries)) full.all
          (all_of_itself (map (λ delivery. delivery.got) step.deliveries)));
      tested = tested;
      counted = refl;
    };
    best = throughout IsBestPlanned (λ past step full. full.best);
    all = throughout IsAllDelivered (λ past step full. full.all);
  }

  pub steps_are_full : IsSound inputs.disk.map → IsAccepted inputs → decisions_in steps ≡ decisions inputs
      → IsFull inputs (run_of inputs steps)
  steps_are_full sound accepted decided =
      possible_steps_are_full decided (possible inputs steps (history inputs steps) sound accepted decided planned tested)
