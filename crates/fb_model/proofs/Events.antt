-- What each thing that can happen keeps, a run keeps: an induction over choices, calls, deliveries and finished requests.
use Rattle.fb_model.proofs.Words.{◌≡◌, ℕ, zero, suc, List, [], ◌∷◌, length, Bool, true, false, refl, ◌&&◌, not, if◌then◌else◌}
use Rattle.fb_model.proofs.Words.{AllByRecursion, fold, best_of, and_parts, Request, Shape, Call, live_cuts, is_clean, Block, BackRow}
use Rattle.fb_model.proofs.Words.{DeliveryRow, Inputs, Decision, serves, idles, ends, Past, LogSegment, chose, tested, delivered, finished}
use Rattle.fb_model.proofs.Words.{task_numbers, terms_of, work, segments, is_closed, is_better, is_busy, next_blocks, unchosen}
use Rattle.fb_model.proofs.Words.{choose_best, choose_once, choose_up_to, choose_in, with_choices, Delivery, Step, decision_in, take_call}
use Rattle.fb_model.proofs.Words.{chosen_past, tested_past, with_delivery, with_finish, past_after}

-- ---- choices

-- it still holds after a choice that the task can make
abbrev pub ChoiceKeeps : Shape → (Past → Type 0) → ℕ → Past → Type 0
ChoiceKeeps disk P task past = (s : LogSegment) (ss : List LogSegment) → unchosen (work past task) ≡ s ∷ ss → P past
    → P (choose_best disk task past (s ∷ ss))

module _ (P : Past → Type 0) (disk : Shape) (task : ℕ) (keeps : (past : Past) → ChoiceKeeps disk P task past) where
  by_once : (past : Past) → P past → P (choose_once disk task past)
  by_once past h = by_busy (is_busy (work past task)) where
    by_left : (left : List LogSegment) → unchosen (work past task) ≡ left → P (choose_best disk task past left)
    by_left [] are = h
    by_left (s ∷ ss) are = keeps past s ss are h

    by_busy : (busy : Bool) → P (if busy then past else choose_best disk task past (unchosen (work past task)))
    by_busy true = h
    by_busy false = by_left (unchosen (work past task)) refl

  pub by_up_to : (n : ℕ) (past : Past) → P past → P (choose_up_to n disk task past)
  by_up_to zero past h = h
  by_up_to (suc n) past h = by_up_to n (choose_once disk task past) (by_once past h)

-- a task that chooses cleans
module _ (P : Past → Type 0) (disk : Shape) (task : ℕ)
    (keeps : (past : Past) → is_clean (terms_of past task).kind ≡ true → ChoiceKeeps disk P task past) where
  pub by_in : (past : Past) → P past → P (choose_in disk past task)
  by_in past h = by (is_clean (terms_of past task).kind && not (is_closed past task)) refl where
    by : (chooses : Bool) → (is_clean (terms_of past task).kind && not (is_closed past task)) ≡ chooses
        → P (if chooses then choose_up_to (length (segments past task)) disk task past else past)
    by true is = (by_up_to (λ p. P p × (is_clean (terms_of p task).kind ≡ true)) disk task
        (λ p s ss are now. (keeps p now.1 s ss are now.0, now.1)) (length (segments past task)) past
        (h, (and_parts (is_clean (terms_of past task).kind) (not (is_closed past task)) is).0)).0
    by false is = h

module _ (P : Past → Type 0) (disk : Shape)
    (keeps : (past : Past) (task : ℕ) → is_clean (terms_of past task).kind ≡ true → ChoiceKeeps disk P task past) where
  pub by_tasks : (tasks : List ℕ) (past : Past) → P past → P (fold (choose_in disk) past tasks)
  by_tasks [] past h = h
  by_tasks (task ∷ tasks) past h = by_tasks tasks (choose_in disk past task) (by_in P disk task (λ p. keeps p task) past h)

  pub by_choices : (past : Past) → P past → P (with_choices disk past)
  unfolding with_choices
  by_choices past h = by_tasks (task_numbers past) past h

-- whatever is chosen
module _ (P : Past → Type 0) (disk : Shape)
    (keeps : (past : Past) (task : ℕ) (segment : LogSegment) (blocks : List Block) → P past → P (chose task segment blocks ∷ past)) where
  chosen_keeps : (past : Past) (task : ℕ) → is_clean (terms_of past task).kind ≡ true → ChoiceKeeps disk P task past
  chosen_keeps past task cleans s ss are h =
      let best = best_of is_better s ss in
      keeps past task best (next_blocks past task (live_cuts disk (terms_of past task).block best.first best.live)) h

  pub by_task : (task : ℕ) (past : Past) → P past → P (choose_in disk past task)
  by_task task past h = by_in P disk task (λ p. chosen_keeps p task) past h

  pub by_all : (past : Past) → P past → P (with_choices disk past)
  by_all past h = by_choices P disk chosen_keeps past h

-- ---- calls

pub by_calls : (P : Past → Type 0) (disk : Shape) → ((past : Past) (call : Call) → P past → P (take_call disk past call))
    → (calls : List Call) (past : Past) → P past → P (fold (take_call disk) past calls)
by_calls P disk keeps [] past h = h
by_calls P disk keeps (call ∷ calls) past h = by_calls P disk keeps calls (take_call disk past call) (keeps past call h)

-- ---- what follows in a step: its test, its deliveries, and the finish of what it serves

module _ (P : Past → Type 0) (D : DeliveryRow → Type 0) (test : (past : Past) (rows : List BackRow) → P past → P (tested rows ∷ past))
    (delivery : (past : Past) (row : DeliveryRow) → D row → P past → P (delivered row ∷ past))
    (finish : (past : Past) (request : Request) → P past → P (finished request ∷ past)) where
  by_deliveries : (deliveries : List Delivery) (past : Past) → AllByRecursion (λ (d : Delivery). D d.got) deliveries → P past
      → P (fold with_delivery past deliveries)
  by_deliveries [] past each h = h
  by_deliveries (d ∷ ds) past each h =
      by_deliveries ds (with_delivery past d) each.1 (test (delivered d.got ∷ past) d.after (delivery past d.got each.0 h))

  by_finish : (past : Past) (decision : Decision) → P past → P (with_finish past decision)
  by_finish past (serves served) h = finish past served.request h
  by_finish past (idles dwell) h = h
  by_finish past (ends now) h = h

  pub by_step : (inputs : Inputs) (past : Past) (step : Step) → AllByRecursion (λ (d : Delivery). D d.got) step.deliveries
      → P (chosen_past inputs past (decision_in step)) → P (past_after inputs past step)
  unfolding past_after
  by_step inputs past step each h = by_finish (fold with_delivery (tested_past inputs past step) step.deliveries) (decision_in step)
      (by_deliveries step.deliveries (tested_past inputs past step) each (test (chosen_past inputs past (decision_in step)) step.test h))
