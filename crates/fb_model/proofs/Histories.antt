-- What holds of the history of accepted inputs: the rules of its calls, and what each thing that can happen keeps.
use Rattle.fb_model.proofs.Words.{◌≡◌, ℕ, List, [], ◌∷◌, ◌++◌, length, append-nil, true, drop, refl, ap, sym, subst, ◌∙◌, AllByRecursion}
use Rattle.fb_model.proofs.Words.{best_of, fold, Request, all_any, all_append, Shape, Action, Open, Call, AreAllowed, MayAsk, Terms}
use Rattle.fb_model.proofs.Words.{is_clean, BackRow, DeliveryRow, Inputs, Decision, instant_of, Past, called, tested, delivered, finished}
use Rattle.fb_model.proofs.Words.{calls_of, opened_by, registered, tasks, terms_of, is_better, Delivery, Step, decision_in, blocks_by}
use Rattle.fb_model.proofs.Words.{take_call, calls_left, calls_due, chosen_past, past_after}
use Rattle.std.proofs.Common.{length-append}
use Rattle.std.proofs.lemmas.List.{drop-drop}
use Rattle.std.proofs.lemmas.List.Concat.{flat_map-append}
use Rattle.fb_script.specs.Allowed as allowed
use Rattle.fb_script.specs.Allowed.{terms_in}
use Rattle.fb_model.proofs.HistoriesUpTo.{HasSector, RiseInTime, due_first, called_sectors, chosen_sectors}
use Rattle.fb_model.proofs.Events.{ChoiceKeeps, by_choices, by_step}

-- ---- its tasks are those that its calls open

-- those before a call, and what it opens
pub opened_more : (action : Action) (before : List Terms) → before ++ terms_in action ≡ opened_by action before
opened_more (Open kind weight block) before = refl
opened_more _ before = append-nil before

pub opened_same : (past : Past) → allowed.tasks (calls_of past) ≡ tasks past
opened_same [] = refl
opened_same (called call blocks ∷ past) = flat_map-append (λ (call : Call). terms_in call.action) (calls_of past) (call ∷ [])
    ∙ rw (append-nil (terms_in call.action), opened_same past) (opened_more call.action (tasks past))
opened_same (_ ∷ past) = opened_same past

-- ---- what each thing that can happen keeps

-- whatever can happen next, it still holds
pub record EventsKeep (disk : Shape) (P : Past → Type 0) : Type 0 where
  pub call : (past : Past) (call : Call) → MayAsk disk (calls_of past) call.task call.action → P past → P (take_call disk past call)
  pub choice : (past : Past) (task : ℕ) → is_clean (terms_of past task).kind ≡ true → ChoiceKeeps disk P task past
  pub test : (past : Past) (rows : List BackRow) → P past → P (tested rows ∷ past)
  pub delivery : (past : Past) (row : DeliveryRow) → P past → P (delivered row ∷ past)
  pub finish : (past : Past) (request : Request) → P past → P (finished request ∷ past)

-- it holds so far, each registered block has a sector, and the calls that are left obey their rules
abbrev pub HoldsSoFar : Inputs → (Past → Type 0) → Past → Type 0
HoldsSoFar inputs P past =
    AreAllowed inputs.disk.map (calls_of past) (calls_left inputs.calls past) × AllByRecursion HasSector (registered past) × P past

module _ (inputs : Inputs) (P : Past → Type 0) (keeps : EventsKeep inputs.disk.map P) where
  calls_hold : (due rest : List Call) (past : Past) → calls_left inputs.calls past ≡ due ++ rest → HoldsSoFar inputs P past
      → HoldsSoFar inputs P (fold (take_call inputs.disk.map) past due)
  calls_hold [] rest past next h = h
  calls_hold (call ∷ due) rest past next h =
      let may = subst (AreAllowed inputs.disk.map (calls_of past)) next h.0 in
      let left : calls_left inputs.calls (take_call inputs.disk.map past call) ≡ due ++ rest =
      ap (λ n. drop n inputs.calls) (length-append (calls_of past) (call ∷ []))
      ∙ (sym (drop-drop 1 (length (calls_of past)) inputs.calls) ∙ ap (drop 1) next) in
      let blocks = blocks_by inputs.disk.map past call.task call.action in
      calls_hold due rest (take_call inputs.disk.map past call) left (
        subst (AreAllowed inputs.disk.map (calls_of past ++ call ∷ [])) (sym left) may.2,
        all_append HasSector (registered past) blocks h.1 (called_sectors inputs.disk.map past call.task call.action),
        keeps.call past call may.1 h.2,
      )

  pub chosen_holds : RiseInTime inputs.calls → (past : Past) (decision : Decision) → HoldsSoFar inputs P past
      → HoldsSoFar inputs P (chosen_past inputs past decision)
  unfolding chosen_past
  chosen_holds rising past decision h =
      let due = calls_due inputs.calls past (instant_of decision) in
      let rest = due_first inputs.calls past (instant_of decision) rising in
      by_choices (HoldsSoFar inputs P) inputs.disk.map (λ p task cleans s ss are now. (
        now.0,
        all_append HasSector (registered p) _ now.1 (chosen_sectors inputs.disk.map p task (best_of is_better s ss)),
        keeps.choice p task cleans s ss are now.2,
      )) (fold (take_call inputs.disk.map) past due) (calls_hold due rest.0 past rest.1 h)

  pub after_holds : (past : Past) (step : Step) → HoldsSoFar inputs P (chosen_past inputs past (decision_in step))
      → HoldsSoFar inputs P (past_after inputs past step)
  after_holds past step h = by_step (HoldsSoFar inputs P) (λ row. Unit {0}) (λ p rows now. (now.0, now.1, keeps.test p rows now.2))
      (λ p row any now. (now.0, now.1, keeps.delivery p row now.2)) (λ p request now. (now.0, now.1, keeps.finish p request now.2)) inputs past step
      (all_any (λ (d : Delivery). Unit {0}) (λ d. tt) step.deliveries) h
