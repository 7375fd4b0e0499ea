-- The rows of decisions, and that a run whose decisions have all been made is full.
use Rattle.fb_decide.proofs.Words.{◌≡◌, List, [], ◌∷◌, ◌++◌, map, ap, sym, subst, ◌∙◌, true, false, refl, append-nil, flat_map, map-append}
use Rattle.fb_decide.proofs.Words.{flat_map-append, all_any, ForeRow, BackRow, Inputs, requests, Medium, medium_of, fore_row, Decision}
use Rattle.fb_decide.proofs.Words.{serves, idles, ends, decisions, run_end, Past, Step, decision_in, decisions_in, past_after, step_rows}
use Rattle.fb_decide.proofs.Words.{task_rows, history, IsMade, fore_row_of, rest_of, decisions_by}
use Rattle.fb_rows.specs.declared.run.Run.{Run}
use Rattle.fb_model.specs.Content.{fore_rows}
use Rattle.fb_model.specs.Steps.{AtEach}
use Rattle.fb_model.specs.FullRun.{IsFull}
use Rattle.fb_model.proofs.Chain.{services, decisions_follow}
use Rattle.fb_model.proofs.FullRuns.{IsFullStep}
use Rattle.fb_model.proofs.FullSteps.{steps_are_full}
use Rattle.fb_model.proofs.Steps.{AtEach-append}
use Rattle.fb_decide.specs.FullRuns.{RowsGoOn, ForeRowsBegin, ForeRowsEnd, RowsAreFull}

-- ---- the rows of decisions, and that a run whose decisions have all been made is full

one_more : {X Y : Type 0} (f : X → List Y) (xs : List X) (x : X) (ys : List Y) → ys ≡ flat_map f xs → ys ++ f x ≡ flat_map f (xs ++ x ∷ [])
one_more f xs x ys before =
    ap (λ rows. rows ++ f x) before ∙ (ap (λ rows. flat_map f xs ++ rows) (sym (append-nil (f x))) ∙ sym (flat_map-append f xs (x ∷ [])))

pub rows_go_on : RowsGoOn
rows_go_on inputs steps step fore back rows made = record {
  each = AtEach-append (IsMade inputs) inputs [] steps (step ∷ []) rows.each (made, tt);
  fore_so_far = one_more (fore_row_of (medium_of inputs)) (decisions_in steps) (decision_in step) fore rows.fore_so_far
      ∙ ap (flat_map (fore_row_of (medium_of inputs))) (sym (map-append decision_in steps (step ∷ [])));
  back_so_far = one_more (step_rows inputs.disk) steps step back rows.back_so_far;
}

-- ---- the foreground rows

-- the rows of decisions are those of their services
served_rows : (medium : Medium) (decisions : List Decision)
    → flat_map (fore_row_of medium) decisions ≡ map (fore_row medium) (services decisions)
served_rows medium [] = refl
served_rows medium (serves served ∷ later) = ap (λ rows. fore_row medium served ∷ rows) (served_rows medium later)
served_rows medium (idles dwell ∷ later) = served_rows medium later
served_rows medium (ends now ∷ later) = served_rows medium later

-- those of a run's decisions are the plain replay's
rows_of_all : (inputs : Inputs) → flat_map (fore_row_of (medium_of inputs)) (decisions inputs) ≡ fore_rows inputs
unfolding fore_rows
rows_of_all inputs = served_rows (medium_of inputs) (decisions inputs) ∙ ap (map (fore_row (medium_of inputs)))
    (decisions_follow (λ r. Unit {0}) inputs (all_any (λ r. Unit {0}) (λ r. tt) (requests inputs))).1

pub fore_rows_end : ForeRowsEnd
fore_rows_end inputs steps state fore back made rows =
    rows.fore_so_far ∙ (ap (flat_map (fore_row_of (medium_of inputs))) made.come_to.decided ∙ rows_of_all inputs)

pub fore_rows_begin : ForeRowsBegin
fore_rows_begin inputs true steps state fore back made rows =
    let later = decisions_by inputs state.course (rest_of inputs state) in (
      flat_map (fore_row_of (medium_of inputs)) later,
      ap (λ fore. fore ++ flat_map (fore_row_of (medium_of inputs)) later) rows.fore_so_far
          ∙ (sym (flat_map-append (fore_row_of (medium_of inputs)) (decisions_in steps) later)
          ∙ (ap (flat_map (fore_row_of (medium_of inputs))) made.come_to.decided ∙ rows_of_all inputs)),
    )
fore_rows_begin inputs false steps state fore back made rows =
    ([], append-nil fore ∙ fore_rows_end inputs steps state fore back made rows)

-- ---- a run that has ended

-- steps that have been made are a full run's
full_steps : (inputs : Inputs) (past : Past) (steps : List Step) → AtEach (IsMade inputs) inputs past steps
    → AtEach (IsFullStep inputs (medium_of inputs)) inputs past steps
full_steps inputs past [] each = tt
full_steps inputs past (step ∷ steps) each = (
  record { tests = each.0.tested; best = each.0.best; all = each.0.all },
  full_steps inputs (past_after inputs past step) steps each.1,
)

pub rows_are_full : RowsAreFull
rows_are_full inputs steps state fore back made rows =
    let run : List ForeRow → List BackRow → Run = λ fore back. record {
      fore = fore;
      back = back ++ task_rows (history inputs steps);
      passed_over = inputs.passed_over;
      end = run_end (decisions inputs);
    } in
    subst (λ fore. IsFull inputs (run fore back)) (sym (fore_rows_end inputs steps state fore back made rows))
    (subst (λ back. IsFull inputs (run (fore_rows inputs) back)) (sym rows.back_so_far)
    (steps_are_full inputs steps (full_steps inputs [] steps rows.each) made.known.sound made.known.accepted made.come_to.decided))
