-- A run's steps, one after another, and what a step is by its decision.
use Rattle.fb_model.proofs.Words.{◌≡◌, List, [], ◌∷◌, ◌++◌, ap, refl, fold, Block, Dwell, Disk, Inputs, idles, Act, serving, idling}
use Rattle.fb_model.proofs.Words.{ending, decision_of, Past, Step, decision_in, past_after, AtEach, HasPlan, HasBestPlan}

-- the history goes on from what it was
pub history-append : (inputs : Inputs) (past : Past) (xs ys : List Step)
    → fold (past_after inputs) past (xs ++ ys) ≡ fold (past_after inputs) (fold (past_after inputs) past xs) ys
history-append inputs past [] ys = refl
history-append inputs past (x ∷ xs) ys = history-append inputs (past_after inputs past x) xs ys

-- and so does what holds at each decision
pub AtEach-append : (P : Past → Step → Type 0) (inputs : Inputs) (past : Past) (xs ys : List Step)
    → AtEach P inputs past xs → AtEach P inputs (fold (past_after inputs) past xs) ys → AtEach P inputs past (xs ++ ys)
AtEach-append P inputs past [] ys ps qs = qs
AtEach-append P inputs past (x ∷ xs) ys ps qs = (ps.0, AtEach-append P inputs (past_after inputs past x) xs ys ps.1 qs)

-- the best plan is one of the plans
pub best_is_plan : (disk : Disk) (wanted : List Block) (act : Act) → HasBestPlan disk wanted act → HasPlan disk act
best_is_plan disk wanted (serving served plan) best = best.is_plan
best_is_plan disk wanted (idling dwell) best = tt
best_is_plan disk wanted (ending now) best = tt

idles_there : (act : Act) (dwell : Dwell) → decision_of act ≡ idles dwell → act ≡ idling dwell
idles_there (serving served plan) dwell e = cc
idles_there (idling other) dwell e = let one : other ≡ dwell = cc in ap idling one
idles_there (ending now) dwell e = cc

-- a step at which the head idles
abbrev pub dwelt : Step → Dwell → Step
dwelt step dwell = record step { act = idling dwell }

-- the step of a decision to idle is such a step
pub is_dwelt : (step : Step) (dwell : Dwell) → decision_in step ≡ idles dwell → step ≡ dwelt step dwell
is_dwelt step dwell e = ap (λ act. record step { act = act }) (idles_there step.act dwell e)
