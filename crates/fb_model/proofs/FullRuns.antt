-- A gap has one best plan at most, and inputs one full run.
use Rattle.fb_model.proofs.Words.{◌≡◌, ◌⊎◌, ℕ, ◌≤◌, List, [], ◌∷◌, ◌++◌, map, refl, ap, ap₂, sym, subst, ◌∙◌, arith, inl, inr, flat_map}
use Rattle.fb_model.proofs.Words.{Track, not_none, same_first, same_rest, Disk, Block, Gap, Plan, Direct, Detour, BackRow, DeliveryRow}
use Rattle.fb_model.proofs.Words.{Run, Inputs, IsAccepted, Medium, contents_at, medium_of, value, IsTrackBefore, IsNoLater, IsBest}
use Rattle.fb_model.proofs.Words.{Decision, instant_of, Act, serving, idling, ending, decision_of, Past, tested, delivered, wanted, gap_of}
use Rattle.fb_model.proofs.Words.{due, findings, test_rows, Delivery, Step, decision_in, decisions_in, chosen_past, tested_past}
use Rattle.fb_model.proofs.Words.{with_delivery, past_after, AtEach, history, step_rows, task_rows, AreFollowed, IsTested, HasBestPlan}
use Rattle.fb_model.proofs.Words.{IsBestPlanned, IsAllDelivered, IsFull}

-- ---- the best plan

not_both : (a b : Track) → IsTrackBefore a b → IsTrackBefore b a → ⊥
not_both a b (inl h) (inl k) = omega arith
not_both a b (inl h) (inr k) = let same = k.0 in omega arith
not_both a b (inr h) (inl k) = let same = h.0 in omega arith
not_both a b (inr h) (inr k) = let less = h.1 in let more = k.1 in omega arith

not_itself : (a b : Track) → IsTrackBefore a b → a ≡ b → ⊥
not_itself a b h e = not_both a b h (subst (λ t. IsTrackBefore t a) e (subst (λ t. IsTrackBefore a t) (sym e) h))

pub one_detour : (c d : Track) (u v : ℕ) → IsTrackBefore c d ⊎ ((c ≡ d) × (u ≤ v)) → IsTrackBefore d c ⊎ ((d ≡ c) × (v ≤ u))
    → Detour c u ≡ Detour d v
one_detour c d u v (inl h) (inl k) = absurd (not_both c d h k)
one_detour c d u v (inl h) (inr k) = absurd (not_itself c d h (sym k.0))
one_detour c d u v (inr h) (inl k) = absurd (not_itself d c k (sym h.0))
one_detour c d u v (inr h) (inr k) =
    ap (λ t. Detour t u) h.0 ∙ ap (Detour d) (let less = h.1 in let more = k.1 in let same : u ≡ v = omega arith in same)

one_first : (a b : Plan) → IsNoLater a b → IsNoLater b a → a ≡ b
one_first (Direct u) (Direct v) h k = ap Direct (let same : u ≡ v = omega arith in same)
one_first (Direct u) (Detour d v) h k = absurd k
one_first (Detour c u) (Direct v) h k = absurd h
one_first (Detour c u) (Detour d v) h k = one_detour c d u v h k

pub one_best : (disk : Disk) (gap : Gap) (wanted : List Block) (a b : Plan) → IsBest disk gap wanted a → IsBest disk gap wanted b → a ≡ b
one_best disk gap wanted a b h k =
    let same : value disk gap wanted b ≡ value disk gap wanted a = omega (arith, h.greatest b k.is_plan, k.greatest a h.is_plan) in
    one_first a b (h.first b k.is_plan same) (k.first a h.is_plan (sym same))

-- ---- one decision

abbrev pub gots : List Delivery → List DeliveryRow
gots deliveries = map (λ delivery. delivery.got) deliveries

-- what follows deliveries is determined
one_following : (medium : Medium) (past : Past) (xs ys : List Delivery) → AreFollowed medium past xs → AreFollowed medium past ys
    → gots xs ≡ gots ys → xs ≡ ys
one_following medium past [] [] h k e = refl
one_following medium past [] (y ∷ ys) h k e = absurd (not_none y.got (gots ys) (sym e))
one_following medium past (x ∷ xs) [] h k e = absurd (not_none x.got (gots xs) e)
one_following medium past (x ∷ xs) (y ∷ ys) h k e =
    let got : x.got ≡ y.got = same_first x.got y.got (gots xs) (gots ys) e in
    let after : x.after ≡ y.after = h.0 ∙ ap (λ got. findings past got ++ test_rows medium (delivered got ∷ past) got.end) got ∙ sym k.0 in
    let same : x ≡ y = ap (λ g. record { got = g; after = x.after }) got ∙ ap (λ rows. record { got = y.got; after = rows }) after in
    ap (λ d. d ∷ xs) same
    ∙ ap (λ ds. y ∷ ds) (one_following medium (with_delivery past y) xs ys
    (subst (λ d. AreFollowed medium (with_delivery past d) xs) same h.1) k.1 (same_rest x.got y.got (gots xs) (gots ys) e))

one_act : (disk : Disk) (wanted : List Block) (a b : Act) → decision_of a ≡ decision_of b
    → HasBestPlan disk wanted a → HasBestPlan disk wanted b → a ≡ b
one_act disk wanted (serving served p) (serving other q) same h k =
    let one : served ≡ other = cc in
    let best : IsBest disk (gap_of disk other) wanted p = subst (λ served. IsBest disk (gap_of disk served) wanted p) one h in
    ap (λ served. serving served p) one ∙ ap (serving other) (one_best disk (gap_of disk other) wanted p q best k)
one_act disk wanted (idling dwell) (idling other) same h k = let one : dwell ≡ other = cc in ap idling one
one_act disk wanted (ending now) (ending other) same h k = let one : now ≡ other = cc in ap ending one
one_act disk wanted (serving served p) (idling other) same h k = cc
one_act disk wanted (serving served p) (ending other) same h k = cc
one_act disk wanted (idling dwell) (serving other q) same h k = cc
one_act disk wanted (idling dwell) (ending other) same h k = cc
one_act disk wanted (ending now) (serving other q) same h k = cc
one_act disk wanted (ending now) (idling other) same h k = cc

-- what a full run's step has to be
pub record IsFullStep (inputs : Inputs) (medium : Medium) (past : Past) (step : Step) : Type 0 where
  pub tests : IsTested inputs medium past step
  pub best : IsBestPlanned inputs medium past step
  pub all : IsAllDelivered inputs medium past step

pub one_step : (inputs : Inputs) (medium : Medium) (past : Past) (a b : Step) → decision_in a ≡ decision_in b
    → IsFullStep inputs medium past a → IsFullStep inputs medium past b → a ≡ b
one_step inputs medium past a b same h k =
    let chooses = λ (decision : Decision). chosen_past inputs past decision in
    let best = subst (λ d. HasBestPlan inputs.disk (wanted (chooses d)) a.act) same h.best in
    let act : a.act ≡ b.act = one_act inputs.disk (wanted (chooses (decision_in b))) a.act b.act same best k.best in
    let rows : a.test ≡ b.test =
    h.tests.test ∙ ap (λ d. test_rows medium (chooses d) (instant_of d)) same ∙ sym k.tests.test in
    let all : gots a.deliveries ≡ gots b.deliveries =
    h.all ∙ ap (λ act. due medium.disk (contents_at medium) act (wanted (chooses (decision_of act)))) act ∙ sym k.all in
    let pasts : tested_past inputs past a ≡ tested_past inputs past b = ap₂ (λ rows d. tested rows ∷ chooses d) rows same in
    let followed = subst (λ past. AreFollowed medium past a.deliveries) pasts h.tests.followed in
    let deliveries = one_following medium (tested_past inputs past b) a.deliveries b.deliveries followed k.tests.followed all in
    ap (λ act. record a { act = act }) act
    ∙ ap (λ rows. record a { act = b.act; test = rows }) rows
    ∙ ap (λ deliveries. record b { deliveries = deliveries }) deliveries

-- ---- all steps

one_course : (inputs : Inputs) (medium : Medium) (past : Past) (xs ys : List Step) → decisions_in xs ≡ decisions_in ys
    → AtEach (IsFullStep inputs medium) inputs past xs → AtEach (IsFullStep inputs medium) inputs past ys → xs ≡ ys
one_course inputs medium past [] [] e h k = refl
one_course inputs medium past [] (y ∷ ys) e h k = absurd (not_none _ _ (sym e))
one_course inputs medium past (x ∷ xs) [] e h k = absurd (not_none _ _ e)
one_course inputs medium past (x ∷ xs) (y ∷ ys) e h k =
    let same = one_step inputs medium past x y (same_first _ _ _ _ e) h.0 k.0 in
    let later = subst (λ x. AtEach (IsFullStep inputs medium) inputs (past_after inputs past x) xs) same h.1 in
    ap (λ x. x ∷ xs) same ∙ ap (λ xs. y ∷ xs) (one_course inputs medium (past_after inputs past y) xs ys (same_rest _ _ _ _ e) later k.1)

at_each : (inputs : Inputs) (medium : Medium) (past : Past) (steps : List Step) → AtEach (IsTested inputs medium) inputs past steps
    → AtEach (IsBestPlanned inputs medium) inputs past steps → AtEach (IsAllDelivered inputs medium) inputs past steps
    → AtEach (IsFullStep inputs medium) inputs past steps
at_each inputs medium past [] a b c = tt
at_each inputs medium past (step ∷ steps) a b c =
    (record { tests = a.0; best = b.0; all = c.0 }, at_each inputs medium (past_after inputs past step) steps a.1 b.1 c.1)

pub full_steps : (inputs : Inputs) (run : Run) (full : IsFull inputs run)
    → AtEach (IsFullStep inputs (medium_of inputs)) inputs [] full.steps
full_steps inputs run full = at_each inputs (medium_of inputs) [] full.steps full.sound.tested full.best full.all

same_run : (a b : Run) → a.fore ≡ b.fore → a.back ≡ b.back → a.passed_over ≡ b.passed_over → a.end ≡ b.end → a ≡ b
same_run a b fore back passed end =
    ap (λ x. record { fore = x; back = a.back; passed_over = a.passed_over; end = a.end }) fore
    ∙ ap (λ x. record { fore = b.fore; back = x; passed_over = a.passed_over; end = a.end }) back
    ∙ ap (λ x. record { fore = b.fore; back = b.back; passed_over = x; end = a.end }) passed
    ∙ ap (λ x. record { fore = b.fore; back = b.back; passed_over = b.passed_over; end = x }) end

pub one_full : (inputs : Inputs) (a b : Run) → IsAccepted inputs → IsFull inputs a → IsFull inputs b → a ≡ b
one_full inputs a b accepted h k =
    let same = one_course inputs (medium_of inputs) [] h.steps k.steps (h.sound.decided ∙ sym k.sound.decided)
    (full_steps inputs a h) (full_steps inputs b k) in
    let tasks = h.sound.counted ∙ ap (λ steps. task_rows (history inputs steps)) same ∙ sym k.sound.counted in
    let rows = λ (steps : List Step) (tasks : List BackRow). flat_map (step_rows inputs.disk) steps ++ tasks in
    same_run a b (h.sound.fore ∙ sym k.sound.fore) (h.sound.back ∙ ap₂ rows same tasks ∙ sym k.sound.back)
    (h.sound.passed_over ∙ sym k.sound.passed_over) (h.sound.end ∙ sym k.sound.end)
