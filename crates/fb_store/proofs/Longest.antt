-- The fewest runs of neighbouring sectors.
use Rattle.fb_store.proofs.Words.{◌≡◌, ℕ, ◌+◌, ◌<◌, ◌≤◌, List, [], ◌∷◌, refl, true, false, map, Bool, cond, arith, sym, ap, ap₂, ◌∙◌, ◌&&◌}
use Rattle.fb_store.proofs.Words.{◌==◌, suc, zero, eqb→eq, range_with_len, sum_by, AllByRecursion, nat_tests, Content, Filled, Unreadable}
use Rattle.fb_store.proofs.Words.{ContentRun, same_content, with_content, runs_of}
use Rattle.std.proofs.lemmas.List.Sums.{sum_by-cons}
use Rattle.fb_store.proofs.Runs.{so, left, joined}

-- n sectors from the first on, each with its content
abbrev pub held : (ℕ → Content) → ℕ → ℕ → List (ℕ × Content)
held content_of first n = map (λ lbn. (lbn, content_of lbn)) (range_with_len first n)

abbrev pub run_of : ℕ → ℕ → Content → ContentRun
run_of first count content = record { first = first; count = count; content = content }

not_joined : (a b : Bool) (x y : List ContentRun) → b ≡ false → cond (a && b) x y ≡ y
not_joined true b x y e = rw e refl
not_joined false b x y e = refl

apart_joined : (b : Bool) (lbn next : ℕ) (content other : Content) (run : ContentRun) (runs : List ContentRun)
    → same_content content other ≡ false
    → with_content lbn content (joined b next other run runs) ≡ run_of lbn 1 content ∷ joined b next other run runs
apart_joined true lbn next content other run runs e = not_joined (next == lbn + 1) (same_content content other) _ _ e
apart_joined false lbn next content other run runs e = not_joined (next == lbn + 1) (same_content content other) _ _ e

-- a sector doesn't join a run of another content
apart : (lbn next : ℕ) (content other : Content) (runs : List ContentRun) → same_content content other ≡ false
    → with_content lbn content (with_content next other runs) ≡ run_of lbn 1 content ∷ with_content next other runs
apart lbn next content other [] e = not_joined (next == lbn + 1) (same_content content other) _ _ e
apart lbn next content other (run ∷ runs) e =
    apart_joined ((run.first == next + 1) && same_content other run.content) lbn next content other run runs e

pub same_itself : (content : Content) → same_content content content ≡ true
same_itself (Filled writer) = grind (arith, nat_tests)
same_itself Unreadable = refl

-- a sector joins the run behind it if that has the same content
joins_next : (lbn n : ℕ) (content : Content) (runs : List ContentRun)
    → with_content lbn content (run_of (lbn + 1) n content ∷ runs) ≡ run_of lbn (n + 1) content ∷ runs
joins_next lbn n content runs =
    let here : ((lbn + 1) == (lbn + 1)) ≡ true = grind (arith, nat_tests) in
    rw (here, same_itself content) refl

last_one : (content_of : ℕ → Content) (first rest : ℕ) (content : Content) → content_of first ≡ content
    → (0 < rest → same_content content (content_of (first + 1)) ≡ false)
    → with_content first (content_of first) (runs_of (held content_of (first + 1) rest)) ≡ run_of first 1 content
    ∷ runs_of (held content_of (first + 1) rest)
last_one content_of first zero content here next = rw here refl
last_one content_of first (suc rest) content here next =
    rw here (apart first (first + 1) content (content_of (first + 1)) (runs_of (held content_of (first + 1 + 1) rest)) (next (omega arith)))

pub run_ahead : (content_of : ℕ → Content) (first n rest m : ℕ) (content : Content) → m ≡ n + rest
    → ((lbn : ℕ) → first ≤ lbn → lbn < first + suc n → content_of lbn ≡ content)
    → (0 < rest → same_content content (content_of (first + suc n)) ≡ false)
    → runs_of (held content_of first (suc m)) ≡ run_of first (suc n) content ∷ runs_of (held content_of (first + suc n) rest)
run_ahead content_of first zero rest m content parts all next =
    let none_more : m ≡ rest = omega arith in
    ap (λ k. runs_of (held content_of first (suc k))) none_more
    ∙ last_one content_of first rest content (all first (omega arith) (omega arith)) next
run_ahead content_of first (suc n) rest m content parts all next =
    let place : first + 1 + suc n ≡ first + suc (suc n) = omega arith in
    let more : suc n + 1 ≡ suc (suc n) = omega arith in
    let one_more : m ≡ suc (n + rest) = omega arith in
    ap (λ k. runs_of (held content_of first (suc k))) one_more
    ∙ (ap₂ (λ c runs. with_content first c runs) (all first (omega arith) (omega arith))
    (run_ahead content_of (first + 1) n rest (n + rest) content refl (λ lbn from to. all lbn (omega arith) (omega arith))
    (λ some. ap (λ lbn. same_content content (content_of lbn)) place ∙ next some))
    ∙ (joins_next first (suc n) content (runs_of (held content_of (first + 1 + suc n) rest))
    ∙ ap₂ (λ count lbn. run_of first count content ∷ runs_of (held content_of lbn rest)) more place))

abbrev count_of : ContentRun → ℕ
count_of run = run.count

ahead : (a b : ℕ) → a + b ≡ b + a
ahead a b = omega arith

more_count : (a b s : ℕ) → a ≡ b + 1 → a + s ≡ b + s + 1
more_count a b s e = omega arith

count_joined : (b : Bool) (lbn : ℕ) (content : Content) (run : ContentRun) (runs : List ContentRun)
    → sum_by count_of (joined b lbn content run runs) ≡ sum_by count_of (run ∷ runs) + 1
count_joined true lbn content run runs =
    sum_by-cons count_of (run_of lbn (run.count + 1) content) runs
    ∙ (more_count (run.count + 1) run.count (sum_by count_of runs) refl ∙ ap (λ n. n + 1) (sym (sum_by-cons count_of run runs)))
count_joined false lbn content run runs = sum_by-cons count_of (run_of lbn 1 content) (run ∷ runs) ∙ ahead 1 (sum_by count_of (run ∷ runs))

count_with : (lbn : ℕ) (content : Content) (runs : List ContentRun)
    → sum_by (λ run. run.count) (with_content lbn content runs) ≡ sum_by (λ run. run.count) runs + 1
count_with lbn content [] = refl
count_with lbn content (run ∷ runs) = count_joined ((run.first == lbn + 1) && same_content content run.content) lbn content run runs

-- the runs of n sectors have n sectors together
pub sum_by-runs_of-held : (content_of : ℕ → Content) (first n : ℕ) → sum_by (λ run. run.count) (runs_of (held content_of first n)) ≡ n
sum_by-runs_of-held content_of first zero = refl
sum_by-runs_of-held content_of first (suc n) =
    let rest = sum_by-runs_of-held content_of (first + 1) n in
    let one = count_with first (content_of first) (runs_of (held content_of (first + 1) n)) in
    omega arith

ends_joined : (b : Bool) (lbn bound : ℕ) (content : Content) (run : ContentRun) (runs : List ContentRun) → (b ≡ true → run.first ≡ lbn + 1)
    → lbn + 1 ≤ bound
    → AllByRecursion (λ run. run.first + run.count ≤ bound) (run ∷ runs)
    → AllByRecursion (λ run. run.first + run.count ≤ bound) (joined b lbn content run runs)
ends_joined true lbn bound content run runs at within all = let place = at refl in let here = all.0 in (omega arith, all.1)
ends_joined false lbn bound content run runs at within all = (omega arith, all)

ends_with : (lbn bound : ℕ) (content : Content) (runs : List ContentRun) → lbn + 1 ≤ bound
    → AllByRecursion (λ run. run.first + run.count ≤ bound) runs
    → AllByRecursion (λ run. run.first + run.count ≤ bound) (with_content lbn content runs)
ends_with lbn bound content [] within all = (within, tt)
ends_with lbn bound content (run ∷ runs) within all =
    ends_joined ((run.first == lbn + 1) && same_content content run.content) lbn bound content run runs
    (λ p. eqb→eq run.first (lbn + 1) (so (run.first == lbn + 1) (left (run.first == lbn + 1) (same_content content run.content) p))) within
    all

-- the runs end where the sectors do
pub ends-runs_of-held : (content_of : ℕ → Content) (first n bound : ℕ) → first + n ≤ bound
    → AllByRecursion (λ run. run.first + run.count ≤ bound) (runs_of (held content_of first n))
ends-runs_of-held content_of first zero bound within = tt
ends-runs_of-held content_of first (suc n) bound within =
    ends_with first bound (content_of first) (runs_of (held content_of (first + 1) n)) (omega arith)
    (ends-runs_of-held content_of (first + 1) n bound (omega arith))
