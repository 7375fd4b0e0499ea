-- A run behind the fewest runs joins the last of them, or becomes a run of its own.
use Rattle.fb_store.proofs.Words.{◌≡◌, ℕ, ◌+◌, ◌-◌, ◌<◌, ◌≤◌, List, [], ◌∷◌, ◌++◌, refl, true, false, true≢false, Bool, cond, arith, sym}
use Rattle.fb_store.proofs.Words.{ap, ap₂, ◌∙◌, ◌&&◌, ◌==◌, suc, zero, eqb→eq, length, get_or, set, Some, slice_get, get_or_from_slice_get}
use Rattle.fb_store.proofs.Words.{Content, ContentRun, same_content, with_content, runs_of, sectors_of, sectors_in, joins, IsRun}
use Rattle.fb_store.specs.Runs.{last_joins}
use Rattle.fb_store.proofs.Runs.{so, left, right, is_same, sectors_of-runs_of}
use Rattle.fb_store.proofs.Longest.{held, run_of, run_ahead}

abbrev pub longer : ContentRun → ContentRun → ContentRun
longer last run = record { first = last.first; count = last.count + run.count; content = last.content }

-- the runs with one more, which joins the last one if it continues it
abbrev glued : List ContentRun → ContentRun → List ContentRun
glued [] run = run ∷ []
glued (last ∷ []) run = cond (joins last run) (longer last run ∷ []) (last ∷ run ∷ [])
glued (first ∷ next ∷ runs) run = first ∷ glued (next ∷ runs) run

pub some_run : (runs : List ContentRun) (run : ContentRun) → last_joins runs run ≡ true → 0 < length runs
some_run [] run joined = absurd (true≢false (sym joined))
some_run (first ∷ runs) run joined = omega arith

pub last_joins-at : (runs : List ContentRun) (n : ℕ) (d run : ContentRun) → length runs ≡ n + 1
    → last_joins runs run ≡ joins (get_or runs n d) run
last_joins-at [] n d run size = absurd (omega arith)
last_joins-at (last ∷ []) zero d run size = refl
last_joins-at (last ∷ []) (suc n) d run size = absurd (omega arith)
last_joins-at (first ∷ next ∷ runs) zero d run size = absurd (omega arith)
last_joins-at (first ∷ next ∷ runs) (suc n) d run size = last_joins-at (next ∷ runs) n d run (omega arith)

set_last : (runs : List ContentRun) (n : ℕ) (d run : ContentRun) → length runs ≡ n + 1 → last_joins runs run ≡ true
    → set runs n (longer (get_or runs n d) run) ≡ glued runs run
set_last [] n d run size joined = absurd (omega arith)
set_last (last ∷ []) zero d run size joined = rw joined refl
set_last (last ∷ []) (suc n) d run size joined = absurd (omega arith)
set_last (first ∷ next ∷ runs) zero d run size joined = absurd (omega arith)
set_last (first ∷ next ∷ runs) (suc n) d run size joined = ap (λ rest. first ∷ rest) (set_last (next ∷ runs) n d run (omega arith) joined)

push_last : (runs : List ContentRun) (run : ContentRun) → last_joins runs run ≡ false → runs ++ run ∷ [] ≡ glued runs run
push_last [] run apart = refl
push_last (last ∷ []) run apart = rw apart refl
push_last (first ∷ next ∷ runs) run apart = ap (λ rest. first ∷ rest) (push_last (next ∷ runs) run apart)

one_and : (n : ℕ) → n + 1 ≡ 1 + n
one_and n = omega arith

-- a sector before the last run
glued_one : (w j k : Bool) (lbn : ℕ) (content : Content) (last run : ContentRun)
    → ((last.first == lbn + 1) && same_content content last.content) ≡ w → joins last run ≡ j
    → (w ≡ true → joins (run_of lbn (last.count + 1) content) run ≡ j)
    → with_content lbn content (cond j (longer last run ∷ []) (last ∷ run ∷ []))
    ≡ glued (cond w (run_of lbn (last.count + 1) content ∷ []) (run_of lbn 1 content ∷ last ∷ [])) run
glued_one true true k lbn content last run we je same =
    let count : last.count + run.count + 1 ≡ last.count + 1 + run.count = omega arith in
    rw (we, same refl) (ap (λ n. run_of lbn n content ∷ []) count)
glued_one true false k lbn content last run we je same = rw (we, same refl) refl
glued_one false true k lbn content last run we je same = rw (we, je) refl
glued_one false false k lbn content last run we je same = rw (we, je) refl

same_end : (lbn : ℕ) (content : Content) (last run : ContentRun) → ((last.first == lbn + 1) && same_content content last.content) ≡ true
    → joins (run_of lbn (last.count + 1) content) run ≡ joins last run
same_end lbn content last run w =
    let first =
    eqb→eq last.first (lbn + 1) (so (last.first == lbn + 1) (left (last.first == lbn + 1) (same_content content last.content) w)) in
    let same = is_same content last.content (right (last.first == lbn + 1) (same_content content last.content) w) in
    let place : lbn + (last.count + 1) ≡ last.first + last.count = omega arith in
    ap₂ (λ at c. (run.first == at) && same_content c run.content) place same

glued_more : (w : Bool) (lbn : ℕ) (content : Content) (first next run : ContentRun) (runs : List ContentRun)
    → cond w (run_of lbn (first.count + 1) content ∷ glued (next ∷ runs) run) (run_of lbn 1 content ∷ first ∷ glued (next ∷ runs) run)
    ≡ glued (cond w (run_of lbn (first.count + 1) content ∷ next ∷ runs) (run_of lbn 1 content ∷ first ∷ next ∷ runs)) run
glued_more true lbn content first next run runs = refl
glued_more false lbn content first next run runs = refl

glued_with : (lbn : ℕ) (content : Content) (runs : List ContentRun) (run : ContentRun)
    → with_content lbn content (glued runs run) ≡ glued (with_content lbn content runs) run
glued_with lbn content [] run = ap (λ n. cond ((run.first == lbn + 1) && same_content content run.content) (run_of lbn n content ∷ [])
    (run_of lbn 1 content ∷ run ∷ [])) (one_and run.count)
glued_with lbn content (last ∷ []) run = glued_one ((last.first == lbn + 1)
    && same_content content last.content) (joins last run) true lbn content last run refl refl (same_end lbn content last run)
glued_with lbn content (first ∷ next ∷ runs) run =
    glued_more ((first.first == lbn + 1) && same_content content first.content) lbn content first next run runs

one_run : (first count : ℕ) (content : Content) → 0 < count
    → runs_of (sectors_in (run_of first count content)) ≡ run_of first count content ∷ []
one_run first zero content some = absurd (omega arith)
one_run first (suc n) content some =
    run_ahead (λ lbn. content) first n 0 n content (omega arith) (λ lbn a b. refl) (λ none. absurd (omega arith))

-- the fewest runs of some sectors followed by those of a run
glue : (sectors : List (ℕ × Content)) (run : ContentRun) → 0 < run.count → runs_of (sectors ++ sectors_in run) ≡ glued (runs_of sectors) run
glue [] run some = one_run run.first run.count run.content some
glue (sector ∷ sectors) run some =
    ap (with_content sector.0 sector.1) (glue sectors run some) ∙ glued_with sector.0 sector.1 (runs_of sectors) run

pub joined_last : (runs : List ContentRun) (n : ℕ) (d run : ContentRun) → length runs ≡ n + 1 → 0 < run.count
    → runs ≡ runs_of (sectors_of runs) → last_joins runs run ≡ true
    → set runs n (longer (get_or runs n d) run) ≡ runs_of (sectors_of runs ++ sectors_in run)
joined_last runs n d run size some fewest joined =
    set_last runs n d run size joined ∙ (ap (λ rs. glued rs run) fewest ∙ sym (glue (sectors_of runs) run some))

pub pushed_last : (runs : List ContentRun) (run : ContentRun) → 0 < run.count → runs ≡ runs_of (sectors_of runs)
    → last_joins runs run ≡ false
    → runs ++ run ∷ [] ≡ runs_of (sectors_of runs ++ sectors_in run)
pushed_last runs run some fewest apart = push_last runs run apart ∙ (ap (λ rs. glued rs run) fewest ∙ sym (glue (sectors_of runs) run some))

joins-first : (a b : ContentRun) → joins a b ≡ true → b.first ≡ a.first + a.count
joins-first a b joined = eqb→eq b.first (a.first
    + a.count) (so (b.first == a.first + a.count) (left (b.first == a.first + a.count) (same_content a.content b.content) joined))

-- a run that continues the last one begins where that ends
pub joined-first : (runs : List ContentRun) (n : ℕ) (last run : ContentRun) → length runs ≡ n + 1 → slice_get runs n ≡ Some last
    → last_joins runs run ≡ true → run.first ≡ last.first + last.count
joined-first runs n last run size at joined =
    let is = ap (λ r. joins r run) (get_or_from_slice_get runs n last last at) in
    joins-first last run (sym (last_joins-at runs n last run size ∙ is) ∙ joined)

-- the fewest runs of some sectors are the fewest runs of the sectors that they have
pub fewest_again : (sectors : List (ℕ × Content)) (runs : List ContentRun) → runs ≡ runs_of sectors
    → (sectors_of runs ≡ sectors) × (runs ≡ runs_of (sectors_of runs))
fewest_again sectors runs e =
    let own = ap sectors_of e ∙ sectors_of-runs_of sectors in
    (own, e ∙ ap runs_of (sym own))

-- the contents of neighbouring sectors
held_split : (content_of : ℕ → Content) (first m n : ℕ) → held content_of first (m + n)
    ≡ held content_of first m ++ held content_of (first + m) n
held_split content_of first zero n =
    let at : first + 0 ≡ first = omega arith in
    let all : 0 + n ≡ n = omega arith in
    rw (at, all) refl
held_split content_of first (suc m) n =
    let at : first + 1 + m ≡ first + suc m = omega arith in
    let all : suc m + n ≡ suc (m + n) = omega arith in
    rw all (ap (λ rest. (first, content_of first) ∷ rest) (held_split content_of (first + 1) m n
    ∙ ap (λ lbn. held content_of (first + 1) m ++ held content_of lbn n) at))

-- the sectors of a run hold its content
held_same : (content_of : ℕ → Content) (first n : ℕ) (content : Content)
    → ((lbn : ℕ) → first ≤ lbn → lbn < first + n → content_of lbn ≡ content)
    → sectors_in (run_of first n content) ≡ held content_of first n
held_same content_of first zero content all = refl
held_same content_of first (suc n) content all =
    ap₂ (λ c rest. (first, c) ∷ rest) (sym (all first (omega arith) (omega arith)))
    (held_same content_of (first + 1) n content (λ lbn from to. all lbn (omega arith) (omega arith)))

-- the runs so far and a run at the next sector make the runs up to its end
pub one_more : (content_of : ℕ → Content) (first lbn end : ℕ) (run : ContentRun) (runs more : List ContentRun) → first ≤ lbn
    → IsRun content_of lbn end run → runs ≡ runs_of (held content_of first (lbn - first))
    → more ≡ runs_of (sectors_of runs ++ sectors_in run)
    → more ≡ runs_of (held content_of first (lbn + run.count - first))
one_more content_of first lbn end run runs more from is so_far next =
    let at : first + (lbn - first) ≡ run.first = let here = is.from in omega arith in
    let all : lbn - first + run.count ≡ lbn + run.count - first = omega arith in
    next ∙ ap runs_of (ap₂ (λ before its. before ++ its) (fewest_again (held content_of first (lbn - first)) runs so_far).0
    (held_same content_of run.first run.count run.content is.same ∙ ap (λ l. held content_of l run.count) (sym at))
    ∙ (sym (held_split content_of first (lbn - first) run.count) ∙ ap (held content_of first) all))
