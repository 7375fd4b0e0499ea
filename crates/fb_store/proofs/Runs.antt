-- The fewest runs of sectors give exactly these contents, and no run continues the one before it.
use Rattle.fb_store.proofs.Words.{◌≡◌, ℕ, ◌+◌, List, [], ◌∷◌, ◌++◌, refl, true, false, map, Bool, cond, arith, sym, ap, ap₂, ◌∙◌}
use Rattle.fb_store.proofs.Words.{true≢false, eqb→eq, ◌&&◌, ◌==◌, suc, range_with_len, Content, Filled, Unreadable, ContentRun}
use Rattle.fb_store.proofs.Words.{same_content, with_content, runs_of, sectors_of}
use Rattle.std.proofs.Common.{T}
use Rattle.fb_store.specs.Runs.{AreFewest}

pub so : (b : Bool) → b ≡ true → T b
so true p = tt
so false p = absurd (true≢false (sym p))

pub left : (a b : Bool) → (a && b) ≡ true → a ≡ true
left true b p = refl
left false b p = p

pub right : (a b : Bool) → (a && b) ≡ true → b ≡ true
right true b p = p
right false b p = absurd (true≢false (sym p))

pub is_same : (a b : Content) → same_content a b ≡ true → a ≡ b
is_same (Filled a) (Filled b) p = ap Filled (eqb→eq a b (so (a == b) p))
is_same (Filled a) Unreadable p = absurd (true≢false (sym p))
is_same Unreadable (Filled b) p = absurd (true≢false (sym p))
is_same Unreadable Unreadable p = refl

-- a sector before some runs: joined with the first run, or a run of its own
abbrev pub joined : Bool → ℕ → Content → ContentRun → List ContentRun → List ContentRun
joined b lbn content run runs = cond b (record { first = lbn; count = run.count + 1; content = content }
    ∷ runs) (record { first = lbn; count = 1; content = content } ∷ run ∷ runs)

longer : (lbn n : ℕ) → range_with_len lbn (n + 1) ≡ lbn ∷ range_with_len (lbn + 1) n
longer lbn n = let more : n + 1 ≡ suc n = omega arith in ap (range_with_len lbn) more

grown : (b : Bool) (lbn : ℕ) (content : Content) (run : ContentRun) (runs : List ContentRun)
    → (b ≡ true → run.first ≡ lbn + 1) → (b ≡ true → content ≡ run.content)
    → sectors_of (joined b lbn content run runs) ≡ (lbn, content) ∷ sectors_of (run ∷ runs)
grown false lbn content run runs p q = refl
grown true lbn content run runs p q =
    ap (λ lbns. map (λ lbn. (lbn, content)) lbns ++ sectors_of runs) (longer lbn run.count)
    ∙ ap₂ (λ first c. (lbn, content) ∷ (map (λ lbn. (lbn, c)) (range_with_len first run.count) ++ sectors_of runs)) (sym (p refl)) (q refl)

with_one : (lbn : ℕ) (content : Content) (runs : List ContentRun)
    → sectors_of (with_content lbn content runs) ≡ (lbn, content) ∷ sectors_of runs
with_one lbn content [] = refl
with_one lbn content (run ∷ runs) = grown ((run.first == lbn + 1) && same_content content run.content) lbn content run runs
    (λ p. eqb→eq run.first (lbn + 1) (so (run.first == lbn + 1) (left (run.first == lbn + 1) (same_content content run.content) p)))
    (λ p. is_same content run.content (right (run.first == lbn + 1) (same_content content run.content) p))

-- the runs give exactly these contents, in this order
pub sectors_of-runs_of : (sectors : List (ℕ × Content)) → sectors_of (runs_of sectors) ≡ sectors
sectors_of-runs_of [] = refl
sectors_of-runs_of (sector ∷ sectors) =
    with_one sector.0 sector.1 (runs_of sectors) ∙ ap (λ rest. sector ∷ rest) (sectors_of-runs_of sectors)

few_joined : (b : Bool) (lbn : ℕ) (content : Content) (run : ContentRun) (runs : List ContentRun)
    → ((run.first == lbn + 1) && same_content content run.content) ≡ b
    → (b ≡ true → run.first ≡ lbn + 1) → (b ≡ true → content ≡ run.content) → AreFewest (run ∷ runs)
    → AreFewest (joined b lbn content run runs)
few_joined false lbn content run runs e p q few = (e, few)
few_joined true lbn content run [] e p q few = tt
few_joined true lbn content run (next ∷ runs) e p q few = (
  ap₂ (λ at c. (next.first == at) && same_content c next.content)
      (let place : lbn + (run.count + 1) ≡ run.first + run.count = let first = p refl in omega arith in place) (q refl) ∙ few.0,
  few.1,
)

few_with : (lbn : ℕ) (content : Content) (runs : List ContentRun) → AreFewest runs → AreFewest (with_content lbn content runs)
few_with lbn content [] few = tt
few_with lbn content (run ∷ runs) few = few_joined ((run.first == lbn + 1) && same_content content run.content) lbn content run runs refl
    (λ p. eqb→eq run.first (lbn + 1) (so (run.first == lbn + 1) (left (run.first == lbn + 1) (same_content content run.content) p)))
    (λ p. is_same content run.content (right (run.first == lbn + 1) (same_content content run.content) p)) few

-- no run continues the one before it
pub AreFewest-runs_of : (sectors : List (ℕ × Content)) → AreFewest (runs_of sectors)
AreFewest-runs_of [] = tt
AreFewest-runs_of (sector ∷ sectors) = few_with sector.0 sector.1 (runs_of sectors) (AreFewest-runs_of sectors)
