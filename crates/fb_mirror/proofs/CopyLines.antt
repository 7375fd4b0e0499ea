-- The lines of a copy by their index.
use Rattle.fb_mirror.proofs.Words.{◌≡◌, ℕ, zero, suc, ◌-◌, ◌<◌, ◌≤◌, List, [], ◌∷◌, ◌++◌, length, map, slice_get, Some, refl, ap, ◌∙◌}
use Rattle.fb_mirror.proofs.Words.{arith, same_Some, ContentRun, run_line}

at_run : (runs : List ContentRun) (last : List ℕ) (i : ℕ) (run : ContentRun) → slice_get runs i ≡ Some run
    → slice_get (map run_line runs ++ last ∷ []) i ≡ Some (run_line run)
at_run [] last i run is = absurd (grind arith)
at_run (first ∷ runs) last zero run is = ap (λ r. Some (run_line r)) (same_Some first run is)
at_run (first ∷ runs) last (suc i) run is = at_run runs last i run is

at_last : (runs : List ContentRun) (last : List ℕ) (i : ℕ) → length runs ≤ i → i < length (map run_line runs ++ last ∷ [])
    → slice_get (map run_line runs ++ last ∷ []) i ≡ Some last
at_last [] last zero from below = refl
at_last [] last (suc i) from below = absurd (omega arith)
at_last (first ∷ runs) last zero from below = absurd (omega arith)
at_last (first ∷ runs) last (suc i) from below = at_last runs last i (omega arith) (omega arith)

behind_two : (one two : List ℕ) (lines : List (List ℕ)) (k : ℕ) → 2 ≤ k → slice_get (one ∷ two ∷ lines) k ≡ slice_get lines (k - 2)
behind_two one two lines k more = let is : k ≡ suc (suc (k - 2)) = omega arith in ap (slice_get (one ∷ two ∷ lines)) is

-- the line of a run, and the last line
pub line_of_run : (one two last : List ℕ) (runs : List ContentRun) (k : ℕ) (run : ContentRun) → 2 ≤ k → slice_get runs (k - 2) ≡ Some run
    → slice_get (one ∷ two ∷ (map run_line runs ++ last ∷ [])) k ≡ Some (run_line run)
line_of_run one two last runs k run more is = behind_two one two (map run_line runs ++ last ∷ []) k more ∙ at_run runs last (k - 2) run is

pub last_line : (one two last : List ℕ) (runs : List ContentRun) (k : ℕ) → 2 ≤ k → length runs ≤ k - 2
    → k < length (one ∷ two ∷ (map run_line runs ++ last ∷ []))
    → slice_get (one ∷ two ∷ (map run_line runs ++ last ∷ [])) k ≡ Some last
last_line one two last runs k more from below =
    behind_two one two (map run_line runs ++ last ∷ []) k more ∙ at_last runs last (k - 2) from (omega arith)
