-- Runs that are kept short.
use Rattle.fb_store.proofs.Words.{◌≡◌, ℕ, List, map, set, ap₂, ◌∙◌, ContentRun, ShortRun, run_of}
use Rattle.std.proofs.lemmas.List.{map-set}

pub short_set : (kept : List ShortRun) (runs : List ContentRun) (i : ℕ) (short : ShortRun) (run : ContentRun) → map run_of kept ≡ runs
    → run_of short ≡ run → map run_of (set kept i short) ≡ set runs i run
short_set kept runs i short run are is = map-set run_of kept i short ∙ ap₂ (λ rs r. set rs i r) are is
