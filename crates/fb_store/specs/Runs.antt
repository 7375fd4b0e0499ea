-- The contents of sectors as runs.
use Rattle.std.specs.Prelude.{◌≡◌, ◌≤◌, ◌<◌, ℕ, ◌+◌, ◌^◌, List, [], ◌∷◌, Bool, true, false, ◌&&◌, ◌==◌, map, if◌then◌else◌}
use Rattle.std.specs.List.{sum_by, flat_map, range_with_len}
use Rattle.fb_store.specs.declared.content.Content.{Content}
use Rattle.fb_store.specs.declared.content.Content.TheVariants.{Filled, Unreadable}
use Rattle.fb_store.specs.declared.content.ContentRun.{ContentRun}

-- the run ends at or below 10^12
abbrev pub IsInRange : ContentRun → Type 0
IsInRange run = run.first + run.count ≤ 10 ^ 12

-- two contents are the same
abbrev pub same_content : Content → Content → Bool
same_content (Filled a) (Filled b) = a == b
same_content (Filled a) Unreadable = false
same_content Unreadable (Filled b) = false
same_content Unreadable Unreadable = true

-- the runs with a sector before them: it joins the first run if it can
abbrev pub with_content : ℕ → Content → List ContentRun → List ContentRun
with_content lbn content [] = record { first = lbn; count = 1; content = content } ∷ []
with_content lbn content (run ∷ runs) = if (run.first == lbn + 1) && same_content content run.content
    then record { first = lbn; count = run.count + 1; content = content } ∷ runs
    else record { first = lbn; count = 1; content = content } ∷ run ∷ runs

-- the fewest runs that give these sectors these contents
abbrev pub runs_of : List (ℕ × Content) → List ContentRun
runs_of [] = []
runs_of (sector ∷ sectors) = with_content sector.0 sector.1 (runs_of sectors)

-- the sectors of a run, each with its content
abbrev pub sectors_in : ContentRun → List (ℕ × Content)
sectors_in run = map (λ lbn. (lbn, run.content)) (range_with_len run.first run.count)

-- the sectors of runs, each with its content
abbrev pub sectors_of : List ContentRun → List (ℕ × Content)
sectors_of runs = flat_map sectors_in runs

-- the second run continues the first one
abbrev pub joins : ContentRun → ContentRun → Bool
joins a b = (b.first == a.first + a.count) && same_content a.content b.content

-- the run continues the last of these runs
abbrev pub last_joins : List ContentRun → ContentRun → Bool
last_joins [] run = false
last_joins (last ∷ []) run = joins last run
last_joins (first ∷ next ∷ runs) run = last_joins (next ∷ runs) run

-- no run continues the one before it, so no two could be one
abbrev pub AreFewest : List ContentRun → Type 0
AreFewest [] = Unit {0}
AreFewest (run ∷ []) = Unit {0}
AreFewest (run ∷ next ∷ runs) = (joins run next ≡ false) × AreFewest (next ∷ runs)

-- the runs give exactly these contents, in this order, and are the fewest that do
pub record ArePacked (sectors : List (ℕ × Content)) (runs : List ContentRun) : Type 0 where
  pub contents : sectors_of runs ≡ sectors
  pub fewest : AreFewest runs

-- how many sectors of a run can't be read
abbrev pub bad_in : ContentRun → ℕ
bad_in run = if same_content run.content Unreadable then run.count else 0

-- how many sectors of these runs can't be read
abbrev pub bad_of : List ContentRun → ℕ
bad_of runs = sum_by bad_in runs

-- a run that begins at the first sector and ends by the end, and each of its sectors holds the run's content
pub record IsRun (content_of : ℕ → Content) (first end : ℕ) (run : ContentRun) : Type 0 where
  pub from : run.first ≡ first
  pub some : 0 < run.count
  pub within : run.first + run.count ≤ end
  pub same : (lbn : ℕ) → run.first ≤ lbn → lbn < run.first + run.count → content_of lbn ≡ run.content
