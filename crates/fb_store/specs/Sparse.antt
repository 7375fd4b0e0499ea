-- The contents of some of the sectors, after contents were taken or a range was dropped.
use Rattle.std.specs.Prelude.{◌≡◌, ◌≤◌, ℕ, ◌+◌, List, [], ◌∷◌, Bool, true, ◌&&◌, nat_le, Option, None, Some, ◌==◌, map, if◌then◌else◌}
use Rattle.std.specs.List.{flat_map, range_with_len}
use Rattle.fb_store.specs.declared.content.Content.{Content}
use Rattle.fb_store.specs.declared.content.ContentRun.{ContentRun}
use Rattle.fb_store.specs.Runs.{sectors_of}
use Rattle.fb_store.specs.Writes.{is_within}

-- what a sector holds after contents were taken: what the last of them says of it, or what it held before
abbrev pub after_taking : List (ℕ × Content) → ℕ → Option Content → Option Content
after_taking [] lbn before = before
after_taking (sector ∷ sectors) lbn before = after_taking sectors lbn (if sector.0 == lbn then Some sector.1 else before)

-- no run begins below this sector, or below where the run before it ends
abbrev pub ascend : ℕ → List ContentRun → Bool
ascend from [] = true
ascend from (run ∷ runs) = nat_le from run.first && ascend (run.first + run.count) runs

-- the runs give each of n sectors, from the first on and in order, its content, and no other sector any
abbrev pub Gives : List ContentRun → (ℕ → Content) → ℕ → ℕ → Type 0
Gives runs content_of first n = sectors_of runs ≡ map (λ lbn. (lbn, content_of lbn)) (range_with_len first n)

-- what a sector holds after the contents of n sectors from the first on were taken
abbrev pub after_take : (ℕ → Content) → ℕ → ℕ → ℕ → Option Content → Option Content
after_take content_of first n lbn before = if is_within first n lbn then Some (content_of lbn) else before

-- what a sector holds after n sectors from the first on were dropped
abbrev pub after_dropping : ℕ → ℕ → ℕ → Option Content → Option Content
after_dropping first n lbn before = if is_within first n lbn then None else before

-- the sector with its content, if it holds any
abbrev pub held_sector : ℕ → Option Content → List (ℕ × Content)
held_sector lbn None = []
held_sector lbn (Some content) = (lbn, content) ∷ []

-- the sectors among these that hold something, each with its content
abbrev pub held_in : (ℕ → Option Content) → List ℕ → List (ℕ × Content)
held_in content_of lbns = flat_map (λ lbn. held_sector lbn (content_of lbn)) lbns

-- no sector from the end on holds anything
abbrev pub EndsBy : (ℕ → Option Content) → ℕ → Type 0
EndsBy content_of end = (lbn : ℕ) → end ≤ lbn → content_of lbn ≡ None
