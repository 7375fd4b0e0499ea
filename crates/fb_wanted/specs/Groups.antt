-- The counts that are kept of the groups of a task's blocks.
use Rattle.std.specs.Prelude.{◌≡◌, ℕ, ◌/◌, ◌<◌, List, [], get_or, length, if◌then◌else◌}
use Rattle.fb_wanted.specs.declared.block.Block.{Block}
use Rattle.fb_wanted.specs.declared.block.Counts.{Counts}
use Rattle.fb_wanted.specs.declared.block.Entry.{Entry}
use Rattle.fb_wanted.specs.Counting.{counted, is_in_group, no_counts, recounted}

-- what stands for a group in lists by task and by group
abbrev pub group_at : List (List Counts) → ℕ → ℕ → Counts
group_at groups task group = get_or (get_or groups task []) group no_counts

-- the counts of each group are those of its blocks
abbrev pub AreGrouped : List Entry → List (List Counts) → Type 0
AreGrouped entries groups = (task group : ℕ) → group_at groups task group ≡ counted (is_in_group task group) entries

-- the lists reach to the group of the block
abbrev pub IsGroupThere : List (List Counts) → Block → Type 0
IsGroupThere groups block = (block.task < length groups) × (block.index / 512 < length (get_or groups block.task []))

-- the counts of the block's group are without `lost` and with `gained`, and those of no other group have changed
abbrev pub IsRecounted : List (List Counts) → List (List Counts) → Block → Counts → Counts → Type 0
IsRecounted old new block lost gained = (task group : ℕ) → group_at new task group
    ≡ (if is_in_group task group block then recounted lost gained (group_at old task group) else group_at old task group)
