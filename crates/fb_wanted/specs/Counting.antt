-- Counting the blocks of a task, and of a group of them, by their states.
use Rattle.std.specs.Prelude.{ℕ, ◌+◌, ◌-◌, ◌≤◌, ◌<◌, ◌^◌, ◌/◌, ◌==◌, ◌&&◌, Bool, List, length, filter}
use Rattle.fb_wanted.specs.declared.block.Block.{Block}
use Rattle.fb_wanted.specs.declared.block.Counts.{Counts}
use Rattle.fb_wanted.specs.declared.block.Entry.{Entry}
use Rattle.fb_wanted.specs.States.{is_delivered, is_aborted}

-- the blocks of a task with their states
abbrev pub of_task : ℕ → List Entry → List Entry
of_task task entries = filter (λ entry. entry.block.task == task) entries

-- how many of the blocks that pass a test are registered, delivered and aborted
abbrev pub counted : (Block → Bool) → List Entry → Counts
counted test entries = record {
  registered = length (filter (λ entry. test entry.block) entries);
  delivered = length (filter (λ entry. is_delivered entry.state) (filter (λ entry. test entry.block) entries));
  aborted = length (filter (λ entry. is_aborted entry.state) (filter (λ entry. test entry.block) entries));
}

abbrev pub is_of : ℕ → Block → Bool
is_of task block = block.task == task

-- how many blocks of a task are registered, delivered and aborted
abbrev pub counts_of : ℕ → List Entry → Counts
counts_of task entries = counted (is_of task) entries

-- the block is one of a group of its task's: group k has the blocks from 512 k on up to 512 (k + 1)
abbrev pub is_in_group : ℕ → ℕ → Block → Bool
is_in_group task group block = is_of task block && (block.index / 512 == group)

-- the sums of two counts
abbrev pub sum_of : Counts → Counts → Counts
sum_of a b = record { registered = a.registered + b.registered; delivered = a.delivered + b.delivered; aborted = a.aborted + b.aborted }

-- the counts of no block
abbrev pub no_counts : Counts
no_counts = record { registered = 0; delivered = 0; aborted = 0 }

-- the counts without `lost` and with `gained`
abbrev pub recounted : Counts → Counts → Counts → Counts
recounted lost gained counts = record {
  registered = counts.registered - lost.registered + gained.registered;
  delivered = counts.delivered - lost.delivered + gained.delivered;
  aborted = counts.aborted - lost.aborted + gained.aborted;
}

-- none of the first counts is greater than that of the second
abbrev pub AreNoMore : Counts → Counts → Type 0
AreNoMore a b = (a.registered ≤ b.registered) × (a.delivered ≤ b.delivered) × (a.aborted ≤ b.aborted)

-- each count fits in its 32 bits
abbrev pub Fit : Counts → Type 0
Fit counts = (counts.registered < 2 ^ 32) × (counts.delivered < 2 ^ 32) × (counts.aborted < 2 ^ 32)
