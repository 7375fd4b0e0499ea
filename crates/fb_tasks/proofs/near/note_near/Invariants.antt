use Rattle.fb_tasks.proofs.Words.{◌≡◌, ℕ, ◌<◌, ◌≤◌, true, contains, pair_cmp}
use Rattle.fb_tasks.proofs.near.note_near.Given as goal

-- the task is noted in the chunks before this one
abbrev pub invariant-loop-chunk : goal.invariant-loop-chunk
invariant-loop-chunk l = record {
  stay : (k : ℕ × ℕ) → contains pair_cmp l.initial.near k ≡ true → contains pair_cmp l.near k ≡ true;
  noted : (s : ℕ) → l.fn.chunks.first ≤ s → s < l.chunk → contains pair_cmp l.near (s, l.task) ≡ true;
}
