use Rattle.fb_tasks.proofs.Words.{◌≡◌, ◌⊎◌, ◌<◌, ◌≤◌, ℕ, true, false, contains, pair_cmp, IsAmong}
use Rattle.fb_tasks.proofs.near.forget_near.Given as goal

-- the task is out of the chunks before this one, and nothing but notes of it in the chunks was taken out
abbrev pub invariant-loop-chunk : goal.invariant-loop-chunk
invariant-loop-chunk l = record {
  others : (k : ℕ × ℕ) → contains pair_cmp l.initial.near k ≡ true
      → ((k.1 ≡ l.task) × IsAmong l.fn.chunks k.0) ⊎ (contains pair_cmp l.near k ≡ true);
  gone : (s : ℕ) → l.fn.chunks.first ≤ s → s < l.chunk → contains pair_cmp l.near (s, l.task) ≡ false;
}
