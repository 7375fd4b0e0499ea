use Rattle.fb_bgwrite.proofs.Words.{◌≡◌, ◌*◌, ◌<◌, ◌≤◌, ℕ, Some, slice_get, true, Entry, is_wanted, on_track}
use Rattle.fb_bgwrite.proofs.pending.Pending.renew.Given as goal

-- no pending block on a track so far is worth less
abbrev pub invariant-loop-head : goal.invariant-loop-head
invariant-loop-head l = (head i : ℕ) (e : Entry) → head < l.head
    → slice_get (on_track (record { cylinder = l.cylinder; head = head }) l.self-inside.blocks) i ≡ Some e
    → is_wanted e.state ≡ true → l.least ≤ e.block.weight * e.block.count
