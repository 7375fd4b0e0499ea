use Rattle.fb_detour.proofs.Words.{get_or, ℕ, ◌*◌, ◌+◌, ◌<◌, ◌≤◌, Track, wanted_weight, Detour, move_on, Over, IsDetourIn, IsReach}
use Rattle.fb_detour.proofs.Words.{value_in}
use Rattle.fb_detour.proofs.steps.most_by_steps.Given as goal

abbrev pub invariant-loop-k : goal.invariant-loop-k
invariant-loop-k l = record {
  grows : l.initial.most ≤ l.most;
  small : l.most ≤ 2 * (16000000 * 2048000);
  sooner : (track : Track) (leave : ℕ) → IsReach l.search track l.reach → wanted_weight track l.search.wanted.now ≤ l.weight
      → IsDetourIn l.search track leave
      → leave + move_on l.search.disk.now l.search.gap.now (Over track) < get_or l.search.late.now.limits l.k 0
      → value_in l.search (Detour track leave) ≤ l.most;
}
