use Rattle.fb_bgwrite.proofs.Words.{◌≡◌, ◌⊎◌, ◌+◌, ◌*◌, ◌<◌, ◌≤◌, ◌^◌, length, take, sum_by, added, passes_by}
use Rattle.fb_bgwrite.specs.ByAngle.{as_offers, IsLastOf}
use Rattle.fb_bgwrite.proofs.search.written_from.Given as goal

abbrev pub invariant-loop-i : goal.invariant-loop-i
invariant-loop-i l = record {
  sum : l.written.sectors + sum_by (added (passes_by l.turning l.latest)) (take l.from (as_offers l.spots))
      + sum_by (added (passes_by l.turning l.latest)) (take l.end (as_offers l.spots))
      ≡ sum_by (added (passes_by l.turning l.latest)) (take l.i (as_offers l.spots))
      + sum_by (added (passes_by l.turning l.latest)) (as_offers l.spots);
  is_last : IsLastOf l.turning l.latest (as_offers l.spots) (λ k. ((l.from ≤ k) × (k < l.i)) ⊎ (l.end ≤ k)) l.written.sectors
      l.written.last;
  small : l.written.sectors + 2 ^ 32 * (l.end + l.from) ≤ 2 ^ 32 * (length l.spots + l.i);
}
