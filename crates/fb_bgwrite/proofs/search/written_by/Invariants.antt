use Rattle.fb_bgwrite.proofs.Words.{◌≡◌, ◌*◌, ◌<◌, ◌≤◌, ◌^◌, take, sum_by, added, passes_by}
use Rattle.fb_bgwrite.specs.ByAngle.{IsLastOf}
use Rattle.fb_bgwrite.proofs.search.written_by.Given as goal

abbrev pub invariant-loop-offer : goal.invariant-loop-offer
invariant-loop-offer l = record {
  room : l.written.sectors ≤ 2 ^ 32 * l.offer-index;
  sum : l.written.sectors ≡ sum_by (added (passes_by l.turning l.latest)) (take l.offer-index l.offers);
  last : IsLastOf l.turning l.latest l.offers (λ i. i < l.offer-index) l.written.sectors l.written.last;
}
