use Rattle.fb_service.proofs.Words.{◌≡◌, ℕ, ◌+◌, ◌-◌, ◌*◌, ◌<◌, ◌≤◌, ◌++◌, AllByRecursion, IsTrackOf, place_at, length_of, passages}
use Rattle.fb_service.proofs.Words.{passages_of, all_passages_of, IsUnbroken}
use Rattle.std.proofs.Common.{◌^◌}
use Rattle.fb_service.proofs.service.serve.Given as goal

abbrev pub invariant-loop-served : goal.invariant-loop-served
invariant-loop-served l = record {
  so_far : (all_passages_of l.disk.map l.extents.items ++ passages_of l.disk.map l.last)
      ++ passages l.disk l.last.track l.last.end l.write (l.lbn + l.served) (l.count - l.served)
      ≡ passages l.disk l.fn.source l.now l.write l.lbn l.count;
  extents : AllByRecursion (IsUnbroken l.disk.map) l.extents.items;
  unbroken : IsUnbroken l.disk.map l.last;
  on_disk : IsTrackOf l.disk.map l.last.track;
  next : l.last.first + l.last.count ≡ l.lbn + l.served;
  some : l.last.count ≤ l.served;
  upto : l.served ≤ l.count;
  forward : l.last.begin < l.last.end;
  each : (x : ℕ) → l.lbn ≤ x → x < l.lbn + l.served → 0 < length_of l.disk.map (place_at l.disk.map x);
  later : l.media < l.last.end;
  soon : l.last.end ≤ l.now + l.served * (4 * 10 ^ 9);
}

abbrev pub decreases-loop-served : goal.decreases-loop-served
decreases-loop-served l = l.count - l.served
