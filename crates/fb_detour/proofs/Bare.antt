-- Gaps of a disk on which nothing is wanted.
use Rattle.fb_detour.proofs.Words.{List, arith, ◌≤◌, Track, IsTrackOf, Disk, wanted_of, wanted_weight, Entry, Gap, Plan, Detour, Direct}
use Rattle.fb_detour.proofs.Words.{IsBest, IsNoLater, IsPlan, early_dwell, late_dwell, value, IsGap}
use Rattle.fb_detour.proofs.Ceilings.{two_stays, weight_of_stay}

module _ (disk : Disk) (gap : Gap) (es : List Entry) (is_gap : IsGap disk gap)
    (bare : (track : Track) → IsTrackOf disk.map track → wanted_weight track es ≤ 0) where
  early_track_on_disk : (plan : Plan) → IsPlan disk gap plan → IsTrackOf disk.map (early_dwell disk gap plan).track
  early_track_on_disk (Direct leave) is = is_gap.source
  early_track_on_disk (Detour track leave) is = is.on_disk

  target_on_disk : (plan : Plan) → IsTrackOf disk.map (late_dwell disk gap plan).track
  target_on_disk (Direct leave) = is_gap.target
  target_on_disk (Detour track leave) = is_gap.target

  no_value : (plan : Plan) → IsPlan disk gap plan → value disk gap (wanted_of es) plan ≤ 0
  no_value plan is =
      let early = early_dwell disk gap plan in
      let late = late_dwell disk gap plan in
      omega (
        arith,
        two_stays disk gap plan es,
        weight_of_stay disk early es,
        weight_of_stay disk late es,
        bare early.track (early_track_on_disk plan is),
        bare late.track (target_on_disk plan),
      )

  direct_is_first : (plan : Plan) → IsPlan disk gap plan → IsNoLater (Direct gap.now) plan
  direct_is_first (Direct leave) is = is.0
  direct_is_first (Detour track leave) is = tt

  -- the direct plan that leaves at once is the best
  pub at_once : IsBest disk gap (wanted_of es) (Direct gap.now)
  at_once = record {
    is_plan = (omega arith, is_gap.in_time);
    greatest = λ other is. let none = no_value other is in omega (arith, none);
    first = λ other is same. direct_is_first other is;
  }
