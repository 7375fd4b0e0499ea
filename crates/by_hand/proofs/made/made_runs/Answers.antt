use Rattle.by_hand.proofs.MadeRuns.{both_dwells_is_made, detour_is_made, detour_over_nothing_is_made, weight_decides_is_made}
use Rattle.by_hand.proofs.made.made_runs.Goals as goal

pub returns : goal.returns
returns c = record {
  both_dwells = both_dwells_is_made;
  detour = detour_is_made;
  detour_over_nothing = detour_over_nothing_is_made;
  weight_decides = weight_decides_is_made;
}
