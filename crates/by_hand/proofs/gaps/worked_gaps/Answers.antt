use Rattle.by_hand.proofs.FullRuns.{both_dwells_is_full, detour_is_full, no_time_to_settle_is_full, detour_on_the_way_is_full}
use Rattle.by_hand.proofs.FullRuns.{detour_over_nothing_is_full, weight_decides_is_full, block_over_the_turn_is_full}
use Rattle.by_hand.proofs.gaps.worked_gaps.Goals as goal

pub returns : goal.returns
returns c = record {
  both_dwells = both_dwells_is_full;
  detour = detour_is_full;
  no_time_to_settle = no_time_to_settle_is_full;
  detour_on_the_way = detour_on_the_way_is_full;
  detour_over_nothing = detour_over_nothing_is_full;
  weight_decides = weight_decides_is_full;
  block_over_the_turn = block_over_the_turn_is_full;
}
