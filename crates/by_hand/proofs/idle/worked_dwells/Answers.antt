use Rattle.by_hand.proofs.FullRuns.{idle_to_the_end_is_full, idle_too_short_is_full, grown_defect_cuts_is_full}
use Rattle.by_hand.proofs.FullRuns.{promoted_read_carries_is_full, caught_not_carried_is_full}
use Rattle.by_hand.proofs.idle.worked_dwells.Goals as goal

pub returns : goal.returns
returns c = record {
  idle_to_the_end = idle_to_the_end_is_full;
  idle_too_short = idle_too_short_is_full;
  grown_defect_cuts = grown_defect_cuts_is_full;
  promoted_read_carries = promoted_read_carries_is_full;
  caught_not_carried = caught_not_carried_is_full;
}
