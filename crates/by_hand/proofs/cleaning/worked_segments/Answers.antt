use Rattle.by_hand.proofs.FullRuns.{segments_by_benefit_is_full, segment_without_live_blocks_is_full}
use Rattle.by_hand.proofs.FullRuns.{segment_keeps_its_passages_is_full, closed_with_chosen_segment_is_full}
use Rattle.by_hand.proofs.FullRuns.{suspended_session_chooses_is_full}
use Rattle.by_hand.proofs.cleaning.worked_segments.Goals as goal

pub returns : goal.returns
returns c = record {
  segments_by_benefit = segments_by_benefit_is_full;
  segment_without_live_blocks = segment_without_live_blocks_is_full;
  segment_keeps_its_passages = segment_keeps_its_passages_is_full;
  closed_with_chosen_segment = closed_with_chosen_segment_is_full;
  suspended_session_chooses = suspended_session_chooses_is_full;
}
