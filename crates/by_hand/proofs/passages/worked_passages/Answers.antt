use Rattle.by_hand.proofs.Placing.{skewed_tracks, slipped_track, moved_sector, passages_over_tracks, passages_over_defects, cuttings}
use Rattle.by_hand.proofs.passages.worked_passages.Goals as goal

pub returns : goal.returns
returns c = record {
  skewed = skewed_tracks;
  slipped = slipped_track;
  moved = moved_sector;
  over_tracks = passages_over_tracks;
  over_defects = passages_over_defects;
  cut = cuttings;
}
