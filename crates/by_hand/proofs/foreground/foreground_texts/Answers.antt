use Rattle.by_hand.proofs.Texts.{first_read, read_in_time, read_too_late, read_over_tracks, read_over_skewed_tracks, read_over_slip}
use Rattle.by_hand.proofs.Texts.{read_over_moved, read_of_uneven_slots, read_of_nothing}
use Rattle.by_hand.proofs.foreground.foreground_texts.Goals as goal

pub returns : goal.returns
returns c = record {
  first = first_read;
  in_time = read_in_time;
  too_late = read_too_late;
  over_tracks = read_over_tracks;
  skewed = read_over_skewed_tracks;
  slip = read_over_slip;
  moved = read_over_moved;
  uneven = read_of_uneven_slots;
  empty = read_of_nothing;
}
