use Rattle.by_hand.proofs.WrongRuns.{delivered_too_late_refuted, delivered_twice_refuted, delivered_after_abort_refuted}
use Rattle.by_hand.proofs.WrongRuns.{contents_of_later_refuted, completion_left_out_refuted, no_plan_refuted}
use Rattle.by_hand.proofs.WrongRuns.{detour_without_settle_refuted, served_sooner_refuted, delivery_left_out_is_sound}
use Rattle.by_hand.proofs.WrongRuns.{delivery_left_out_is_not_full}
use Rattle.by_hand.proofs.wrong.wrong_runs.Goals as goal

pub returns : goal.returns
returns c = record {
  too_late = delivered_too_late_refuted;
  twice = delivered_twice_refuted;
  after_abort = delivered_after_abort_refuted;
  contents_of_later = contents_of_later_refuted;
  completion = completion_left_out_refuted;
  no_plan = no_plan_refuted;
  without_settle = detour_without_settle_refuted;
  served_sooner = served_sooner_refuted;
  left_out = delivery_left_out_is_sound;
  not_full = delivery_left_out_is_not_full;
}
