-- Each worked run is the one that the definition of the full run makes, so it is full: computed.
use Rattle.std.proofs.Common.{◌≡◌, refl, lit≤}
use Rattle.fb_model.specs.FullRun.{IsFull}
use Rattle.fb_model.proofs.TheRun.{computed_is_full}
use Rattle.by_hand.specs.Gaps.{both_dwells, detour, no_time_to_settle, detour_on_the_way, detour_over_nothing}
use Rattle.by_hand.specs.Gaps.{weight_decides, block_over_the_turn}
use Rattle.by_hand.specs.Idle.{idle_to_the_end, idle_too_short, grown_defect_cuts, promoted_read_carries, caught_not_carried}
use Rattle.by_hand.specs.Sessions.{abort_while_waiting, abort_too_late, suspended, closed}
use Rattle.by_hand.specs.Written.{overwritten_between, latent_until_written, read_as_the_write_ends, scrub_finds_latent}
use Rattle.by_hand.specs.Backups.{overwritten_backup, backup_without_aborted}
use Rattle.by_hand.specs.Cleaning.{segments_by_benefit, segment_without_live_blocks, segment_keeps_its_passages}
use Rattle.by_hand.specs.Cleaning.{closed_with_chosen_segment, suspended_session_chooses}
use Rattle.by_hand.specs.Known.{run_without_third, run_with_third}
use Rattle.by_hand.proofs.OnSmallDisks.{on_small_disks}

pub both_dwells_is_full : IsFull both_dwells.inputs both_dwells.run
unfolding on_small_disks
both_dwells_is_full = computed_is_full both_dwells.inputs both_dwells.run
    ((lit≤ tt, lit≤ tt), ((lit≤ tt, lit≤ tt), (tt, tt))) refl refl

pub detour_is_full : IsFull detour.inputs detour.run
unfolding on_small_disks
detour_is_full = computed_is_full detour.inputs detour.run ((lit≤ tt, lit≤ tt), ((lit≤ tt, lit≤ tt), (tt, tt))) refl refl

pub no_time_to_settle_is_full : IsFull no_time_to_settle.inputs no_time_to_settle.run
unfolding on_small_disks
no_time_to_settle_is_full = computed_is_full no_time_to_settle.inputs no_time_to_settle.run
    ((lit≤ tt, lit≤ tt), ((lit≤ tt, lit≤ tt), (tt, tt))) refl refl

pub detour_on_the_way_is_full : IsFull detour_on_the_way.inputs detour_on_the_way.run
unfolding on_small_disks
detour_on_the_way_is_full = computed_is_full detour_on_the_way.inputs detour_on_the_way.run
    ((lit≤ tt, lit≤ tt), (tt, tt)) refl refl

pub detour_over_nothing_is_full : IsFull detour_over_nothing.inputs detour_over_nothing.run
unfolding on_small_disks
detour_over_nothing_is_full = computed_is_full detour_over_nothing.inputs detour_over_nothing.run
    ((lit≤ tt, lit≤ tt), (tt, tt)) refl refl

pub weight_decides_is_full : IsFull weight_decides.inputs weight_decides.run
unfolding on_small_disks
weight_decides_is_full = computed_is_full weight_decides.inputs weight_decides.run
    ((lit≤ tt, lit≤ tt), ((lit≤ tt, lit≤ tt), (tt, tt))) refl refl

pub block_over_the_turn_is_full : IsFull block_over_the_turn.inputs block_over_the_turn.run
unfolding on_small_disks
block_over_the_turn_is_full = computed_is_full block_over_the_turn.inputs block_over_the_turn.run
    ((lit≤ tt, lit≤ tt), (tt, tt)) refl refl

pub idle_to_the_end_is_full : IsFull idle_to_the_end.inputs idle_to_the_end.run
unfolding on_small_disks
idle_to_the_end_is_full = computed_is_full idle_to_the_end.inputs idle_to_the_end.run
    (tt, ((lit≤ tt, lit≤ tt), (tt, tt))) refl refl

pub idle_too_short_is_full : IsFull idle_too_short.inputs idle_too_short.run
unfolding on_small_disks
idle_too_short_is_full = computed_is_full idle_too_short.inputs idle_too_short.run
    (tt, ((lit≤ tt, lit≤ tt), (tt, tt))) refl refl

pub grown_defect_cuts_is_full : IsFull grown_defect_cuts.inputs grown_defect_cuts.run
unfolding on_small_disks
grown_defect_cuts_is_full = computed_is_full grown_defect_cuts.inputs grown_defect_cuts.run (tt, tt) refl refl

pub promoted_read_carries_is_full : IsFull promoted_read_carries.inputs promoted_read_carries.run
unfolding on_small_disks
promoted_read_carries_is_full = computed_is_full promoted_read_carries.inputs promoted_read_carries.run
    (tt, ((lit≤ tt, lit≤ tt), (tt, tt))) refl refl

pub caught_not_carried_is_full : IsFull caught_not_carried.inputs caught_not_carried.run
unfolding on_small_disks
caught_not_carried_is_full = computed_is_full caught_not_carried.inputs caught_not_carried.run
    (tt, ((lit≤ tt, lit≤ tt), (tt, tt))) refl refl

pub abort_while_waiting_is_full : IsFull abort_while_waiting.inputs abort_while_waiting.run
unfolding on_small_disks
abort_while_waiting_is_full = computed_is_full abort_while_waiting.inputs abort_while_waiting.run
    ((lit≤ tt, lit≤ tt), ((lit≤ tt, lit≤ tt), (tt, tt))) refl refl

pub abort_too_late_is_full : IsFull abort_too_late.inputs abort_too_late.run
unfolding on_small_disks
abort_too_late_is_full = computed_is_full abort_too_late.inputs abort_too_late.run
    ((lit≤ tt, lit≤ tt), ((lit≤ tt, lit≤ tt), (tt, tt))) refl refl

pub suspended_is_full : IsFull suspended.inputs suspended.run
unfolding on_small_disks
suspended_is_full = computed_is_full suspended.inputs suspended.run
    ((lit≤ tt, lit≤ tt), ((lit≤ tt, lit≤ tt), (tt, tt))) refl refl

pub closed_is_full : IsFull closed.inputs closed.run
unfolding on_small_disks
closed_is_full = computed_is_full closed.inputs closed.run ((lit≤ tt, lit≤ tt), ((lit≤ tt, lit≤ tt), (tt, tt))) refl refl

pub overwritten_between_is_full : IsFull overwritten_between.inputs overwritten_between.run
unfolding on_small_disks
overwritten_between_is_full = computed_is_full overwritten_between.inputs overwritten_between.run
    (tt, ((lit≤ tt, lit≤ tt), (tt, (tt, tt)))) refl refl

pub latent_until_written_is_full : IsFull latent_until_written.inputs latent_until_written.run
unfolding on_small_disks
latent_until_written_is_full = computed_is_full latent_until_written.inputs latent_until_written.run
    (tt, ((lit≤ tt, lit≤ tt), (tt, (tt, tt)))) refl refl

pub read_as_the_write_ends_is_full : IsFull read_as_the_write_ends.inputs read_as_the_write_ends.run
unfolding on_small_disks
read_as_the_write_ends_is_full = computed_is_full read_as_the_write_ends.inputs read_as_the_write_ends.run
    ((lit≤ tt, lit≤ tt), (tt, tt)) refl refl

pub scrub_finds_latent_is_full : IsFull scrub_finds_latent.inputs scrub_finds_latent.run
unfolding on_small_disks
scrub_finds_latent_is_full = computed_is_full scrub_finds_latent.inputs scrub_finds_latent.run (tt, tt) refl refl

pub overwritten_backup_is_full : IsFull overwritten_backup.inputs overwritten_backup.run
unfolding on_small_disks
overwritten_backup_is_full = computed_is_full overwritten_backup.inputs overwritten_backup.run
    (tt, ((lit≤ tt, lit≤ tt), (tt, tt))) refl refl

pub backup_without_aborted_is_full : IsFull backup_without_aborted.inputs backup_without_aborted.run
unfolding on_small_disks
backup_without_aborted_is_full = computed_is_full backup_without_aborted.inputs backup_without_aborted.run
    (tt, ((lit≤ tt, lit≤ tt), (tt, tt))) refl refl

pub segments_by_benefit_is_full : IsFull segments_by_benefit.inputs segments_by_benefit.run
unfolding on_small_disks
segments_by_benefit_is_full = computed_is_full segments_by_benefit.inputs segments_by_benefit.run
    (tt, ((lit≤ tt, lit≤ tt), (tt, tt))) refl refl

pub segment_without_live_blocks_is_full : IsFull segment_without_live_blocks.inputs segment_without_live_blocks.run
unfolding on_small_disks
segment_without_live_blocks_is_full = computed_is_full segment_without_live_blocks.inputs segment_without_live_blocks.run
    (tt, tt) refl refl

pub segment_keeps_its_passages_is_full : IsFull segment_keeps_its_passages.inputs segment_keeps_its_passages.run
unfolding on_small_disks
segment_keeps_its_passages_is_full = computed_is_full segment_keeps_its_passages.inputs segment_keeps_its_passages.run
    (tt, ((lit≤ tt, lit≤ tt), (tt, ((lit≤ tt, lit≤ tt), (tt, tt))))) refl refl

pub closed_with_chosen_segment_is_full : IsFull closed_with_chosen_segment.inputs closed_with_chosen_segment.run
unfolding on_small_disks
closed_with_chosen_segment_is_full = computed_is_full closed_with_chosen_segment.inputs closed_with_chosen_segment.run
    (tt, (tt, tt)) refl refl

pub suspended_session_chooses_is_full : IsFull suspended_session_chooses.inputs suspended_session_chooses.run
unfolding on_small_disks
suspended_session_chooses_is_full = computed_is_full suspended_session_chooses.inputs suspended_session_chooses.run
    (tt, (tt, tt)) refl refl

pub run_without_third_is_full : IsFull run_without_third.inputs run_without_third.run
unfolding on_small_disks
run_without_third_is_full = computed_is_full run_without_third.inputs run_without_third.run
    ((lit≤ tt, lit≤ tt), ((lit≤ tt, lit≤ tt), (tt, tt))) refl refl

pub run_with_third_is_full : IsFull run_with_third.inputs run_with_third.run
unfolding on_small_disks
run_with_third_is_full = computed_is_full run_with_third.inputs run_with_third.run
    ((lit≤ tt, lit≤ tt), ((lit≤ tt, lit≤ tt), ((lit≤ tt, lit≤ tt), (tt, tt)))) refl refl
