-- Runs by the definition of the full run, computed.
use Rattle.std.proofs.Common.{◌≡◌, refl}
use Rattle.fb_model.specs.TheRun.{the_run}
use Rattle.by_hand.specs.Gaps.{both_dwells, detour, detour_over_nothing, weight_decides}
use Rattle.by_hand.proofs.OnSmallDisks.{on_small_disks}

pub both_dwells_is_made : the_run both_dwells.inputs ≡ both_dwells.run
unfolding on_small_disks
both_dwells_is_made = refl

pub detour_is_made : the_run detour.inputs ≡ detour.run
unfolding on_small_disks
detour_is_made = refl

pub detour_over_nothing_is_made : the_run detour_over_nothing.inputs ≡ detour_over_nothing.run
unfolding on_small_disks
detour_over_nothing_is_made = refl

pub weight_decides_is_made : the_run weight_decides.inputs ≡ weight_decides.run
unfolding on_small_disks
weight_decides_is_made = refl
