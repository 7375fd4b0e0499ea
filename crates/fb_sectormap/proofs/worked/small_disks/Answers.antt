use Rattle.fb_sectormap.proofs.Computed.{slips_on_track, hold_nothing, slips_on_cylinder, cut_behind_moved}
use Rattle.fb_sectormap.proofs.worked.small_disks.Goals as goal

pub returns : goal.returns
returns c = record { slip_on_track = slips_on_track; nothing = hold_nothing; slip_on_cylinder = slips_on_cylinder; cut = cut_behind_moved }
