use Rattle.fb_bgwrite.proofs.OneSpill.{best_spills_exist}
use Rattle.fb_bgwrite.proofs.laws.one_best_spill.Goals as goal

pub returns : goal.returns
returns c = best_spills_exist
