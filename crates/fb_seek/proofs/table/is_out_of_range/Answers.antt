use Rattle.std.proofs.Common.{arith}
use Rattle.std.proofs.lemmas.Bool.Decides.{nat_tests}
use Rattle.fb_seek.proofs.table.is_out_of_range.Goals as goal

pub returns : goal.returns
returns c = grind (arith, nat_tests)
