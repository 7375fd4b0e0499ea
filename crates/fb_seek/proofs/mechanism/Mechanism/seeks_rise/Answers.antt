use Rattle.std.proofs.Common.{subst}
use Rattle.fb_seek.specs.Table.{IsTable}
use Rattle.fb_seek.proofs.Rises.{seeks_rise}
use Rattle.fb_seek.proofs.mechanism.Mechanism.seeks_rise.Goals as goal

pub returns : goal.returns
returns c = seeks_rise c.args.self.now (subst IsTable c.self.view_is c.self.invariant.table)
