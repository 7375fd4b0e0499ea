use Rattle.std.proofs.Common.{arith, sym, subst}
use Rattle.std.specs.List.{AllByRecursion}
use Rattle.fb_model.specs.Accepted.{IsRequestOf}
use Rattle.test_queues.proofs.at_random.taken.Goals as goal

pub loop-number-init : goal.loop-number-init
loop-number-init g c = record {
  joined = omega (arith, c.requires.fresh);
  fits = g.met.Q.Queue.fits_any c.args.queue c.args.disk.now c.requires.empty;
  on_disk = subst (AllByRecursion (IsRequestOf c.args.disk.now.map)) (sym c.requires.empty) tt;
}
