use Rattle.fb_plan.proofs.Samples.{sample-more}
use Rattle.test_queues.proofs.gaps.registered.Goals as goal

pub loop-i-preserved : goal.loop-i-preserved
loop-i-preserved c = sample-more c.args.disk.now c.loop-i.blocks c.register.new.self _ c.loop-i.i c.in_ok-register-in-Some.ensures.ok
    c.in-Some.ensures.numbered.0 c.in-Some.ensures.fits c.loop-i.invariant
