use Rattle.std.proofs.Common.{◌≡◌}
use Rattle.fb_decide.specs.Making.{decisions_left}
use Rattle.fb_decide.specs.RunInputs.{inputs_of}
use Rattle.fb_decide.specs.RunState.{state_of}
use Rattle.fb_engine.specs.Progress.{HasAdvanced}
use Rattle.fb_engine.proofs.engine.decide_all.Given as goal

abbrev pub invariant-loop-goes_on : goal.invariant-loop-goes_on
invariant-loop-goes_on g l = record {
  inputs : l.decider.inputs ≡ l.fn.decider.inputs;
  advanced : HasAdvanced (inputs_of l.fn.decider.inputs g.Q.Queue.key) l.goes_on (state_of g.Q.Queue.pending g.Q.Queue.joined l.decider);
  fits : g.Q.Queue.fits l.decider.queue l.decider.inputs.disk.now;
}

abbrev pub decreases-loop-goes_on : goal.decreases-loop-goes_on
decreases-loop-goes_on g l =
    decisions_left (inputs_of l.fn.decider.inputs g.Q.Queue.key) l.goes_on (state_of g.Q.Queue.pending g.Q.Queue.joined l.decider)
