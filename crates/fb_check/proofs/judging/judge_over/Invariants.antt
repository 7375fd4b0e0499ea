use Rattle.fb_check.proofs.Words.{◌≡◌, false, decisions_left, inputs_of, state_of, reports_of, HasJudged}
use Rattle.std.proofs.Common.{None}
use Rattle.fb_check.proofs.judging.judge_over.Given as goal

abbrev pub invariant-loop-goes_on : goal.invariant-loop-goes_on
invariant-loop-goes_on g l = record {
  inputs : l.decider.inputs ≡ l.inputs;
  judged : HasJudged (inputs_of l.inputs g.Q.Queue.key) (reports_of l.inputs l.printed) l.goes_on
      (state_of g.Q.Queue.pending g.Q.Queue.joined l.decider) l.fore l.back;
  right : l.goes_on ≡ false → l.fore.wrong ≡ None;
  fits : g.Q.Queue.fits l.decider.queue l.decider.inputs.disk.now;
}

abbrev pub decreases-loop-goes_on : goal.decreases-loop-goes_on
decreases-loop-goes_on g l =
    decisions_left (inputs_of l.inputs g.Q.Queue.key) l.goes_on (state_of g.Q.Queue.pending g.Q.Queue.joined l.decider)
