use Rattle.std.proofs.Common.{◌∙◌, sym, subst, true}
use Rattle.fb_decide.specs.Making.{HasMade}
use Rattle.fb_decide.specs.RunInputs.{inputs_of}
use Rattle.fb_decide.specs.RunState.{state_of}
use Rattle.fb_decide.proofs.Looping.{one_by}
use Rattle.fb_engine.proofs.Looping.{gone_on, one_on, less_by}
use Rattle.fb_engine.proofs.engine.decide_all.Goals as goal

pub decide-requires-clause-made : goal.decide-requires-clause-made
decide-requires-clause-made g c =
    let advanced = gone_on c.loop-goes_on-test.true c.loop-goes_on.invariant.advanced in (
      advanced.steps,
      subst (λ inputs. HasMade (inputs_of inputs g.Q.Queue.key) true advanced.steps
          (state_of g.Q.Queue.pending g.Q.Queue.joined c.loop-goes_on.decider))
          (sym c.loop-goes_on.invariant.inputs) advanced.made,
    )

pub loop-goes_on-preserved : goal.loop-goes_on-preserved
loop-goes_on-preserved g c =
    let advanced = gone_on c.loop-goes_on-test.true c.loop-goes_on.invariant.advanced in
    record {
      inputs = c.in_ok-goes_on.ensures.inputs ∙ c.loop-goes_on.invariant.inputs;
      advanced = one_on c.decisions_make_a_run.ensures advanced
          (one_by c.loop-goes_on.invariant.inputs c.in_ok-goes_on.ensures.decided advanced.steps advanced.made);
      fits = c.in_ok-goes_on.ensures.fits;
    }

pub loop-goes_on-smaller : goal.loop-goes_on-smaller
loop-goes_on-smaller g c =
    let advanced = gone_on c.loop-goes_on-test.true c.loop-goes_on.invariant.advanced in
    less_by {inputs = inputs_of c.args.decider.now.inputs g.Q.Queue.key} c.loop-goes_on-test.true
    (one_by c.loop-goes_on.invariant.inputs c.in_ok-goes_on.ensures.decided advanced.steps advanced.made)

pub returns : goal.returns
returns g c = record { advanced = gone_on c.loop-goes_on-test.false c.loop-goes_on.invariant.advanced }
