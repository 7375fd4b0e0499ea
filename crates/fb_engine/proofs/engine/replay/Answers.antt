use Rattle.std.specs.Prelude.{IfOk}
use Rattle.std.proofs.Common.{subst}
use Rattle.std.proofs.lemmas.Result.{IfOk-weaker}
use Rattle.fb_decide.specs.RunInputs.{inputs_of, run_inputs}
use Rattle.fb_engine.specs.Progress.{IsWhole}
use Rattle.fb_engine.proofs.Looping.{at_first}
use Rattle.fb_engine.proofs.engine.replay.Goals as goal

pub run_of-requires-clause-advanced : goal.run_of-requires-clause-advanced
run_of-requires-clause-advanced g c = at_first c.in_ok-decider.ensures.made c.in_ok-decider.ensures.no_fore c.in_ok-decider.ensures.no_back

pub returns : goal.returns
returns g c =
    let whole = subst (λ inputs. IfOk c.run_of.result (IsWhole (inputs_of inputs g.Q.Queue.key)))
    c.in_ok-decider.ensures.inputs c.run_of.ensures in
    let by = IfOk-weaker c.run_of.result (IsWhole (run_inputs c.args.disk.now c.args.latent.now c.args.trace.now c.args.calls.now c.args.until g.Q.Queue.key)) in
    record {
      full = by _ (λ run is. is.full) whole;
      few = by _ (λ run is. is.few) whole;
      early = by _ (λ run is. is.early) whole;
      tasks = by _ (λ run is. is.tasks) whole;
    }
