use Rattle.std.proofs.Common.{subst}
use Rattle.fb_geometry.specs.Sound.{IsSound}
use Rattle.fb_decide.specs.RunInputs.{run_inputs}
use Rattle.fb_engine.proofs.ahead.no_look_ahead.Goals as goal

pub returns : goal.returns
returns g c =
    let r = c.requires in
    let disk = c.args.disk.now in
    let latent = c.args.latent.now in
    c.nothing_looks_ahead.ensures
    (run_inputs disk latent c.args.trace_a.now c.args.calls_a.now c.args.until_a g.Q.Queue.key)
    (run_inputs disk latent c.args.trace_b.now c.args.calls_b.now c.args.until_b g.Q.Queue.key)
    c.args.run_a.now c.args.run_b.now c.args.t (subst IsSound c.geometry.ensures c.sound.ensures)
    r.accepted_a r.accepted_b r.full_a r.full_b r.before_a r.before_b r.agree
