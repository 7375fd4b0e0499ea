use Rattle.fb_decide.proofs.Words.{subst, on_ok_weaker, IsBest, served_from}
use Rattle.fb_decide.proofs.Delivering.{fits-told, wanted-told}
use Rattle.fb_decide.proofs.Served.{has-delivered-around}
use Rattle.fb_decide.proofs.background.Background.deliver_around.Goals as goal

pub best-plan-requires-clause-blocks : goal.best-plan-requires-clause-blocks
best-plan-requires-clause-blocks g c =
    fits-told c.args.disk.now c.requires.current.0 c.args.self.now.sessions c.args.self.now.blocks c.requires.current.1.tells

pub returns : goal.returns
returns g c = on_ok_weaker c.ride.result (λ ridden past current.
    let disk = c.args.disk.now in
    has-delivered-around disk c.args.store.now (served_from disk c.args.start) c.best-plan.result past c.gap_before-gap.result
    c.args.self.now.rows c.go_through.new.self c.ride.new.self c.gap_before-gap.ensures.value
    (subst (λ blocks. IsBest disk c.gap_before-gap.result blocks c.best-plan.result) (wanted-told current.tells) c.best-plan.ensures)
    (c.in_ok-go_through.ensures.delivered past current) (c.in_ok-go_through.ensures.left past current) ridden)
    c.ride.ensures
