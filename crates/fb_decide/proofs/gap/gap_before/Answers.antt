use Rattle.std.proofs.Common.{ap}
use Rattle.fb_decide.proofs.Served.{is-gap}
use Rattle.fb_decide.proofs.gap.gap_before.Goals as goal

pub returns-clause-gap : goal.returns-clause-gap
returns-clause-gap c = is-gap c.args.disk.now c.args.start c.args.service.now c.place.result.track c.requires.start c.requires.service
    c.place.ensures.track (ap (λ place. place.track) c.place.ensures.value)
