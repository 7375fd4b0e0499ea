use Rattle.fb_sectormap.proofs.Words.{◌≡◌, ◌+◌, ◌-◌, ap, sym, ◌∙◌, arith, Place, track_at}
use Rattle.fb_sectormap.proofs.map.SectorMap.move_to.Goals as goal

pub returns-else-not-has-clause-track : goal.returns-else-not-has-clause-track
returns-else-not-has-clause-track c =
    let inside = c.has.ensures.0 c.if-not-has.false in
    let before = c.args.lbn - c.args.span.now.first in
    let same : c.args.span.now.first + before ≡ c.args.lbn = omega (arith, inside.0) in
    sym (ap (track_at c.args.self.now) (sym same)
    ∙ ap (λ (p : Place). p.track) (c.requires.span.next before (omega (arith, inside.0, inside.1))))
