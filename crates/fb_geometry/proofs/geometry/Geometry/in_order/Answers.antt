use Rattle.fb_geometry.proofs.Words.{PerCylinder, ap, arith, sym, ◌*◌}
use Rattle.fb_geometry.proofs.{Lookups.length_by}
use Rattle.fb_geometry.proofs.geometry.Geometry.in_order.Goals as goal

pub unmarked_from-requires-clause-order : goal.unmarked_from-requires-clause-order
unmarked_from-requires-clause-order c =
    let heads = ap (λ heads. heads * c.args.zone.sectors) c.heads.ensures.value in
    omega (arith, heads, length_by c.args.self.now c.args.zone c.args.cylinder c.requires.zone PerCylinder (sym c.in-PerCylinder.ensures))
