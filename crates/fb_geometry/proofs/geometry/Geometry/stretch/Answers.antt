use Rattle.fb_geometry.proofs.Words.{arith, cases_lt, inl, inr, mul-le, ◌≡◌, ◌⊎◌}
use Rattle.fb_geometry.proofs.{Lookups.slots_upto, Stretched.stretched_by, Stretched.lies}
use Rattle.fb_geometry.proofs.geometry.Geometry.stretch.Goals as goal

pub position-position-requires-clause-head : goal.position-position-requires-clause-head
position-position-requires-clause-head c =
    let o = c.in_order-in_order in
    let on = lies c.args.self.now c.zone_of-zone.result c.args.cylinder c.zone_of-zone.ensures.zone c.args.j o.result
    c.sector_place-place.result o.ensures.order o.ensures.some c.sector_place-place.ensures in
    omega (arith, on.head)

pub overflow_add-end : goal.overflow_add-end
overflow_add-end c =
    let head = c.sector_place-place.result.track.head in
    omega (arith, slots_upto, mul-le head 1 head c.zone_of-zone.result.sectors (omega arith) (omega arith))

pub overflow_mul-end : goal.overflow_mul-end
overflow_mul-end c = omega (arith, slots_upto)

pub returns : goal.returns
returns c =
    let o = c.in_order-in_order in
    let at = c.zone_of-zone.ensures.zone in
    let good = c.unmarked_from-good in
    let marks = c.defects_on.ensures.marks c.zone_of-zone.result at in
    let one : (c.min.result ≡ good.result) ⊎ (c.min.result ≡ o.result) = elim (cases_lt good.result o.result) [
      | inl less ↦ inl (omega (arith, c.min.ensures, less))
      | inr more ↦ inr (omega (arith, c.min.ensures, more))
    ] in
    stretched_by c.args.self.now c.zone_of-zone.result c.args.cylinder at c.args.j o.result c.sector_place-place.result o.ensures.order
    o.ensures.some c.sector_place-place.ensures c.position-position.result good.result c.min.result
    (rw c.heads.ensures.value at c.position-position.ensures.value) (rw marks at good.ensures.free) (rw marks at good.ensures.ends)
    good.ensures.bound (omega (arith, c.min.ensures)) (omega (arith, c.min.ensures)) one
