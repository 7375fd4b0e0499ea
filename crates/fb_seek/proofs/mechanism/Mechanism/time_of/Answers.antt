use Rattle.std.proofs.Common.{◌≡◌, ap, ◌∙◌, subst}
use Rattle.fb_seek.specs.Mechanics.{Mechanics}
use Rattle.fb_seek.specs.Table.{IsTable}
use Rattle.fb_seek.proofs.LookUp.{seek_from, seek_one, within_table}
use Rattle.fb_seek.proofs.mechanism.Mechanism.time_of.Goals as goal

pub returns-then-next-eq0-clause-value : goal.returns-then-next-eq0-clause-value
returns-then-next-eq0-clause-value c =
    let same : c.as_slice-points.result.now ≡ c.args.self.now.points = c.as_slice-points.ensures.value
    ∙ ap (λ (arm : Mechanics). arm.points) c.self.view_is in
    let table = subst IsTable c.self.view_is c.self.invariant.table in
    let within = within_table c.args.self.now c.as_slice-points.result.now c.next_point-next.result c.args.distance table same c.requires
    c.next_point-next.ensures.bound c.next_point-next.ensures.passed in
    let reached = c.next_point-next.ensures.reached (record { distance = 0; time = 0 }) within in
    seek_one c.args.self.now c.as_slice-points.result.now c.args.distance _ table same c.if-distance-eq0.false
    (rw c.if-next-eq0.true at reached)

pub bounds-points-next-2 : goal.bounds-points-next-2
bounds-points-next-2 c =
    let same : c.as_slice-points.result.now ≡ c.args.self.now.points = c.as_slice-points.ensures.value
    ∙ ap (λ (arm : Mechanics). arm.points) c.self.view_is in
    within_table c.args.self.now c.as_slice-points.result.now c.next_point-next.result c.args.distance
    (subst IsTable c.self.view_is c.self.invariant.table) same c.requires
    c.next_point-next.ensures.bound c.next_point-next.ensures.passed

pub returns-clause-value : goal.returns-clause-value
returns-clause-value c =
    let same : c.as_slice-points.result.now ≡ c.args.self.now.points = c.as_slice-points.ensures.value
    ∙ ap (λ (arm : Mechanics). arm.points) c.self.view_is in
    let table = subst IsTable c.self.view_is c.self.invariant.table in
    let within = within_table c.args.self.now c.as_slice-points.result.now c.next_point-next.result c.args.distance table same c.requires
    c.next_point-next.ensures.bound c.next_point-next.ensures.passed in
    c.interpolate.ensures.value
    ∙ seek_from c.args.self.now c.as_slice-points.result.now c.next_point-next.result c.args.distance _ same c.if-distance-eq0.false
    c.if-next-eq0.false within
    c.next_point-next.ensures.passed (c.next_point-next.ensures.reached (record { distance = 0; time = 0 }) within)
