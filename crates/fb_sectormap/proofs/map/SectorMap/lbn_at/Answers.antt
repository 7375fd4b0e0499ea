use Rattle.fb_sectormap.proofs.Words.{◌≡◌, ℕ, arith, subst, Some, slice_get, Shape, data_list_at, IsSound}
use Rattle.fb_sectormap.proofs.ByCylinder.{not_placed, numbered}
use Rattle.fb_sectormap.proofs.map.SectorMap.lbn_at.Goals as goal

pub returns-in_err-sector : goal.returns-in_err-sector
returns-in_err-sector c =
    let disk = c.args.self.now in
    let none : (j : ℕ) → slice_get (data_list_at disk c.args.track.cylinder) j ≡ Some (record { track = c.args.track; slot = c.args.slot })
    → ⊥ =
    subst (λ (d : Shape). (j : ℕ) → slice_get (data_list_at d c.args.track.cylinder) j
    ≡ Some (record { track = c.args.track; slot = c.args.slot }) → ⊥) c.self.view_is c.in_err-sector.ensures in
    rw c.from_residual.ensures (record {
      found =
          not_placed disk (subst IsSound c.self.view_is c.self.invariant.sound) (record { track = c.args.track; slot = c.args.slot }) none;
    })

pub overflow_add-result : goal.overflow_add-result
overflow_add-result c =
    let disk = c.args.self.now in
    let sound : IsSound disk = subst IsSound c.self.view_is c.self.invariant.sound in
    let listed = subst (λ (d : Shape). slice_get (data_list_at d c.args.track.cylinder) c.in_ok-sector.sector
    ≡ Some (record { track = c.args.track; slot = c.args.slot })) c.self.view_is c.in_ok-sector.ensures in
    omega (
      arith,
      (numbered disk sound c.first_of.result c.in_ok-sector.sector (record { track = c.args.track; slot = c.args.slot })
          c.requires.cylinder c.first_of.ensures listed).0,
    )

pub returns : goal.returns
returns c =
    let disk = c.args.self.now in
    let sound : IsSound disk = subst IsSound c.self.view_is c.self.invariant.sound in
    let listed = subst (λ (d : Shape). slice_get (data_list_at d c.args.track.cylinder) c.in_ok-sector.sector
    ≡ Some (record { track = c.args.track; slot = c.args.slot })) c.self.view_is c.in_ok-sector.ensures in
    record {
      found = (numbered disk sound c.first_of.result c.in_ok-sector.sector (record { track = c.args.track; slot = c.args.slot })
          c.requires.cylinder c.first_of.ensures listed).1;
    }
