use Rattle.fb_sectormap.proofs.Words.{◌≡◌, ◌∙◌, ◌+◌, ◌-◌, ap, length, subst, sym, arith, Shape, data_list_at, IsSound, sectors_before}
use Rattle.fb_geometry.specs.Even.{IsLookedUp}
use Rattle.fb_sectormap.proofs.Running.{cylinder_of_sector, end_fits, sector_between}
use Rattle.fb_sectormap.proofs.map.SectorMap.run_of.Goals as goal
use Rattle.fb_sectormap.proofs.map.SectorMap.run_of.Goals.{After-cylinder_sectors}

-- as many sectors as the cylinder has
size : (c : After-cylinder_sectors) → c.cylinder_sectors.result ≡ length (data_list_at c.args.self.now c.by_cylinder-at.result.cylinder)
size c = subst (λ (d : Shape). c.cylinder_sectors.result ≡ length (data_list_at d c.by_cylinder-at.result.cylinder)) c.self.view_is
    c.cylinder_sectors.ensures.value

pub overflow_add-result : goal.overflow_add-result
overflow_add-result c =
    let at = c.by_cylinder-at in
    let sound = subst IsSound c.self.view_is c.self.invariant.sound in
    omega (
      arith,
      end_fits c.args.self.now sound at.result.cylinder at.result.sector c.args.lbn at.ensures c.cylinder_sectors.result
          (size (goal.at.overflow_add-result c).After-cylinder_sectors),
    )

pub returns-clause-cylinder : goal.returns-clause-cylinder
returns-clause-cylinder c =
    let at = c.by_cylinder-at in
    c.cylinder.ensures.number ∙ sym (cylinder_of_sector c.args.self.now (subst IsSound c.self.view_is c.self.invariant.sound)
    at.result.cylinder at.result.sector c.args.lbn at.ensures).1

pub returns-clause-run : goal.returns-clause-run
returns-clause-run c =
    let disk = c.args.self.now in
    let sound = subst IsSound c.self.view_is c.self.invariant.sound in
    let at = c.by_cylinder-at in
    let on = c.cylinder.result in
    let first = c.args.lbn - at.result.sector in
    let end = first + c.cylinder_sectors.result in
    let number = c.cylinder.ensures.number in
    let many = size (goal.at.returns-clause-run c).After-cylinder_sectors in
    let starts : first ≡ sectors_before disk on.number = omega (arith, at.ensures.number, ap (sectors_before disk) number) in
    let ends : end ≡ first + length (data_list_at disk on.number) =
    omega (arith, many, ap (λ n. length (data_list_at disk n)) number) in
    let looked : IsLookedUp disk on = subst (λ (d : Shape). IsLookedUp d on) c.self.view_is c.cylinder.ensures.looked_up in
    record {
      looked_up = looked;
      first = starts;
      end = ends;
      sectors = λ lbn from before. cylinder_of_sector disk sound on.number (lbn - first) lbn
          (sector_between disk on.number first end looked.on_disk starts ends lbn from before);
    }
