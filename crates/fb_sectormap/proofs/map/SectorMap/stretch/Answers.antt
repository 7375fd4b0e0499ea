use Rattle.fb_sectormap.proofs.Words.{◌+◌, ◌≤◌, sym, subst, Shape, slots_at, turn_position, IsSound, IsStretch}
use Rattle.fb_sectormap.proofs.Running.{placed_on}
use Rattle.fb_sectormap.proofs.Stretching.{place-on, within-disk}
use Rattle.fb_sectormap.proofs.map.SectorMap.stretch.Goals as goal

pub returns : goal.returns
returns c =
    let disk = c.args.self.now in
    let sound : IsSound disk = subst IsSound c.self.view_is c.self.invariant.sound in
    let at = c.by_cylinder-at in
    let stretch = c.stretch.result in
    let goes : IsStretch disk at.result.cylinder at.result.sector stretch =
    subst (λ (d : Shape). IsStretch d at.result.cylinder at.result.sector stretch) c.self.view_is c.stretch.ensures in
    let its = placed_on disk sound at.result.cylinder at.result.sector c.args.lbn at.ensures stretch.place goes.first in
    record {
      some = goes.some;
      on_disk = within-disk disk sound at.result.cylinder at.result.sector c.args.lbn stretch at.ensures goes;
      first = its.value;
      track = its.track;
      slot = its.slot;
      next = place-on disk sound at.result.cylinder at.result.sector c.args.lbn stretch at.ensures goes;
      one_turn = subst (λ c. turn_position disk stretch.place + stretch.count ≤ slots_at disk.zones c) (sym its.cylinder_is) goes.one_turn;
    }
