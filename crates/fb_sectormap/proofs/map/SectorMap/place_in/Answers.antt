use Rattle.fb_sectormap.proofs.Words.{◌≡◌, ◌-◌, subst, arith, Some, slice_get, slice_get_within, Shape, places, data_list_at, IsSound}
use Rattle.fb_sectormap.proofs.ByCylinder.{size-few}
use Rattle.fb_sectormap.proofs.Running.{placed_on, sector_between}
use Rattle.fb_sectormap.proofs.map.SectorMap.place_in.Goals as goal

pub overflow_cast-lbn : goal.overflow_cast-lbn
overflow_cast-lbn c =
    let run = c.args.run.now in
    let is = c.requires.run in
    let few = size-few c.args.self.now (subst IsSound c.self.view_is c.self.invariant.sound) run.on.number is.looked_up.on_disk in
    omega (arith, few, is.end, c.requires.from, c.requires.before)

pub returns : goal.returns
returns c =
    let disk = c.args.self.now in
    let run = c.args.run.now in
    let is = c.requires.run in
    let lbn = c.args.lbn in
    let place = c.place_on.result in
    let listed : slice_get (data_list_at disk run.on.number) (lbn - run.first) ≡ Some place =
    subst (λ (d : Shape). slice_get (data_list_at d run.on.number) (lbn - run.first) ≡ Some place) c.self.view_is c.place_on.ensures in
    let sector = sector_between disk run.on.number run.first run.end is.looked_up.on_disk is.first is.end lbn c.requires.from
    c.requires.before in
    let its = placed_on disk (subst IsSound c.self.view_is c.self.invariant.sound) run.on.number (lbn - run.first) lbn sector place
    listed in
    record {
      value = its.value;
      cylinder = its.cylinder_is;
      track = its.track;
      slot = its.slot;
      on_disk = slice_get_within (places disk) lbn place its.at;
    }
