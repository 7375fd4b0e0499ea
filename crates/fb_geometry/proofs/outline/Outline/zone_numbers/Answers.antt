use Rattle.fb_geometry.proofs.Words.{ap, arith, cylinders_of, ◌≡◌}
use Rattle.fb_geometry.proofs.Faultless.{numbers_next, zones_rise}
use Rattle.fb_geometry.proofs.outline.Outline.zone_numbers.Goals as goal

pub zone_number-requires : goal.zone_number-requires
zone_number-requires c = rw (c.as_slice-zones.ensures.value, ap (λ disk. disk.zones) c.self.view_is) (record {
  rise = zones_rise c.args.self.now c.requires;
  on_disk = omega (arith, c.cylinders-cylinders.ensures.value);
})

pub loop-cylinder-preserved : goal.loop-cylinder-preserved
loop-cylinder-preserved c =
    let is = rw (c.as_slice-zones.ensures.value, ap (λ disk. disk.zones) c.self.view_is) at c.zone_number.ensures in
    rw (c.push.ensures.items, c.in_ok-push.was) (numbers_next c.args.self.now.zones c.loop-cylinder.numbers.items c.loop-cylinder.cylinder
    c.zone_number.result c.loop-cylinder.invariant (is.inside, is.zone))

pub returns : goal.returns
returns c = let all : c.loop-cylinder.cylinder ≡ cylinders_of c.args.self.now.zones = omega arith in rw all at c.loop-cylinder.invariant
