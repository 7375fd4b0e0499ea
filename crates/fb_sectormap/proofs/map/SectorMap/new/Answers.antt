use Rattle.fb_sectormap.proofs.Words.{refl, arith, ◌∙◌, sectors_before}
use Rattle.fb_sectormap.proofs.ByCylinder.{upto_last}
use Rattle.fb_sectormap.proofs.Making.{one_more, next_lbn}
use Rattle.fb_sectormap.proofs.map.SectorMap.new.Goals as goal

pub loop-i-init : goal.loop-i-init
unfolding sectors_before
loop-i-init c = record { starts = c.new-starts.ensures.items; sectors = refl }

pub cylinder_sectors-requires : goal.cylinder_sectors-requires
cylinder_sectors-requires c =
    omega (
      arith,
      upto_last c.args.geometry c.sound.ensures c.loop-i.i c.zone-zone.result c.zone-zone.ensures,
      c.sound.ensures.some_cylinders c.loop-i.i c.zone-zone.result c.zone-zone.ensures,
    )

pub overflow_add-zone : goal.overflow_add-zone
overflow_add-zone c = omega (
  arith,
  upto_last c.args.geometry c.sound.ensures c.loop-i.i c.zone-zone.result c.zone-zone.ensures,
  c.sound.ensures.few_cylinders,
)

pub first_of-sectors-requires-clause-few : goal.first_of-sectors-requires-clause-few
first_of-sectors-requires-clause-few c =
    (next_lbn c.args.geometry c.sound.ensures c.loop-i.i c.zone-zone.result c.loop-i.sectors c.cylinder_sectors.result c.zone-zone.ensures
    c.loop-i.invariant.sectors c.cylinder_sectors.ensures.value).1

pub loop-i-preserved : goal.loop-i-preserved
loop-i-preserved c = record {
  starts = c.in_ok-push.ensures.items ∙ one_more c.args.geometry c.sound.ensures c.loop-i.i c.zone-zone.result c.loop-i.starts.items
      c.loop-i.sectors c.cylinder_sectors.result c.zone-zone.ensures c.loop-i.invariant.starts c.loop-i.invariant.sectors
      c.cylinder_sectors.ensures.value;
  sectors = c.first_of-sectors.ensures ∙ (next_lbn c.args.geometry c.sound.ensures c.loop-i.i c.zone-zone.result c.loop-i.sectors
      c.cylinder_sectors.result c.zone-zone.ensures c.loop-i.invariant.sectors c.cylinder_sectors.ensures.value).0;
}
