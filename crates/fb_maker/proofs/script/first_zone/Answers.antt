use Rattle.fb_maker.proofs.Words.{◌≤◌, ◌+◌, ◌-◌, ◌*◌, ap, sym, ◌∙◌, arith, ℕ}
use Rattle.fb_maker.proofs.Zones.{begins_at_first, some_cylinders, first_zone_is}
use Rattle.fb_maker.proofs.script.first_zone.Goals as goal

pub cylinder_sectors-requires : goal.cylinder_sectors-requires
cylinder_sectors-requires c =
    let disk = c.args.geometry.now in
    omega (
      arith,
      begins_at_first disk.zones c.zone-zone.result c.sound.ensures.contiguous c.zone-zone.ensures,
      some_cylinders disk.zones c.sound.ensures.some_zones,
    )

pub returns : goal.returns
returns c =
    let disk = c.args.geometry.now in
    let zone = c.zone-zone.result in
    let on = λ (k : ℕ) (low : zone.first ≤ k) (high : k ≤ zone.last).
    c.sound.ensures.equal 0 zone k (record { zone_is = c.zone-zone.ensures; from = low; upto = high }) in
    let some = c.sound.ensures.some_cylinders 0 zone c.zone-zone.ensures in
    ap (λ (n : ℕ). (n + 1 - c.from-2.result) * c.from-3.result) c.from.ensures
    ∙ ap (λ (n : ℕ). (zone.last + 1 - n) * c.from-3.result) c.from-2.ensures
    ∙ first_zone_is disk disk.zones zone c.from-3.result c.zone-zone.ensures some (c.from-3.ensures ∙ c.cylinder_sectors.ensures.value)
    (λ k low high. on k low high ∙ sym (on zone.first (omega arith) some))
