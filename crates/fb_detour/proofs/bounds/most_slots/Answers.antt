use Rattle.fb_detour.proofs.Words.{ap, arith, max, nat_le, slice_get, sym, ◌∙◌, Shape}
use Rattle.fb_detour.proofs.Ceilings.{if-le-n}
use Rattle.fb_detour.proofs.Slots.{zone-last, zone-more}
use Rattle.fb_detour.proofs.bounds.most_slots.Goals as goal

pub loop-i-preserved : goal.loop-i-preserved
loop-i-preserved c =
    let zones = c.args.disk.now.map.zones in
    let zone = c.zone-zone.result in
    let at = ap (λ (d : Shape). slice_get d.zones c.loop-i.i) (sym c.geometry-geometry.ensures) ∙ c.zone-zone.ensures in
    let more = c.max-slots.ensures ∙ ap (λ n. max c.loop-i.slots n) c.slots_from.ensures in
    let room = c.sound.ensures.short_slots c.loop-i.i zone c.zone-zone.ensures in
    let rotation = ap (λ (d : Shape). d.rotation) c.geometry-geometry.ensures in (
      zone-more zones c.args.from c.args.end c.loop-i.i c.loop-i.slots c.max-slots.result zone at more c.loop-i.invariant.0,
      omega (arith, c.loop-i.invariant.1, more),
      omega (arith, c.loop-i.invariant.2, more, room, rotation, if-le-n (nat_le c.args.from zone.last) zone.sectors),
    )

pub returns-then-end-zone-clause-each : goal.returns-then-end-zone-clause-each
returns-then-end-zone-clause-each c =
    let zone = c.zone-zone.result in
    let at = ap (λ (d : Shape). slice_get d.zones c.loop-i.i) (sym c.geometry-geometry.ensures) ∙ c.zone-zone.ensures in
    let more = c.max-slots.ensures ∙ ap (λ n. max c.loop-i.slots n) c.slots_from.ensures in
    zone-last c.args.disk.now.map.zones c.args.from c.args.end c.loop-i.i c.loop-i.slots c.max-slots.result zone at more
    c.loop-i.invariant.0 c.if-end-zone.true
