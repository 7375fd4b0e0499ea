use Rattle.fb_service.proofs.Words.{◌≡◌, ◌+◌, ◌-◌, ◌%◌, ap, sym, ◌∙◌, Place, wait, Shape, slots_at, slot_begin, pos, begin_from}
use Rattle.fb_service.proofs.Words.{begin_angle}
use Rattle.fb_seek.specs.Positioning.{seek, distance_of}
use Rattle.fb_service.proofs.Approaching.{passes_in, angle_behind}
use Rattle.fb_service.proofs.approach.wait_on.Goals as goal

pub pos_with-way-requires-clause-seek : goal.pos_with-way-requires-clause-seek
pos_with-way-requires-clause-seek c =
    c.requires.approach.seek_is
    ∙ ap (λ n. seek c.args.disk.now.mechanism (distance_of c.args.from.track.cylinder n)) (sym c.place_in-place.ensures.cylinder)

pub returns-clause-value : goal.returns-clause-value
returns-clause-value c =
    let disk = c.args.disk.now in
    let from = c.args.from in
    let place = c.place_in-place.result in
    let way = c.pos_with-way.result in
    let seen : c.geometry-geometry.result.now ≡ disk.map = c.geometry-geometry.ensures in
    let rotation : c.rotation-rotation.result ≡ disk.map.rotation = c.rotation-rotation.ensures.value
    ∙ ap (λ (d : Shape). d.rotation) seen in
    let begin : c.begin_on-begin.result ≡ begin_angle disk.map place =
    c.begin_on-begin.ensures.value
    ∙ (ap (λ (d : Shape). slot_begin d.rotation (slots_at d.zones c.args.approach.now.run.on.number) place.slot) seen
    ∙ ap (λ n. slot_begin disk.map.rotation (slots_at disk.map.zones n) place.slot) (sym c.place_in-place.ensures.cylinder)) in
    let here = angle_behind c.rotation-rotation.result from.instant from.angle way c.turned.result (c.requires.from.angle
    ∙ ap (λ r. from.instant % r) (sym rotation)) c.turned.ensures.value in
    let waited : c.wait_from.result ≡ wait disk.map.rotation (begin_angle disk.map place) (from.instant + way) =
    c.wait_from.ensures.value (from.instant + way) here ∙ (ap (λ r. wait r c.begin_on-begin.result (from.instant + way)) rotation
    ∙ ap (λ a. wait disk.map.rotation a (from.instant + way)) begin) in
    passes_in disk.map place from.instant way c.wait_from.result waited
    ∙ (ap (λ m. begin_from disk.map place (from.instant + m) - from.instant) c.pos_with-way.ensures.value
    ∙ ap (λ (p : Place). begin_from disk.map p (from.instant + pos disk.mechanism from.track p.track c.args.write) - from.instant)
    c.place_in-place.ensures.value)
