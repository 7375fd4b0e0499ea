use Rattle.fb_detour.proofs.Words.{ap, subst, sym, ◌*◌, ◌-◌, ◌/◌, ◌∙◌, ◌≡◌, ◌≤◌, Shape, HasOwnPlaces, IsSound, early_to, stay}
use Rattle.fb_detour.proofs.InTime.{some_share, within_rate}
use Rattle.fb_detour.proofs.steps.rate_over.Goals as goal

pub returns : goal.returns
returns c = λ track low high from upto.
    let disk = c.args.disk.now in
    let entries = c.args.wanted.now in
    let depth = c.greatest_depth_in in
    let slots = c.most_slots in
    let its = c.geometry-geometry.ensures in
    let rotation : c.rotation.result ≡ disk.map.rotation = c.rotation.ensures.value ∙ ap (λ (d : Shape). d.rotation) its in
    let some = some_share disk.map.rotation slots.result slots.ensures.some slots.ensures.room in
    let within = within_rate disk entries track depth.result slots.result from upto (subst IsSound its c.sound.ensures)
    (subst HasOwnPlaces its c.own_places.ensures) c.requires.blocks (λ lbn. depth.ensures.each track lbn low high)
    (slots.ensures.each track.cylinder low high) some in
    subst (λ r. stay disk (early_to track from upto) entries ≤ depth.result * ((upto - from) / (r / slots.result))) (sym rotation) within
