use Rattle.fb_service.proofs.Words.{◌≡◌, ap, ◌∙◌, ◌+◌, Place, Shape, pos, begin_from}
use Rattle.fb_service.proofs.service.first_pass.Goals as goal

pub returns-clause-value : goal.returns-clause-value
returns-clause-value c =
    let disk = c.args.disk.now in
    let place = c.place-place.result in
    let seen : c.geometry.result.now ≡ disk.map = c.geometry.ensures in
    c.next_begin.ensures.value
    ∙ ap (λ (d : Shape). begin_from d place (c.args.now + c.pos.result)) seen
    ∙ ap (λ m. begin_from disk.map place (c.args.now + m)) c.pos.ensures.value
    ∙ ap (λ (p : Place). begin_from disk.map p (c.args.now + pos disk.mechanism c.args.source p.track c.args.write))
    c.place-place.ensures.value
