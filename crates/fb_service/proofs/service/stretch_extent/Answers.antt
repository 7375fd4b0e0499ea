use Rattle.fb_service.proofs.Words.{◌≡◌, ◌+◌, ◌%◌, ◌<◌, ◌≤◌, ap, ◌∙◌, subst, arith, refl, Place, Shape, slots_at, pos, begin_from}
use Rattle.fb_service.proofs.Words.{begin_angle, turned}
use Rattle.fb_service.proofs.Unbroken.{at_angle, are-passing, unbroken}
use Rattle.fb_service.proofs.service.stretch_extent.Goals as goal

-- the extent's beginning, by the place
begins : (c : goal.After-result-1)
    → c.next_begin-begin.result ≡ begin_from c.args.disk.now.map c.stretch-stretch.result.place (c.args.now + c.pos.result)
begins c =
    let seen : c.geometry-geometry.result.now ≡ c.args.disk.now.map = c.geometry-geometry.ensures in
    c.next_begin-begin.ensures.value ∙ ap (λ (d : Shape). begin_from d c.stretch-stretch.result.place (c.args.now + c.pos.result)) seen

here : (c : goal.After-result-1)
    → c.next_begin-begin.result % c.args.disk.now.map.rotation ≡ begin_angle c.args.disk.now.map c.stretch-stretch.result.place
here c =
    let disk = c.args.disk.now.map in
    let place = c.stretch-stretch.result.place in
    let seen : c.geometry-geometry.result.now ≡ disk = c.geometry-geometry.ensures in
    ap (λ t. t % disk.rotation) (begins c)
    ∙ at_angle disk place (c.args.now + c.pos.result)
    (subst (λ (d : Shape). begin_angle d place < d.rotation) seen c.next_begin-begin.ensures.angle)

room : (c : goal.After-result-1)
    → slots_at c.args.disk.now.map.zones c.stretch-stretch.result.place.track.cylinder ≤ c.args.disk.now.map.rotation
room c = subst (λ (d : Shape). slots_at d.zones c.stretch-stretch.result.place.track.cylinder ≤ d.rotation)
    (let seen : c.geometry-geometry.result.now ≡ c.args.disk.now.map = c.geometry-geometry.ensures in seen) c.passing_time.ensures.room

pub returns-clause-begin : goal.returns-clause-begin
returns-clause-begin c =
    let disk = c.args.disk.now in
    begins c
    ∙ ap (λ m. begin_from disk.map c.stretch-stretch.result.place (c.args.now + m)) c.pos.ensures.value
    ∙ ap (λ (p : Place). begin_from disk.map p (c.args.now + pos disk.mechanism c.args.source p.track c.args.write))
    c.stretch-stretch.ensures.first

pub returns-clause-unbroken : goal.returns-clause-unbroken
returns-clause-unbroken c =
    let disk = c.args.disk.now.map in
    let stretch = c.stretch-stretch in
    let seen : c.geometry-geometry.result.now ≡ disk = c.geometry-geometry.ensures in
    unbroken disk stretch.result.place (omega (arith, stretch.ensures.slot))
    (room c) stretch.ensures.slot c.args.lbn c.next_begin-begin.result c.min-count.result
    (omega (arith, stretch.ensures.one_turn, c.min-count.ensures)) (here c)
    (λ i less. stretch.ensures.next i (omega (arith, c.min-count.ensures))) (omega (arith, c.min-count.ensures, stretch.ensures.some))
    _ refl refl refl refl (ap (λ t. c.next_begin-begin.result + t)
    (c.passing_time.ensures.value ∙ ap (λ (d : Shape). turned d stretch.result.place c.min-count.result) seen))

pub returns-clause-timed : goal.returns-clause-timed
returns-clause-timed c =
    let disk = c.args.disk.now.map in
    let stretch = c.stretch-stretch in
    are-passing disk stretch.result.place (omega (arith, stretch.ensures.slot))
    (room c) stretch.ensures.slot c.args.lbn c.next_begin-begin.result c.min-count.result
    (omega (arith, stretch.ensures.one_turn, c.min-count.ensures)) (here c)
    (λ i less. stretch.ensures.next i (omega (arith, c.min-count.ensures)))
