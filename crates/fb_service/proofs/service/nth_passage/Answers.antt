use Rattle.fb_service.proofs.Words.{◌≡◌, ◌+◌, ap, ◌∙◌, Shape, begin_from, turned, Place}
use Rattle.fb_service.specs.Passing.{end_from}
use Rattle.fb_service.proofs.service.nth_passage.Goals as goal

pub returns : goal.returns
returns c =
    let disk = c.args.disk.now.map in
    let place = c.place-place.result in
    let lbn = c.args.extent.now.first + c.args.i in
    let seen : c.geometry-geometry.result.now ≡ disk = c.geometry-geometry.ensures in
    ap (λ b. record { lbn = lbn; begin = b; end = b + c.passing_time.result })
    (c.next_begin-begin.ensures.value ∙ ap (λ (d : Shape). begin_from d place c.args.extent.now.begin) seen)
    ∙ ap (λ t. record {
      lbn = lbn;
      begin = begin_from disk place c.args.extent.now.begin;
      end = begin_from disk place c.args.extent.now.begin + t;
    })
    (c.passing_time.ensures.value ∙ ap (λ (d : Shape). turned d place 1) seen)
    ∙ ap (λ (p : Place). record {
      lbn = lbn;
      begin = begin_from disk p c.args.extent.now.begin;
      end = end_from disk p c.args.extent.now.begin;
    }) c.place-place.ensures.value
