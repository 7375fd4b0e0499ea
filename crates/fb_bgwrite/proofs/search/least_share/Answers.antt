use Rattle.fb_bgwrite.proofs.Words.{◌≡◌, ◌/◌, arith, ap, sym, subst, ◌∙◌, Shape, slots_at, IsShare}
use Rattle.fb_detour.proofs.InTime.{some_share, more_pass}
use Rattle.fb_bgwrite.proofs.search.least_share.Goals as goal

pub returns : goal.returns
returns c =
    let disk = c.args.disk.now in
    let most = c.most_slots in
    let rotation : c.rotation.result ≡ disk.map.rotation = c.rotation.ensures.value ∙ ap (λ (d : Shape). d.rotation) c.geometry.ensures in
    let some = some_share disk.map.rotation most.result most.ensures.some most.ensures.room in
    subst (λ r. IsShare disk c.args.from c.args.end (r / most.result)) (sym rotation) (
      some,
      λ cylinder time low high. omega
          (arith, more_pass disk.map.rotation (slots_at disk.map.zones cylinder) most.result time (most.ensures.each cylinder low high) some),
    )
