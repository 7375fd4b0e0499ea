use Rattle.fb_maker.proofs.Words.{◌≡◌, ap, ◌∙◌, min, length, ℕ, places, most, first_zone}
use Rattle.fb_maker.proofs.Zones.{is_script}
use Rattle.fb_maker.proofs.script.made_calls.Goals as goal

pub returns : goal.returns
returns c =
    let disk = c.args.map.now in
    let greatest : c.most-most.result ≡ most disk = c.most-most.ensures ∙ ap most c.geometry.ensures in
    is_script disk c.new-text.result.items c.extend_from_slice.new.self.items c.push_want.new.text.items
    c.extend_from_slice-2.new.self.items c.push_want-2.new.text.items c.min.result c.min-2.result
    c.new-text.ensures.items c.in_ok-extend_from_slice.ensures.items c.in_ok-push_want.ensures c.in_ok-extend_from_slice-2.ensures.items
    c.in_ok-push_want-2.ensures
    (c.min.ensures ∙ ap (λ (n : ℕ). min n c.most-most.result) c.count.ensures.value ∙ ap (min (length (places disk))) greatest)
    (c.min-2.ensures ∙ ap (λ (n : ℕ). min n c.most-most.result) (c.first_zone.ensures ∙ ap (λ d. first_zone d d.zones) c.geometry-2.ensures)
    ∙ ap (min (first_zone disk disk.zones)) greatest)
