use Rattle.std.proofs.Common.{ap, sym, refl, ◌∙◌, length, subst, List, Some}
use Rattle.std.proofs.lemmas.Option.{slice_get_read}
use Rattle.fb_units.specs.declared.types.Request.{Request}
use Rattle.fb_queue.specs.Least.{IsFirstLeastAt}
use Rattle.fb_queue.proofs.FirstLeast.{first_least_at}
use Rattle.fb_queue.proofs.keyed.KeyedQueue.take.Goals as goal

pub returns-clause-least : goal.returns-clause-least
returns-clause-least g c =
    let items = c.args.self.now.waiting.items in
    let key = g.P.Policy.key c.args.disk.now c.args.head c.args.now in
    let found : IsFirstLeastAt key items (length items) c.first_least-index.result =
    subst (λ (rs : List Request). IsFirstLeastAt key rs (length rs) c.first_least-index.result) c.as_slice.ensures.value
    c.first_least-index.ensures in
    first_least_at key items c.first_least-index.result c.remove.result found
    (slice_get_read items (length items) c.first_least-index.result c.remove.result refl found.within c.remove.ensures.value)
    ∙ ap (λ rs. Some (c.remove.result, rs)) (sym c.remove.ensures.items)
