use Rattle.fb_service.proofs.Words.{ap, ◌∙◌, wait}
use Rattle.fb_service.proofs.Passes.{begins_at}
use Rattle.fb_service.proofs.service.next_begin.Goals as goal

pub returns-clause-value : goal.returns-clause-value
returns-clause-value c =
    begins_at c.args.geometry.now c.args.place c.args.from c.wait_for.result
    (c.wait_for.ensures.value
    ∙ ap (λ r. wait r c.slot_begin-angle.result c.args.from) c.rotation.ensures.value
    ∙ ap (λ a. wait c.args.geometry.now.rotation a c.args.from) c.slot_begin-angle.ensures.value)
