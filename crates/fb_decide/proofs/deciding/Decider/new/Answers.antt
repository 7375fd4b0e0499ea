use Rattle.std.proofs.Common.{ap, ◌∙◌}
use Rattle.fb_model.specs.Foreground.{foreground_list}
use Rattle.fb_decide.proofs.Looping.{made_first, known_inputs}
use Rattle.fb_decide.proofs.deciding.Decider.new.Goals as goal

pub returns-clause-made : goal.returns-clause-made
returns-clause-made g c = made_first _ _
    (known_inputs _ c.requires.accepted c.foreground_lists_ascend.ensures c.disk_is_sound.ensures.sound c.disk_is_sound.ensures.takes_time)
    (c.in_ok-requests.ensures ∙ ap (λ trace. foreground_list trace c.args.inputs.calls.now.calls.items) c.as_slice.ensures.value)
    c.in_ok-course.ensures.initial c.requires.empty c.requires.fresh

pub returns-clause-fits : goal.returns-clause-fits
returns-clause-fits g c = g.met.Q.Queue.fits_any c.args.queue c.args.inputs.disk.now c.requires.empty
