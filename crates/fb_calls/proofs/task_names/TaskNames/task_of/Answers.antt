use Rattle.std.proofs.Common.{◌≡◌, Some, sym, ◌∙◌, subst}
use Rattle.std.specs.Str.{bytes_eq}
use Rattle.fb_calls.specs.Sessions.{task_of}
use Rattle.fb_calls.proofs.Accepting.{position_inside}
use Rattle.fb_calls.proofs.task_names.TaskNames.task_of.Goals as goal

pub returns-in-Some-clause-within : goal.returns-in-Some-clause-within
returns-in-Some-clause-within c =
    let name = c.args.name.now in
    let number = c.in-Some.number.now in
    position_inside (bytes_eq name) c.args.self.now number
    (subst (λ names. task_of names name ≡ Some number) c.self.view_is (sym (c.in-Some.ensures.value ∙ c.self.invariant name)))
