use Rattle.std.proofs.Common.{◌≡◌, [], ◌∷◌, ◌++◌, None, Some, sym, ap, ◌∙◌, subst}
use Rattle.std.specs.BTreeMap.{Updates}
use Rattle.std.specs.Cmp.Lexicographic.{slice_cmp}
use Rattle.std.specs.Ordering.{nat_cmp}
use Rattle.fb_calls.specs.Sessions.{task_of}
use Rattle.fb_calls.specs.TaskNames.{AreNumbers}
use Rattle.fb_calls.proofs.Positions.{numbers_push}
use Rattle.fb_calls.proofs.task_names.TaskNames.add.Goals as goal

pub invariant_of-self-in-Ok : goal.invariant_of-self-in-Ok
invariant_of-self-in-Ok c =
    let names = c.self.inside.names in
    let old = c.self.inside.numbers in
    let new = c.insert.new.self in
    let name = c.args.name.now in
    let pushed = c.in_ok-push.ensures.ok ∙ ap (λ text. names ++ text ∷ []) c.in_ok-key_text.ensures in
    let free = subst (λ ns. task_of ns name ≡ None) (sym c.self.view_is) c.requires.new in
    subst (AreNumbers new) (sym pushed)
    (numbers_push old new names c.in_ok-key.key name c.self.invariant c.in_ok-key.ensures.items free
    (subst (λ n. Updates (λ x y. slice_cmp nat_cmp x.items y.items) old new c.in_ok-key.key (Some n)) c.len-number.ensures.value
    c.in-Ok.ensures.updates))
