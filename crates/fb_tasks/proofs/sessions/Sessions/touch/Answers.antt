use Rattle.fb_tasks.proofs.Words.{◌<◌, Some, length, ap, sym, ◌∙◌, subst, true, set, slice_get, slice_get-get_or, Session, same_Some, arith}
use Rattle.fb_tasks.proofs.sessions.Sessions.touch.Goals as goal

pub returns-clause-ok : goal.returns-clause-ok
returns-clause-ok c = λ session at.
    let within : c.args.task < length c.self.inside.sessions.items =
    subst (λ xs. c.args.task < length xs) (sym c.self.view_is) c.requires in
    let there = slice_get-get_or c.self.inside.sessions.items c.args.task c.index_mut.result.now within
    ∙ ap Some (sym c.index_mut.ensures.value) in
    let same = same_Some c.index_mut.result.now session (sym there ∙ (ap (λ xs. slice_get xs c.args.task) c.self.view_is ∙ at)) in
    ap (λ (s : Session). set c.self.inside.sessions.items c.args.task (record s { touched = true })) same
    ∙ ap (λ xs. set xs c.args.task (record session { touched = true })) c.self.view_is

pub index_mut-requires : goal.index_mut-requires
index_mut-requires c = omega (arith, c.requires, ap length c.self.view_is, c.self.inside.sessions.ok.0)
