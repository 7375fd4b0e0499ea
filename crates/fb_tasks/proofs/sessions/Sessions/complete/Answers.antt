use Rattle.fb_tasks.proofs.Words.{Some, get_or, ap, sym, ◌∙◌, slice_get-get_or, complete_by}
use Rattle.fb_tasks.proofs.Complete.{complete_same}
use Rattle.fb_tasks.proofs.sessions.Sessions.complete.Goals as goal

pub returns : goal.returns
returns c = λ disk past h.
    let session = c.index.result.now in
    let there = slice_get-get_or c.args.self.now c.args.task session c.requires.opened
    ∙ ap Some (sym (c.index.ensures ∙ ap (λ xs. get_or xs c.args.task session) c.self.view_is)) in
    let told = h.each c.args.task session there in
    c.is_complete.ensures ∙ (ap (complete_by session) c.counts.ensures
    ∙ complete_same past c.args.task session c.args.wanted.now told.stands told.at_work h.entries)
