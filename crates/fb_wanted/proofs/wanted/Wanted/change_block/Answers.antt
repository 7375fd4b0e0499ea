use Rattle.fb_wanted.proofs.Words.{◌≡◌, ◌∙◌, sym, subst, same_Some, is_of_task, entry_after}
use Rattle.fb_wanted.proofs.OfTask.{own_after}
use Rattle.fb_wanted.proofs.Standing.{at_index, passes, index_within, nth_changed, nth_stays}
use Rattle.fb_wanted.proofs.wanted.Wanted.change_block.Goals as goal

pub entry_at-entry-requires : goal.entry_at-entry-requires
entry_at-entry-requires c =
    index_within (is_of_task c.args.task) c.args.self.now c.args.number c.index_of-index.result c.index_of-index.ensures

pub set_state-requires : goal.set_state-requires
set_state-requires c = index_within (is_of_task c.args.task) c.args.self.now c.args.number c.index_of-index.result c.index_of-index.ensures

pub returns-then-is_same : goal.returns-then-is_same
returns-then-is_same c =
    let entries = c.args.self.now in
    let test = is_of_task c.args.task in
    let step = entry_after c.args.task c.args.change in
    let entry = c.entry_at-entry.result in
    let here = at_index test entries c.args.number c.index_of-index.result c.index_of-index.ensures ∙ c.entry_at-entry.ensures in
    let stays = own_after c.args.task c.args.change entry entry.state (passes test entries c.args.number entry here)
    (sym (c.is_same.ensures.same c.if-is_same.true) ∙ c.state_after-state.ensures) in
    sym (nth_stays test step c.args.number entries (λ e at. subst (λ x. step x ≡ x) (same_Some entry e (sym here ∙ at)) stays))

pub returns : goal.returns
returns c =
    let entries = c.args.self.now in
    let test = is_of_task c.args.task in
    let index = c.index_of-index.result in
    let entry = c.entry_at-entry.result in
    let own = passes test entries c.args.number entry (at_index test entries c.args.number index c.index_of-index.ensures
    ∙ c.entry_at-entry.ensures) in
    c.set_state.ensures
    ∙ nth_changed test (entry_after c.args.task c.args.change) c.state_after-state.result entry entries c.args.number index
    (own_after c.args.task c.args.change entry c.state_after-state.result own c.state_after-state.ensures) c.index_of-index.ensures
    c.entry_at-entry.ensures
