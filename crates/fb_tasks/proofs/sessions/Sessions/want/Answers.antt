use Rattle.fb_tasks.proofs.Words.{◌≡◌, ◌<◌, true, Some, length, set, ap, sym, subst, ◌∙◌, arith, slice_get-get_or, same_Some, take_call, Tells, Session}
use Rattle.fb_tasks.proofs.Additions.{may_want, wanted-tells, wanted_begun}
use Rattle.fb_tasks.proofs.sessions.Sessions.want.Goals as goal

pub index-session-requires : goal.index-session-requires
index-session-requires c = omega (arith, ap length c.self.view_is, c.requires.opened, c.self.inside.sessions.ok.0)

pub want_range-requires : goal.want_range-requires
want_range-requires c =
    let r = c.requires.call in
    let there = slice_get-get_or c.args.self.now c.args.task c.index-session.result.now c.requires.opened
    ∙ ap Some (sym (rw c.self.view_is at c.index-session.ensures)) in
    let may = may_want c.args.map.now r.0 r.1 c.args.task c.args.first c.args.count c.args.self.now c.index-session.result.now
    c.args.wanted.now r.2 there r.3 in
    record { block = may.stands.block; weight = may.stands.weight; on_disk = may.on_disk; few = may.few }

pub returns-clause-ok : goal.returns-clause-ok
returns-clause-ok c = λ past call is h.
    let items = c.self.inside.sessions.items in
    let session = c.index-session.result.now in
    let wanting = c.index_mut-wanting.result.now in
    let chunks = c.chunks_wanted-chunks.result in
    let within : c.args.task < length items = rw c.self.view_is c.requires.opened in
    let same : session ≡ wanting = same_Some session wanting
    (sym (slice_get-get_or items c.args.task session within ∙ ap Some (sym c.index-session.ensures))
    ∙ (slice_get-get_or items c.args.task wanting within ∙ ap Some (sym c.index_mut-wanting.ensures.value))) in
    subst (λ (s : Session). Tells c.args.map.now (take_call c.args.map.now past call)
    (set items c.args.task (record s { touched = true; chunks = chunks })) c.want_range.new.wanted) same
    (rw c.self.view_is (wanted-tells c.args.map.now past call c.args.task c.args.first c.args.count c.args.self.now session chunks
    c.args.wanted.now c.want_range.new.wanted (omega (arith, c.count-sectors.ensures.value, c.count-sectors.ensures.bound)) is
    c.requires.opened (rw c.self.view_is at c.index-session.ensures) c.chunks_wanted-chunks.ensures c.in_ok-want_range.ensures.all h))

pub returns-in_err-want_range-clause-blocks : goal.returns-in_err-want_range-clause-blocks
returns-in_err-want_range-clause-blocks c = λ past call is h. wanted_begun c.args.map.now past call c.args.task c.args.first c.args.count
    c.args.self.now c.index-session.result.now c.chunks_wanted-chunks.result c.args.wanted.now c.want_range.new.wanted
    (omega (arith, c.count-sectors.ensures.value, c.count-sectors.ensures.bound)) is c.requires.opened
    (rw c.self.view_is at c.index-session.ensures) c.chunks_wanted-chunks.ensures h c.want_range.ensures.begun

pub returns-in_err-note-clause-blocks : goal.returns-in_err-note-clause-blocks
returns-in_err-note-clause-blocks c = λ past call is h. wanted_begun c.args.map.now past call c.args.task c.args.first c.args.count
    c.args.self.now c.index-session.result.now c.chunks_wanted-chunks.result c.args.wanted.now c.want_range.new.wanted
    (omega (arith, c.count-sectors.ensures.value, c.count-sectors.ensures.bound)) is c.requires.opened
    (rw c.self.view_is at c.index-session.ensures) c.chunks_wanted-chunks.ensures h c.want_range.ensures.begun

pub returns-clause-blocks : goal.returns-clause-blocks
returns-clause-blocks c = λ past call is h. wanted_begun c.args.map.now past call c.args.task c.args.first c.args.count
    c.args.self.now c.index-session.result.now c.chunks_wanted-chunks.result c.args.wanted.now c.want_range.new.wanted
    (omega (arith, c.count-sectors.ensures.value, c.count-sectors.ensures.bound)) is c.requires.opened
    (rw c.self.view_is at c.index-session.ensures) c.chunks_wanted-chunks.ensures h c.want_range.ensures.begun
