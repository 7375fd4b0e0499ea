use Rattle.std.proofs.lemmas.List.{set-get_or}
use Rattle.fb_tasks.proofs.Words.{Some, length, set, ap, sym, ◌∙◌, arith, slice_get-get_or, on_err}
use Rattle.fb_tasks.proofs.Additions.{may_add, added-tells}
use Rattle.fb_tasks.proofs.sessions.Sessions.add_segment.Goals as goal

pub add-requires : goal.add-requires
add-requires c =
    let r = c.requires.call in
    let there = slice_get-get_or c.args.self.now c.args.task c.index_mut-cleaner.result.now c.requires.opened
    ∙ ap Some (sym (rw c.self.view_is at c.index_mut-cleaner.ensures.value)) in
    let may = may_add c.args.map.now r.0 r.1 c.args.task c.args.first c.args.count c.args.age c.args.live.now c.args.self.now
    c.index_mut-cleaner.result.now r.2 r.3 there r.4 in
    record {
      few = may.few;
      each = may.size;
      range = omega (arith, may.log, c.count-sectors.ensures.value, c.count-sectors.ensures.bound);
      room = may.room;
    }

pub returns-clause-ok : goal.returns-clause-ok
returns-clause-ok c = λ past call held is h. rw c.self.view_is
    (added-tells c.args.map.now past call c.args.task c.args.first
    c.args.count c.args.age c.args.live.now c.args.self.now c.index_mut-cleaner.result.now c.add.new.self held is c.requires.opened
    (rw c.self.view_is at c.index_mut-cleaner.ensures.value) c.in_ok-add.ensures.ok h)

pub index_mut-cleaner-requires : goal.index_mut-cleaner-requires
index_mut-cleaner-requires c = omega (arith, c.requires.opened, ap length c.self.view_is, c.self.inside.sessions.ok.0)

pub returns-in_err-add-clause-err : goal.returns-in_err-add-clause-err
returns-in_err-add-clause-err c =
    let items = c.self.inside.sessions.items in
    let session = c.index_mut-cleaner.result.now in
    on_err c.from_residual-in_err-add.result (ap (λ log. set items c.args.task (record session { log = log })) c.in_err-add.ensures.err
    ∙ (ap (set items c.args.task) c.index_mut-cleaner.ensures.value ∙ (set-get_or items c.args.task session ∙ c.self.view_is)))
