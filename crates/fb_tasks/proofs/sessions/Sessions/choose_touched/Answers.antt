use Rattle.fb_tasks.proofs.Words.{◌<◌, length, sym, subst, arith, length-set, MaySettle, OnlyTouched, on_err}
use Rattle.fb_tasks.proofs.Leaving.{touched_none, touched_set}
use Rattle.fb_tasks.proofs.BegunChoices.{all-begun, blocks-at, rows-at}
use Rattle.fb_tasks.proofs.Listed.{listed_set, listed_there}
use Rattle.fb_tasks.proofs.AllChoices.{partly-start, partly-may, partly-more, partly-to, all-chosen, past_at}
use Rattle.fb_tasks.proofs.sessions.Sessions.choose_touched.Goals as goal

pub loop-task-init : goal.loop-task-init
loop-task-init c = record {
  kept = c.self.invariant;
  within = omega arith;
  partly = λ past h. partly-start c.args.map.now past c.self.inside.sessions.items c.args.wanted.now c.args.now c.args.rows.now
      (subst (λ xs. MaySettle c.args.map.now past xs c.args.wanted.now) (sym c.self.view_is) h);
  stay = subst (OnlyTouched c.args.self.now) (sym c.self.view_is) (touched_none c.args.self.now);
}

pub next_touched-requires : goal.next_touched-requires
next_touched-requires c = (c.loop-task.self-inside.near, rw c.deref.ensures.value c.loop-task.invariant.kept)

pub choose-requires : goal.choose-requires
choose-requires c =
    let inv = c.loop-task.invariant in
    let n = c.in-Some.task in
    let there = listed_there inv.kept n c.index_mut.result.now c.in-Some.ensures.found c.index_mut.ensures.value in
    let to = partly-to c.loop-task.from n c.in-Some.ensures.from
    (omega (arith, inv.kept.within n c.in-Some.ensures.found))
    (rw c.deref.ensures.value at c.in-Some.ensures.first) (inv.partly c.requires.0 c.requires.1) in
    (past_at c.args.map.now c.requires.0 n, partly-may there to)

pub loop-task-preserved : goal.loop-task-preserved
loop-task-preserved c =
    let inv = c.loop-task.invariant in
    let items = c.loop-task.self-inside.sessions.items in
    let n = c.in-Some.task in
    let session = c.index_mut.result.now in
    let within : n < length items = inv.kept.within n c.in-Some.ensures.found in
    let there = listed_there inv.kept n session c.in-Some.ensures.found c.index_mut.ensures.value in
    let touched = (rw c.deref.ensures.value at c.in-Some.ensures.touched) session there in
    record {
      kept = listed_set inv.kept n session c.choose.new.self there c.in-Some.ensures.found c.choose.ensures.chunks;
      within = omega (arith, within, length-set items n c.choose.new.self);
      partly = λ past h.
          let to = partly-to c.loop-task.from n c.in-Some.ensures.from (omega (arith, within))
          (rw c.deref.ensures.value at c.in-Some.ensures.first) (inv.partly past h) in
          partly-more there c.choose.ensures.same.1 to (c.in_ok-choose.ensures.chosen _ (partly-may there to));
      stay = touched_set c.args.self.now items n session c.choose.new.self there touched c.choose.ensures.same.0 inv.stay;
    }

pub returns-clause-chosen : goal.returns-clause-chosen
returns-clause-chosen c = λ past h.
    let inv = c.loop-task.invariant in
    all-chosen (partly-to c.loop-task.from (length c.loop-task.self-inside.sessions.items) inv.within (omega arith)
    (λ k s low high. (rw c.deref.ensures.value at c.in_default.ensures.none) k s low) (inv.partly past h))

pub returns-clause-blocks : goal.returns-clause-blocks
returns-clause-blocks c = λ past h. all-begun h (returns-clause-chosen c past h).0.blocks

pub returns-in_err-choose-clause-blocks : goal.returns-in_err-choose-clause-blocks
returns-in_err-choose-clause-blocks c = λ past h.
    let inv = c.loop-task.invariant in
    let n = c.in-Some.task in
    let there = listed_there inv.kept n c.index_mut.result.now c.in-Some.ensures.found c.index_mut.ensures.value in
    let to = partly-to c.loop-task.from n c.in-Some.ensures.from (omega (arith, inv.kept.within n c.in-Some.ensures.found))
    (rw c.deref.ensures.value at c.in-Some.ensures.first) (inv.partly past h) in
    blocks-at h there to (c.in_err-choose.ensures.begun _ (partly-may there to))

pub returns-in_err-choose-clause-err_rows : goal.returns-in_err-choose-clause-err_rows
returns-in_err-choose-clause-err_rows c = on_err c.from_residual.result (λ past h.
    let inv = c.loop-task.invariant in
    let n = c.in-Some.task in
    let there = listed_there inv.kept n c.index_mut.result.now c.in-Some.ensures.found c.index_mut.ensures.value in
    let to = partly-to c.loop-task.from n c.in-Some.ensures.from (omega (arith, inv.kept.within n c.in-Some.ensures.found))
    (rw c.deref.ensures.value at c.in-Some.ensures.first) (inv.partly past h) in
    rows-at h there to (c.in_err-choose.ensures.begun _ (partly-may there to)))

pub returns-in_err-choose-clause-stay_sessions : goal.returns-in_err-choose-clause-stay_sessions
returns-in_err-choose-clause-stay_sessions c =
    let inv = c.loop-task.invariant in
    let there = listed_there inv.kept c.in-Some.task c.index_mut.result.now c.in-Some.ensures.found c.index_mut.ensures.value in
    touched_set c.args.self.now c.loop-task.self-inside.sessions.items c.in-Some.task c.index_mut.result.now c.choose.new.self there
    ((rw c.deref.ensures.value at c.in-Some.ensures.touched) c.index_mut.result.now there) c.choose.ensures.same.0 inv.stay

pub index_mut-requires : goal.index_mut-requires
index_mut-requires c =
    let kept = c.loop-task.invariant.kept in
    omega (arith, kept.within c.in-Some.task c.in-Some.ensures.found, c.loop-task.self-inside.sessions.ok.0)

pub overflow_add-from : goal.overflow_add-from
overflow_add-from c =
    let kept = c.loop-task.invariant.kept in omega (arith, kept.within c.in-Some.task c.in-Some.ensures.found, kept.room)

pub loop-task-smaller : goal.loop-task-smaller
loop-task-smaller c = omega (
  arith,
  c.loop-task.invariant.kept.within c.in-Some.task c.in-Some.ensures.found,
  c.in-Some.ensures.from,
  length-set c.loop-task.self-inside.sessions.items c.in-Some.task c.choose.new.self,
)

pub invariant_of-self : goal.invariant_of-self
invariant_of-self c =
    let there = listed_there c.loop-task.invariant.kept c.in-Some.task c.index_mut.result.now c.in-Some.ensures.found c.index_mut.ensures.value in
    listed_set c.loop-task.invariant.kept c.in-Some.task c.index_mut.result.now c.choose.new.self there c.in-Some.ensures.found
    c.choose.ensures.chunks
