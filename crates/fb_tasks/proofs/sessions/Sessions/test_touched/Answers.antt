use Rattle.fb_tasks.proofs.Words.{◌<◌, length, ap, sym, ◌∙◌, subst, arith, length-set, HaveChosen}
use Rattle.fb_tasks.proofs.Words.{OnlyTouched, IsAmong, Session, by_calls, ends_of, tasks, on_err}
use Rattle.fb_tasks.proofs.Leaving.{begun_each, touched_none, touched_set}
use Rattle.fb_tasks.proofs.Listed.{listed_less, listed_set, listed_there}
use Rattle.fb_tasks.proofs.Tested.{none_tested, chosen_at, one_tested, tested-to, all-tested}
use Rattle.fb_tasks.proofs.sessions.Sessions.test_touched.Goals as goal

pub loop-task-init : goal.loop-task-init
loop-task-init c = record {
  kept = c.self.invariant;
  within = omega arith;
  tested = λ disk past chosen. none_tested;
  stay = subst (OnlyTouched c.args.self.now) (sym c.self.view_is) (touched_none c.args.self.now);
}

pub next_touched-requires : goal.next_touched-requires
next_touched-requires c = (c.loop-task.self-inside.near, rw c.deref.ensures.value c.loop-task.invariant.kept)

pub test-requires : goal.test-requires
test-requires c =
    let inv = c.loop-task.invariant in
    let n = c.in-Some.task in
    let chosen : HaveChosen c.requires.0 c.requires.1 c.self.inside.sessions.items c.args.wanted.now = rw c.self.view_is c.requires.2 in
    let there = listed_there inv.kept n c.index_mut-session.result.now c.in-Some.ensures.found c.index_mut-session.ensures.value in
    let to = tested-to c.loop-task.from n c.in-Some.ensures.from
    (omega (arith, inv.kept.within n c.in-Some.ensures.found))
    (rw c.deref.ensures.value at c.in-Some.ensures.first) chosen (inv.tested c.requires.0 c.requires.1 chosen) in
    (c.requires.0, c.requires.1, chosen_at chosen n c.index_mut-session.result.now (sym (to.later n (omega arith)) ∙ there))

pub loop-task-preserved : goal.loop-task-preserved
loop-task-preserved c =
    let inv = c.loop-task.invariant in
    let items = c.loop-task.self-inside.sessions.items in
    let n = c.in-Some.task in
    let session = c.index_mut-session.result.now in
    let within : n < length items = inv.kept.within n c.in-Some.ensures.found in
    let there = listed_there inv.kept n session c.in-Some.ensures.found c.index_mut-session.ensures.value in
    let touched = (rw c.deref.ensures.value at c.in-Some.ensures.touched) session there in
    let cleared = c.take_sealed_chunks-chunks.new.self in
    let taken = c.take_sealed_chunks-chunks.ensures in
    record {
      kept = listed_less inv.kept n session cleared c.forget.new.list c.forget_near.new.near
          (λ chunk. IsAmong c.take_sealed_chunks-chunks.result chunk) there (ap (λ (s : Session). s.touched) taken.session)
          c.forget.ensures.others c.forget.ensures.only c.forget_near.ensures.others
          (λ chunk among. let was = taken.others chunk among in
          (subst (λ chunks. IsAmong chunks chunk) c.test.ensures.chunks was.0, was.1));
      within = omega (arith, within, length-set items n cleared);
      tested = λ disk past chosen.
          let to = tested-to c.loop-task.from n c.in-Some.ensures.from (omega (arith, within))
          (rw c.deref.ensures.value at c.in-Some.ensures.first) chosen (inv.tested disk past chosen) in
          one_tested to (c.in_ok-test.ensures.tested disk past (chosen_at chosen n session (sym (to.later n (omega arith)) ∙ there)))
          taken.session taken.stays;
      stay = touched_set c.args.self.now items n session cleared there touched
          (ap by_calls taken.session ∙ c.test.ensures.same.0) inv.stay;
    }

pub returns-clause-tested : goal.returns-clause-tested
returns-clause-tested c = λ disk past now_chosen.
    let inv = c.loop-task.invariant in
    let items = c.loop-task.self-inside.sessions.items in
    let chosen : HaveChosen disk past c.self.inside.sessions.items c.args.wanted.now = rw c.self.view_is now_chosen in
    let is = tested-to c.loop-task.from (length items) inv.within (omega arith)
    (λ k s low high. (rw c.deref.ensures.value at c.in_default.ensures.none) k s low) chosen (inv.tested disk past chosen) in
    all-tested chosen is

pub returns-in_err-test-clause-stay_sessions : goal.returns-in_err-test-clause-stay_sessions
returns-in_err-test-clause-stay_sessions c =
    let inv = c.loop-task.invariant in
    let session = c.index_mut-session.result.now in
    let there = listed_there inv.kept c.in-Some.task session c.in-Some.ensures.found c.index_mut-session.ensures.value in
    touched_set c.args.self.now c.loop-task.self-inside.sessions.items c.in-Some.task session c.test.new.self there
    ((rw c.deref.ensures.value at c.in-Some.ensures.touched) session there) c.test.ensures.same.0 inv.stay

pub index_mut-session-requires : goal.index_mut-session-requires
index_mut-session-requires c =
    let kept = c.loop-task.invariant.kept in
    omega (arith, kept.within c.in-Some.task c.in-Some.ensures.found, c.loop-task.self-inside.sessions.ok.0)

pub overflow_add-from : goal.overflow_add-from
overflow_add-from c =
    let kept = c.loop-task.invariant.kept in omega (arith, kept.within c.in-Some.task c.in-Some.ensures.found, kept.room)

pub loop-task-smaller : goal.loop-task-smaller
loop-task-smaller c = omega (
  arith,
  c.loop-task.invariant.kept.within c.in-Some.task c.in-Some.ensures.found,
  c.in-Some.ensures.from,
  length-set c.loop-task.self-inside.sessions.items c.in-Some.task c.take_sealed_chunks-chunks.new.self,
)

pub returns-in_err-test-clause-err_rows : goal.returns-in_err-test-clause-err_rows
returns-in_err-test-clause-err_rows c = on_err c.from_residual.result (λ disk past now_chosen.
    let inv = c.loop-task.invariant in
    let n = c.in-Some.task in
    let chosen : HaveChosen disk past c.self.inside.sessions.items c.args.wanted.now = rw c.self.view_is now_chosen in
    let there = listed_there inv.kept n c.index_mut-session.result.now c.in-Some.ensures.found c.index_mut-session.ensures.value in
    let within = inv.kept.within n c.in-Some.ensures.found in
    let to = tested-to c.loop-task.from n c.in-Some.ensures.from (omega (arith, within))
    (rw c.deref.ensures.value at c.in-Some.ensures.first) chosen (inv.tested disk past chosen) in
    begun_each (ends_of past c.args.now) n (length (tasks past)) (omega (arith, within, to.as_many, chosen.as_many)) to.rows_are
    (c.in_err-test.ensures.err_rows disk past
    (chosen_at chosen n c.index_mut-session.result.now (sym (to.later n (omega arith)) ∙ there))))

pub invariant_of-self : goal.invariant_of-self
invariant_of-self c =
    let there = listed_there c.loop-task.invariant.kept c.in-Some.task c.index_mut-session.result.now c.in-Some.ensures.found
    c.index_mut-session.ensures.value in
    listed_set c.loop-task.invariant.kept c.in-Some.task c.index_mut-session.result.now c.test.new.self there c.in-Some.ensures.found
    c.test.ensures.chunks
