use Rattle.fb_wanted.proofs.Words.{◌≡◌, subst, false, inl, inr, contains, is_gt, cases_Bool, streak_cmp, key_of}
use Rattle.std.proofs.Common.{IfSome}
use Rattle.std.specs.Prelude.{slice_get}
use Rattle.std.specs.BTreeMap.Range.{IsLeBy}
use Rattle.std.proofs.lemmas.Option.{IfSome_then}
use Rattle.fb_wanted.proofs.Keys.{from_key, up_to, from_up_to, between}
use Rattle.fb_wanted.proofs.streaks.next_streak.Goals as goal

pub returns-then-key-task-clause-from : goal.returns-then-key-task-clause-from
returns-then-key-task-clause-from c =
    let begin = subst (λ ks. IfSome (slice_get ks 0) (λ k. is_gt (streak_cmp (key_of c.args.task c.args.from) k) ≡ false))
    c.in-Some.ensures.steps (IfSome_then (slice_get c.range.result 0) (c.range.ensures.in_range tt).1 (λ k x. x.0.0)) in
    from_up_to c.args.task c.in-Some.key.now.1 c.in-Some.key.now.2 c.args.from
    (subst (λ t. is_gt (streak_cmp (key_of c.args.task c.args.from) (t, c.in-Some.key.now.1, c.in-Some.key.now.2)) ≡ false)
    c.if-key-task.true begin)

pub returns-then-key-task-clause-first : goal.returns-then-key-task-clause-first
returns-then-key-task-clause-first c = λ other from has.
    let first = (c.range.ensures.in_range tt).2 (key_of c.args.task other) (from_key c.args.task c.args.from other from, tt) has in
    let up = subst (λ ks. IfSome (slice_get ks 0) (λ k. IsLeBy streak_cmp k (key_of c.args.task other))) c.in-Some.ensures.steps first in
    up_to c.args.task c.in-Some.key.now.1 c.in-Some.key.now.2 other
    (subst (λ t. is_gt (streak_cmp (t, c.in-Some.key.now.1, c.in-Some.key.now.2) (key_of c.args.task other)) ≡ false) c.if-key-task.true
    up)

pub returns-else-key-task-clause-none : goal.returns-else-key-task-clause-none
returns-else-key-task-clause-none c = λ other from. elim (cases_Bool (contains streak_cmp c.args.streaks.now (key_of c.args.task other))) [
  | inl has ↦
      let first = (c.range.ensures.in_range tt).2 (key_of c.args.task other) (from_key c.args.task c.args.from other from, tt) has in
      let down = subst (λ ks. IfSome (slice_get ks 0) (λ k. IsLeBy streak_cmp k (key_of c.args.task other))) c.in-Some.ensures.steps
      first in
      let begin = subst (λ ks. IfSome (slice_get ks 0) (λ k. is_gt (streak_cmp (key_of c.args.task c.args.from) k) ≡ false))
      c.in-Some.ensures.steps (IfSome_then (slice_get c.range.result 0) (c.range.ensures.in_range tt).1 (λ k x. x.0.0)) in
      absurd (c.if-key-task.false (between c.args.task c.in-Some.key.now.0 c.in-Some.key.now.1 c.in-Some.key.now.2 c.args.from other begin
      down))
  | inr none ↦ none
]

pub returns-in-None-clause-none : goal.returns-in-None-clause-none
returns-in-None-clause-none c = λ other from. (c.range.ensures.in_range tt).5 c.in-None.ensures.steps.0 (key_of c.args.task other)
    (from_key c.args.task c.args.from other from, tt)
