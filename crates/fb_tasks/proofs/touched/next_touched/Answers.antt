use Rattle.fb_tasks.proofs.Words.{◌≡◌, ℕ, ◌<◌, ◌≤◌, ◌+◌, List, false, Some, inl, inr, slice_get, ap, sym, ◌∙◌, subst, arith}
use Rattle.fb_tasks.proofs.Words.{contains, nat_cmp, BTreeSet, cases_Bool, cases_lt, true≢false, get_or_from_slice_get, Session, AreListed}
use Rattle.fb_tasks.proofs.touched.next_touched.Goals as goal

-- no session before a number was touched, if none before this one was and none from there on is listed
none-before : {sessions : List Session} {listed : BTreeSet ℕ} {near : BTreeSet (ℕ × ℕ)} (h : AreListed sessions listed near) (from this next : ℕ)
    → ((k : ℕ) (session : Session) → from ≤ k → k < this → slice_get sessions k ≡ Some session → session.touched ≡ false)
    → ((k : ℕ) → this ≤ k → k < next → contains nat_cmp listed k ≡ false)
    → (k : ℕ) (session : Session) → from ≤ k → k < next → slice_get sessions k ≡ Some session → session.touched ≡ false
none-before h from this next first none k session low less at = elim (cases_lt k this) [
  | inl before ↦ first k session low before at
  | inr after ↦ elim (cases_Bool session.touched) [
    | inl is ↦ absurd (true≢false (sym (h.listed k session at is) ∙ none k after less))
    | inr free ↦ free
  ]
]

pub returns-then-sessions-task-clause-touched : goal.returns-then-sessions-task-clause-touched
returns-then-sessions-task-clause-touched c = λ session at.
    sym (ap (λ (s : Session). s.touched) (get_or_from_slice_get c.args.sessions.now c.in-Some.task session c.index-sessions-task.result at))
    ∙ c.if-sessions-task.true

pub returns-then-sessions-task-clause-first : goal.returns-then-sessions-task-clause-first
returns-then-sessions-task-clause-first c = none-before c.requires.1 c.args.from c.loop-task.from c.in-Some.task
    c.loop-task.invariant.first c.in-Some.ensures.first

pub loop-task-preserved : goal.loop-task-preserved
loop-task-preserved c =
    let sessions = c.args.sessions.now in
    let task = c.in-Some.task in
    record {
      from = omega (arith, c.in-Some.ensures.from, c.loop-task.invariant.from);
      first = λ k session low less at. elim (cases_lt k task) [
        | inl before ↦ none-before c.requires.1 c.args.from c.loop-task.from task c.loop-task.invariant.first c.in-Some.ensures.first
            k session low before at
        | inr after ↦
            let same : k ≡ task = omega arith in
            let here = subst (λ j. slice_get sessions j ≡ Some session) same at in
            sym (ap (λ (s : Session). s.touched) (get_or_from_slice_get sessions task session c.index-sessions-task.result here))
            ∙ c.if-sessions-task.false
      ];
    }

pub returns-clause-none : goal.returns-clause-none
returns-clause-none c = λ k session low at. none-before c.requires.1 c.args.from c.loop-task.from (k + 1)
    c.loop-task.invariant.first (λ j after _. c.in_default.ensures.none j after) k session low (omega arith) at
