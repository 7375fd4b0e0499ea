use Rattle.fb_store.proofs.Words.{Some, arith, inl, inr, nat_cmp, get, cases_lt}
use Rattle.fb_store.proofs.Held.{assigned_inside, assigned_after}
use Rattle.fb_store.proofs.ranges.assign.Goals as goal

pub returns-clause-inside : goal.returns-clause-inside
returns-clause-inside c lbn from to =
    let at = c.loop-begin.invariant in
    let past = c.loop-begin-test.false in
    assigned_inside (get nat_cmp c.loop-begin.ranges) c.args.first lbn (Some c.args.content)
    (at.changed c.args.first (omega arith) (omega arith) (at.keeps c.args.first c.requires.begins)) from
    (λ begin a b some. at.changed begin (omega arith) (omega arith) some)

pub returns-clause-after : goal.returns-clause-after
returns-clause-after c lbn more =
    let at = c.loop-begin.invariant in
    let within = at.within in
    assigned_after (get nat_cmp c.args.ranges.now) (get nat_cmp c.loop-begin.ranges) c.args.end lbn c.requires.ends more
    (λ begin le. elim (cases_lt begin c.args.first) [
      | inl a ↦ at.below begin a
      | inr b ↦ at.above begin (omega arith)
    ])
