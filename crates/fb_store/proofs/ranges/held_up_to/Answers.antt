use Rattle.fb_store.proofs.Words.{arith, inl, inr, nat_cmp, get, cases_lt}
use Rattle.fb_store.proofs.Held.{held_last, is_below, is_not_above, not_above, not_below}
use Rattle.fb_store.proofs.ranges.held_up_to.Goals as goal

pub returns-then-begin-lbn-clause-held : goal.returns-then-begin-lbn-clause-held
returns-then-begin-lbn-clause-held c =
    let in_range = c.range.ensures.in_range tt in
    held_last (get nat_cmp c.args.ranges.now) c.in-Some.begin.now c.args.lbn c.in-Some.held.now
    (in_range.3 _ _ c.in-Some.ensures.steps).1 (is_not_above c.in-Some.begin.now c.args.lbn c.if-begin-lbn.true)
    (λ later le some. in_range.4 _ _ c.in-Some.ensures.steps later
    (tt, is_below later c.args.end (let first = not_above later c.args.lbn le in let order = c.requires in omega arith)) some)

pub returns-then-begin-lbn-clause-least : goal.returns-then-begin-lbn-clause-least
returns-then-begin-lbn-clause-least c = λ begin there behind.
    let in_range = c.range.ensures.in_range tt in
    elim (cases_lt begin c.args.end) [
      | inl before ↦ let last = not_below c.in-Some.begin.now begin
          (in_range.4 _ _ c.in-Some.ensures.steps begin (tt, is_below begin c.args.end before) there) in
          let first = c.if-begin-lbn.true in absurd (omega arith)
      | inr after ↦ after
    ]
