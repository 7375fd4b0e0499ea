use Rattle.fb_store.proofs.Words.{sym, nat_cmp, get}
use Rattle.fb_store.proofs.Held.{held_last, none_held, is_not_above}
use Rattle.fb_store.proofs.ranges.held_at.Goals as goal

pub returns-in-Some : goal.returns-in-Some
returns-in-Some c =
    let in_range = c.range.ensures.in_range tt in
    held_last (get nat_cmp c.args.ranges.now) c.in-Some.field-0-0.now c.args.lbn c.in-Some.held.now
    (in_range.3 _ _ c.in-Some.ensures.steps).1 (in_range.3 _ _ c.in-Some.ensures.steps).0.1
    (λ later le some. in_range.4 _ _ c.in-Some.ensures.steps later (tt, le) some)

pub returns-in-None : goal.returns-in-None
returns-in-None c = sym (none_held (get nat_cmp c.args.ranges.now) c.args.lbn
    (λ begin le. (c.range.ensures.in_range tt).5 c.in-None.ensures.steps.0 begin (tt, is_not_above begin c.args.lbn le)))
