use Rattle.fb_plan.proofs.Words.{rules, is_before}
use Rattle.std.proofs.lemmas.Fn.{always_returns_same}
use Rattle.fb_plan.proofs.Sorted.{delivery_is_an_order, sorted_is_in_order}
use Rattle.fb_plan.proofs.catching.put_in_order.Goals as goal

pub returns-clause-ordered : goal.returns-clause-ordered
returns-clause-ordered c =
    let answers = always_returns_same _ _ _ (λ a r f k. search rules) in
    sorted_is_in_order c.args.found.now.items c.sort_by.new.self.items
    (c.in_ok-sort_by.ensures.sorted is_before delivery_is_an_order answers)
    (c.sort_by.ensures.stable is_before delivery_is_an_order answers)
