use Rattle.fb_store.proofs.Words.{sym, ap, ◌∙◌, ◌-◌, ◌+◌, ◌≤◌, ◌^◌, arith, set, get_or_from_slice_get, on_ok_weaker}
use Rattle.fb_store.proofs.Joined.{joined_last, pushed_last, joined-first, longer, some_run}
use Rattle.fb_store.proofs.contents.Contents.join.Goals.{After-get-longer}
use Rattle.fb_store.proofs.contents.Contents.join.Goals as goal

-- the last run, made longer by the one that joins it, lies below 10^12 too
no_longer : (c : After-get-longer) → c.get-longer.result.first + c.get-longer.result.count + c.args.run.count ≤ 10 ^ 12
no_longer c =
    let goes_on = sym c.goes_on.ensures ∙ c.if-not-goes_on.false in
    let size = some_run c.args.self.now c.args.run goes_on in
    let first = joined-first c.args.self.now (c.len-last.result - 1) c.get-longer.result c.args.run (omega arith)
    c.get-longer.ensures.value goes_on in
    omega (arith, c.requires.range)

pub overflow_add-longer : goal.overflow_add-longer
overflow_add-longer c = omega (arith, no_longer (goal.at.overflow_add-longer c).After-get-longer)

pub set-requires-clause-range : goal.set-requires-clause-range
set-requires-clause-range c = omega (arith, no_longer (goal.at.set-requires-clause-range c).After-get-longer)

pub returns-clause-ok : goal.returns-clause-ok
returns-clause-ok c =
    let goes_on = sym c.goes_on.ensures ∙ c.if-not-goes_on.false in
    let size = some_run c.args.self.now c.args.run goes_on in
    let last =
    get_or_from_slice_get c.args.self.now (c.len-last.result - 1) c.get-longer.result c.get-longer.result c.get-longer.ensures.value in
    on_ok_weaker c.set.result
    (λ set_to. set_to ∙ (ap (λ run. set c.args.self.now (c.len-last.result - 1) (longer run c.args.run)) (sym last)
    ∙ joined_last c.args.self.now (c.len-last.result - 1) c.get-longer.result c.args.run
    (omega arith) c.requires.some c.requires.fewest goes_on))
    c.set.ensures.ok

pub returns-then-not-goes_on-clause-ok : goal.returns-then-not-goes_on-clause-ok
returns-then-not-goes_on-clause-ok c =
    on_ok_weaker c.push.result (λ pushed. pushed ∙ pushed_last c.args.self.now c.args.run c.requires.some c.requires.fewest
    (sym c.goes_on.ensures ∙ c.if-not-goes_on.true)) c.push.ensures.ok
