use Rattle.fb_store.proofs.Words.{◌∙◌, ◌+◌, ◌&&◌, ap, sym, arith, drop, ascend}
use Rattle.fb_units.proofs.Comparing.{after_is, by_is}
use Rattle.fb_units.proofs.Lists.{drop_at}
use Rattle.fb_store.proofs.sparse.ascend.Goals as goal

pub returns-then-run-end : goal.returns-then-run-end
returns-then-run-end c =
    let run = c.get-run.result in
    sym (c.loop-i.invariant ∙ (ap (ascend c.loop-i.end) (drop_at c.args.contents.now c.loop-i.i run c.get-run.ensures.value)
    ∙ ap (λ fits. fits && ascend (run.first + run.count) (drop (c.loop-i.i + 1) c.args.contents.now))
    (after_is c.loop-i.end run.first c.if-run-end.true)))

pub loop-i-preserved : goal.loop-i-preserved
loop-i-preserved c =
    let run = c.get-run.result in
    c.loop-i.invariant ∙ (ap (ascend c.loop-i.end) (drop_at c.args.contents.now c.loop-i.i run c.get-run.ensures.value)
    ∙ ap (λ fits. fits && ascend (run.first + run.count) (drop (c.loop-i.i + 1) c.args.contents.now))
    (by_is c.loop-i.end run.first (omega (arith, c.if-run-end.false))))
