use Rattle.std.proofs.Common.{arith, ap, ◌∙◌, inl, inr, subst}
use Rattle.std.proofs.lemmas.Option.{get_or_from_slice_get}
use Rattle.fb_queue.specs.Least.{IsFirstLeastAt}
use Rattle.fb_queue.proofs.FirstLeast.{goes_on, first_is_best}
use Rattle.fb_queue.proofs.keyed.first_least.Goals as goal
use Rattle.fb_queue.proofs.keyed.first_least.Goals.{then-next-least, else-next-least}

pub loop-i-init : goal.loop-i-init
loop-i-init g c =
    let key = g.P.Policy.key c.args.disk.now c.args.head c.args.now in
    record {
      best = first_is_best key c.args.waiting.now;
      least = λ q e. c.key_of-least.ensures ∙ ap key (get_or_from_slice_get c.args.waiting.now 0 q _ e);
    }

pub loop-i-preserved : goal.loop-i-preserved
loop-i-preserved g c =
    let l = c.loop-i in
    let key = g.P.Policy.key c.args.disk.now c.args.head c.args.now in
    goes_on key c.args.waiting.now l.i l.best l.least c.if-next-least.best c.if-next-least.least c.key_of-next.result l.invariant
    c.loop-i-test.true
    (λ r e. c.key_of-next.ensures ∙ ap key (get_or_from_slice_get c.args.waiting.now l.i r _ e))
    (elim c.if-next-least.branch [
      | then-next-least w ↦ inl (w.if-next-least.true, w.best-is, w.least-is)
      | else-next-least w ↦ inr (w.if-next-least.false, w.best-is, w.least-is)
    ])

pub returns : goal.returns
returns g c = subst (λ n. IsFirstLeastAt (g.P.Policy.key c.args.disk.now c.args.head c.args.now) c.args.waiting.now n c.loop-i.best)
    (omega arith) c.loop-i.invariant.best
