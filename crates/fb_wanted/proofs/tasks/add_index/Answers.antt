use Rattle.fb_wanted.proofs.Words.{[], ap, ◌∙◌, length, get_or, set, arith, length_push, set-get_or, IfOk-from_err, one_blank_more}
use Rattle.fb_wanted.proofs.Words.{one_changed, on_err, OfTask, no_blocks, joined}
use Rattle.fb_wanted.proofs.tasks.add_index.Goals as goal

pub loop-preserved : goal.loop-preserved
loop-preserved c =
    let items = c.loop.tasks.items in
    let pushed = c.in_ok-push.ensures.items in
    let blocks : OfTask = record { indexes = c.new.result; counts = c.no_counts.result } in
    let blank = ap (λ xs. let b : OfTask = record { indexes = xs; counts = c.no_counts.result } in b) c.new.ensures
    ∙ ap (λ n. let b : OfTask = record { indexes = []; counts = n } in b) c.no_counts.ensures in (
      one_blank_more c.args.tasks.now.items items c.push.new.self.items blocks no_blocks c.loop.invariant.0 pushed blank,
      omega (arith, ap length pushed, length_push items blocks),
    )

pub returns-in_err-push : goal.returns-in_err-push
returns-in_err-push c =
    let as_before = c.in_err-push.ensures.items in record {
      ok = IfOk-from_err c.from_residual.result _ c.from_residual.ensures.0;
      there = IfOk-from_err c.from_residual.result _ c.from_residual.ensures.0;
      err = on_err c.from_residual.result (rw as_before c.loop.invariant.0);
    }

pub returns-in_err-push-2 : goal.returns-in_err-push-2
returns-in_err-push-2 c =
    let items = c.loop.tasks.items in
    let was = c.index_mut.result.now in
    let blocks = ap (λ ps. let b : OfTask = record { indexes = ps; counts = was.counts } in b) c.in_err-push-2.ensures.err in
    let same = ap (set items c.args.task) (blocks ∙ c.index_mut.ensures.value) ∙ set-get_or items c.args.task was in record {
      ok = IfOk-from_err c.from_residual-in_err-push-2.result _ c.from_residual-in_err-push-2.ensures.0;
      there = IfOk-from_err c.from_residual-in_err-push-2.result _ c.from_residual-in_err-push-2.ensures.0;
      err = on_err c.from_residual-in_err-push-2.result (λ k. ap (λ xs. get_or xs k no_blocks) same ∙ c.loop.invariant.0 k);
    }

pub returns-clause-ok : goal.returns-clause-ok
returns-clause-ok c =
    let was = c.index_mut.result.now in
    let new : OfTask = record { indexes = c.push-2.new.self; counts = was.counts } in
    let more = ap (λ xs. let b : OfTask = record { indexes = xs; counts = was.counts } in b) c.in_ok-push-2.ensures.ok in
    one_changed c.args.tasks.now.items c.loop.tasks.items c.args.task was new no_blocks (joined c.args.index) c.loop.invariant.0
    (omega arith) c.index_mut.ensures.value more
