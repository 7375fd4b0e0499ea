use Rattle.fb_wanted.proofs.Words.{ap, ◌∙◌, length, get_or, set, arith, length_push, set-get_or, IfOk-from_err, one_blank_more}
use Rattle.fb_wanted.proofs.Words.{one_changed, on_err, no_block_on, grown}
use Rattle.fb_wanted.proofs.heads.add_to.Goals as goal

pub loop-preserved : goal.loop-preserved
loop-preserved c =
    let items = c.loop.tracks.items in
    let new = c.push.new.self.items in
    let pushed = c.in_ok-push.ensures.items in (
      one_blank_more c.args.tracks.now.items items new c.new.result no_block_on c.loop.invariant.0 pushed c.new.ensures,
      omega (arith, ap length pushed, length_push items c.new.result),
    )

pub returns-in_err-push : goal.returns-in_err-push
returns-in_err-push c =
    let as_before = c.in_err-push.ensures.items in record {
      ok = IfOk-from_err c.from_residual.result _ c.from_residual.ensures.0;
      err = on_err c.from_residual.result (rw as_before c.loop.invariant.0);
    }

pub returns-in_err-add : goal.returns-in_err-add
returns-in_err-add c =
    let items = c.loop.tracks.items in
    let was = c.index_mut.result.now in
    let same = ap (set items c.args.head) (c.in_err-add.ensures.err ∙ c.index_mut.ensures.value) ∙ set-get_or items c.args.head was in
    record {
      ok = IfOk-from_err c.from_residual-in_err-add.result _ c.from_residual-in_err-add.ensures.0;
      err = on_err c.from_residual-in_err-add.result (λ h. ap (λ xs. get_or xs h no_block_on) same ∙ c.loop.invariant.0 h);
    }

pub returns-clause-ok : goal.returns-clause-ok
returns-clause-ok c =
    one_changed c.args.tracks.now.items c.loop.tracks.items c.args.head c.index_mut.result.now c.add.new.self no_block_on
    (grown c.args.index) c.loop.invariant.0 (omega arith) c.index_mut.ensures.value c.in_ok-add.ensures.ok
