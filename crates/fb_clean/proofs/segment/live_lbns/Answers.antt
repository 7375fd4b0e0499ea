use Rattle.std.proofs.Common.{◌∙◌, ◌++◌, ◌∷◌, [], ap, sym, cond, append-nil, ◌^◌}
use Rattle.fb_clean.proofs.Live.{room_after, blocks_more}
use Rattle.fb_clean.proofs.segment.live_lbns.Goals.{then-get+in_ok-push, else-get}
use Rattle.fb_clean.proofs.segment.live_lbns.Goals as goal

pub loop-i-preserved : goal.loop-i-preserved
loop-i-preserved c =
    let live = c.args.live.now in
    let lbn = c.loop-i.lbn in
    let lbns = c.loop-i.lbns.items in
    record {
      room = room_after live c.loop-i.i lbn c.args.block (10 ^ 12) c.get.result.now c.get.ensures c.loop-i.invariant.room;
      so_far = blocks_more live c.loop-i.i lbn c.args.block c.get.result.now lbns c.if-get.lbns.items _ c.get.ensures
          (elim c.if-get.branch [
            | then-get+in_ok-push w ↦ ap (λ v. v.items) w.lbns-is
                ∙ (w.in_ok-push.ensures.items ∙ ap (λ b. lbns ++ cond b (lbn ∷ []) []) (sym w.if-get.true))
            | else-get w ↦ ap (λ v. v.items) w.lbns-is
                ∙ (sym (append-nil lbns) ∙ ap (λ b. lbns ++ cond b (lbn ∷ []) []) (sym w.if-get.false))
          ])
          c.loop-i.invariant.so_far;
    }
