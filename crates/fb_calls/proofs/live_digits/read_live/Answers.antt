use Rattle.std.proofs.Common.{◌++◌, [], ◌∷◌, false, take, sym, ap, ◌∙◌, arith}
use Rattle.std.proofs.lemmas.List.{take_more}
use Rattle.fb_calls.specs.Live.{bits}
use Rattle.fb_calls.proofs.Bits.{length-bits, live_digits, live_length}
use Rattle.fb_calls.proofs.live_digits.read_live.Goals as goal

pub is_live_block-requires-clause-digits : goal.is_live_block-requires-clause-digits
is_live_block-requires-clause-digits c = live_digits c.args.blocks c.args.digits.now c.requires

pub is_live_block-requires-clause-block : goal.is_live_block-requires-clause-block
is_live_block-requires-clause-block c = omega (arith, live_length c.args.blocks c.args.digits.now c.requires)

pub loop-block-preserved : goal.loop-block-preserved
loop-block-preserved c =
    let few = live_length c.args.blocks c.args.digits.now c.requires in
    let front = take c.loop-block.block (bits c.args.digits.now) in
    c.in_ok-push.ensures.ok ∙ ap (λ live. live ++ c.is_live_block.result ∷ []) c.loop-block.invariant
    ∙ ap (λ bit. front ++ bit ∷ []) c.is_live_block.ensures
    ∙ sym (take_more (bits c.args.digits.now) c.loop-block.block false (omega (arith, length-bits c.args.digits.now)))
