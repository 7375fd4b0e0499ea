use Rattle.std.proofs.Common.{◌<◌, ◌*◌, length, take, arith}
use Rattle.fb_calls.specs.Live.{bits}
use Rattle.fb_calls.proofs.Bits.{live_digits, live_length, zero_dead}
use Rattle.fb_calls.proofs.LiveBlocks.{four_dead, one_block}
use Rattle.fb_calls.proofs.blocks.count_live_cuts.Goals as goal

pub bounds-live-i : goal.bounds-live-i
bounds-live-i c = omega (arith, live_length c.args.blocks c.args.live.now c.requires.live)

pub is_live_block-requires-clause-digits : goal.is_live_block-requires-clause-digits
is_live_block-requires-clause-digits c = live_digits c.args.blocks c.args.live.now c.requires.live

pub is_live_block-requires-clause-block : goal.is_live_block-requires-clause-block
is_live_block-requires-clause-block c = omega (arith, live_length c.args.blocks c.args.live.now c.requires.live)

pub loop-i-preserved-then-live-i-eq48 : goal.loop-i-preserved-then-live-i-eq48
loop-i-preserved-then-live-i-eq48 c =
    let l = c.loop-i in
    let inside : l.i < 4 * length c.args.live.now = omega (arith, live_length c.args.blocks c.args.live.now c.requires.live) in
    let dead = zero_dead c.args.blocks c.args.live.now l.i c.if-i-eq0.true inside c.if-live-i-eq48.true in
    record {
      cuts = omega (
        arith,
        l.invariant.cuts,
        four_dead c.args.map.now c.args.block c.args.first (take c.args.blocks (bits c.args.live.now)) l.i dead,
      );
      few = l.invariant.few;
    }

pub loop-i-preserved : goal.loop-i-preserved
loop-i-preserved c =
    let l = c.loop-i in
    let first = one_block c.args.map.now c.args.block c.args.blocks c.args.first l.i c.args.live.now c.is_live_block.result c.requires.live
    c.loop-i-test.true c.is_live_block.ensures in
    record {
      cuts = omega (arith, l.invariant.cuts, first, c.in_ok-cuts.ensures);
      few = omega (arith, l.invariant.few, c.in_ok-cuts.ensures);
    }

pub returns-in_err-cuts : goal.returns-in_err-cuts
returns-in_err-cuts c =
    let l = c.loop-i in
    let first = one_block c.args.map.now c.args.block c.args.blocks c.args.first l.i c.args.live.now c.is_live_block.result c.requires.live
    c.loop-i-test.true c.is_live_block.ensures in
    rw c.from_residual.ensures (omega (arith, c.in_err-cuts.ensures, first, l.invariant.cuts, l.invariant.few))
