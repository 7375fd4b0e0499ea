use Rattle.fb_bgwrite.proofs.Words.{◌+◌, ◌-◌, length, refl, sym, ap, ◌∙◌, arith, length_push, cutting, blocks_of, registered_count}
use Rattle.fb_bgwrite.proofs.Words.{wanted_entry}
use Rattle.fb_bgwrite.proofs.Admitting.{cut_more, none_left, one_counted, registered_few}
use Rattle.fb_bgwrite.proofs.PutBlocks.{block_of}
use Rattle.fb_bgwrite.proofs.spilling.register_blocks.Goals as goal

pub loop-left-init : goal.loop-left-init
loop-left-init c = record { all = refl; next = sym c.requires.none; within = refl; span = c.span-span.ensures.span; few = c.requires.room }

pub overflow_add-block_number : goal.overflow_add-block_number
overflow_add-block_number c =
    omega (arith, c.loop-left.invariant.next, c.loop-left.invariant.few, registered_few c.args.number c.loop-left.pending)

pub loop-left-preserved : goal.loop-left-preserved
loop-left-preserved c =
    let cut = c.next_cut-cut.result in
    let before = c.loop-left.pending in
    let entry = wanted_entry (block_of c.args.number c.loop-left.block_number cut) in
    let rest = cutting c.args.sectors.now 2048 (c.loop-left.lbn + cut.count) (c.loop-left.left - cut.count) in
    let is = c.in_ok-register.ensures.ok in
    record {
      all = cut_more c.args.number c.loop-left.block_number before c.register.new.self cut
          (cutting c.args.sectors.now 2048 c.loop-left.lbn c.loop-left.left) rest c.next_cut-cut.ensures.first is
          ∙ c.loop-left.invariant.all;
      next = omega (
        arith,
        c.loop-left.invariant.next,
        ap (λ es. registered_count c.args.number (blocks_of es)) is,
        one_counted c.args.number before entry refl,
      );
      within = omega (arith, c.next_cut-cut.ensures.within, c.loop-left.invariant.within);
      span = c.next_cut-cut.ensures.span;
      few = omega (
        arith,
        c.loop-left.invariant.few,
        ap length is,
        length_push before entry,
        c.next_cut-cut.ensures.within,
        c.next_cut-cut.ensures.some,
      );
    }

pub returns : goal.returns
returns c = none_left c.args.sectors.now c.args.number c.loop-left.block_number c.loop-left.lbn c.loop-left.left c.loop-left.pending
    (omega (arith, c.loop-left-test.false)) ∙ c.loop-left.invariant.all
