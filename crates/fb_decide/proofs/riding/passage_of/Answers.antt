use Rattle.std.proofs.Common.{◌∙◌, sym}
use Rattle.fb_decide.proofs.Extents.{it_is_here, it_is_before, it_is_behind, it_is_nowhere}
use Rattle.fb_decide.proofs.riding.passage_of.Goals.{else-extent-lbn-via-then-extent-lbn+else-lbn-extent}
use Rattle.fb_decide.proofs.riding.passage_of.Goals.{else-extent-lbn-via-else-extent-lbn}
use Rattle.fb_decide.proofs.riding.passage_of.Goals as goal

pub returns-then-lbn-extent : goal.returns-then-lbn-extent
returns-then-lbn-extent c =
    it_is_here c.args.disk.now.map c.args.extents.now c.loop-extent.extent-index _ c.args.lbn c.nth_passage.result c.loop-extent-test.true
    c.if-extent-lbn.true c.if-lbn-extent.true c.nth_passage.ensures
    ∙ sym c.loop-extent.invariant

pub loop-extent-preserved : goal.loop-extent-preserved
loop-extent-preserved c = c.loop-extent.invariant ∙ elim c.else-extent-lbn.branch [
  | else-extent-lbn-via-then-extent-lbn+else-lbn-extent w ↦ it_is_behind c.args.disk.now.map c.args.extents.now c.loop-extent.extent-index _
      c.args.lbn c.loop-extent-test.true w.if-lbn-extent.false
  | else-extent-lbn-via-else-extent-lbn w ↦ it_is_before c.args.disk.now.map c.args.extents.now c.loop-extent.extent-index _ c.args.lbn
      c.loop-extent-test.true w.if-extent-lbn.false
]

pub returns : goal.returns
returns c = sym (c.loop-extent.invariant
    ∙ it_is_nowhere c.args.disk.now.map c.args.extents.now c.loop-extent.extent-index c.args.lbn c.loop-extent-test.false)
