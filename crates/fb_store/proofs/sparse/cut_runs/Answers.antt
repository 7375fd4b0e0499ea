use Rattle.fb_store.proofs.Words.{◌∙◌, ◌+◌, nat_cmp, ContainsKey, ContentRun}
use Rattle.fb_store.proofs.Held.{some_there}
use Rattle.fb_store.proofs.Taken.{so_far_more}
use Rattle.fb_store.proofs.sparse.cut_runs.Goals as goal

pub loop-i-preserved : goal.loop-i-preserved
loop-i-preserved c = record {
  same = λ lbn. c.cut-in-loop-i.ensures.same lbn ∙ (c.cut.ensures.same lbn ∙ c.loop-i.invariant.same lbn);
  begins = so_far_more (λ (run : ContentRun). ContainsKey nat_cmp c.cut-in-loop-i.new.ranges run.first × ContainsKey nat_cmp
      c.cut-in-loop-i.new.ranges (run.first + run.count)) c.args.contents.now c.loop-i.i c.get-run.result c.get-run.ensures.value
      (λ j run less at. let before = c.loop-i.invariant.begins j run less at in (
        c.cut-in-loop-i.ensures.keeps run.first (c.cut.ensures.keeps run.first before.0),
        c.cut-in-loop-i.ensures.keeps (run.first + run.count) (c.cut.ensures.keeps (run.first + run.count) before.1),
      )) (
        c.cut-in-loop-i.ensures.keeps c.get-run.result.first (some_there _ _ c.in_ok-cut.ensures.begins),
        some_there _ _ c.in_ok-cut-2.ensures.begins,
      );
}
