use Rattle.fb_store.proofs.Words.{◌+◌, ◌∙◌, arith, nat_cmp, get, held_of}
use Rattle.fb_store.proofs.Taken.{taken_more, taken_run}
use Rattle.fb_store.proofs.sparse.assign_runs.Goals as goal

pub assign-requires-clause-ends : goal.assign-requires-clause-ends
assign-requires-clause-ends c = (c.loop-i.invariant.begins c.loop-i.i c.get-run.result c.get-run.ensures.value).1

pub loop-i-preserved : goal.loop-i-preserved
loop-i-preserved c = record {
  past = λ ends lbn le.
      let range = c.get-run.ensures.range in
      c.assign.ensures.after lbn (omega arith) ∙ c.loop-i.invariant.past ends lbn le;
  begins = λ i run at. let before = c.loop-i.invariant.begins i run at in (
    c.assign.ensures.keeps run.first before.0,
    c.assign.ensures.keeps (run.first + run.count) before.1,
  );
  so_far = λ lbn. taken_more c.args.contents.now c.loop-i.i c.get-run.result lbn (held_of (get nat_cmp c.args.ranges.now) lbn)
      (held_of (get nat_cmp c.loop-i.ranges) lbn) (held_of (get nat_cmp c.assign.new.ranges) lbn) c.get-run.ensures.value
      (c.loop-i.invariant.so_far lbn) (taken_run c.get-run.result lbn (held_of (get nat_cmp c.loop-i.ranges) lbn)
      (held_of (get nat_cmp c.assign.new.ranges) lbn) (c.assign.ensures.inside lbn) (c.assign.ensures.before lbn) (c.assign.ensures.after lbn));
}
