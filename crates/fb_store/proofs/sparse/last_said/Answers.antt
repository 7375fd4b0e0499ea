use Rattle.fb_store.proofs.Words.{None, ◌∙◌, ◌^◌, ap, arith, nat_cmp, get, held_of, after_taking, sectors_of}
use Rattle.std.proofs.lemmas.List.{take_all}
use Rattle.fb_store.proofs.Taken.{held_at_empty, taken_more, said_again}
use Rattle.fb_store.proofs.sparse.last_said.Goals as goal

pub loop-i-init : goal.loop-i-init
loop-i-init c = record {
  past = λ lbn past. held_at_empty c.new-ranges.result.entries lbn c.new-ranges.ensures.empty;
  so_far = λ lbn. held_at_empty c.new-ranges.result.entries lbn c.new-ranges.ensures.empty;
}

pub loop-i-preserved : goal.loop-i-preserved
loop-i-preserved c = record {
  past = c.write_run.ensures.past c.loop-i.invariant.past;
  so_far = λ lbn. taken_more c.args.contents.now c.loop-i.i c.get-run.result lbn None (held_of (get nat_cmp c.loop-i.ranges) lbn)
      (held_of (get nat_cmp c.write_run.new.ranges) lbn) c.get-run.ensures.value (c.loop-i.invariant.so_far lbn)
      (c.in_ok-write_run.ensures.ok lbn);
}

pub returns : goal.returns
returns c = said_again (held_of (get nat_cmp c.loop-i.ranges)) c.in_ok-runs.runs c.args.contents.now (10 ^ 12) c.loop-i.invariant.past
    (c.in_ok-runs.ensures.fewest (10 ^ 12) c.contents.ensures.ends)
    (λ lbn. c.loop-i.invariant.so_far lbn ∙ ap (λ runs. after_taking (sectors_of runs) lbn None)
    (take_all c.loop-i.i c.args.contents.now (omega (arith, c.loop-i-test.false, c.len-i-end.ensures))))
