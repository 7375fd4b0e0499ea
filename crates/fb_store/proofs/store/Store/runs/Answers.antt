use Rattle.fb_store.proofs.Words.{◌≡◌, ◌+◌, ◌-◌, ap, ◌∙◌, arith, sum_by, ContentRun, content_in}
use Rattle.fb_store.proofs.Longest.{held, sum_by-runs_of-held}
use Rattle.fb_store.proofs.Joined.{fewest_again, one_more}
use Rattle.fb_store.proofs.store.Store.runs.Goals as goal

pub join-requires-clause-fewest : goal.join-requires-clause-fewest
join-requires-clause-fewest c =
    (fewest_again (held (content_in c.args.self.now) c.args.first (c.loop-lbn.lbn - c.args.first)) c.loop-lbn.runs c.loop-lbn.invariant.so_far).1

pub loop-lbn-preserved : goal.loop-lbn-preserved
loop-lbn-preserved c =
    let run = c.run_in_range-run.ensures in
    let before = c.loop-lbn.invariant.from in
    record {
      bounds = let from = run.from in let within = run.within in omega arith;
      from = omega arith;
      stop = c.loop-lbn.invariant.stop;
      so_far = one_more (content_in c.args.self.now) c.args.first c.loop-lbn.lbn (c.args.first + c.args.count) c.run_in_range-run.result
          c.loop-lbn.runs c.join.new.self before run c.loop-lbn.invariant.so_far c.in_ok-join.ensures.ok;
    }

pub returns-clause-whole : goal.returns-clause-whole
returns-clause-whole c =
    let bounds = c.loop-lbn.invariant.bounds in
    let past = c.loop-lbn-test.false in
    let all : c.loop-lbn.lbn - c.args.first ≡ c.args.count = omega arith in
    ap (sum_by (λ (run : ContentRun). run.count)) c.loop-lbn.invariant.so_far
    ∙ (sum_by-runs_of-held (content_in c.args.self.now) c.args.first (c.loop-lbn.lbn - c.args.first) ∙ all)
