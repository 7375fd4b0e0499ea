use Rattle.fb_store.proofs.Words.{◌≡◌, ◌-◌, ◌++◌, arith, refl, ap, ap₂, ◌∙◌, range_with_len, held_at, held_in, runs_of, sectors_of}
use Rattle.fb_store.proofs.Joined.{fewest_again}
use Rattle.fb_store.proofs.Taken.{added_more, none_added}
use Rattle.fb_store.proofs.sparse.SparseContents.add_runs.Goals as goal

pub loop-lbn-preserved : goal.loop-lbn-preserved
loop-lbn-preserved c =
    let from = c.loop-lbn.invariant.from in
    let next = c.in_ok-lbn.ensures.next in
    record {
      bounds = next.1;
      from = omega (arith, next.0);
      stop = c.loop-lbn.invariant.stop;
      so_far = added_more (held_at c.args.self.now) (sectors_of c.args.runs.now) c.loop-lbn.runs c.add_range.new.runs c.args.first
          c.loop-lbn.lbn c.in_ok-lbn.lbn from (omega (arith, next.0))
          c.loop-lbn.invariant.so_far c.in_ok-lbn.ensures.more;
    }

pub loop-lbn-init : goal.loop-lbn-init
loop-lbn-init c =
    let none : c.args.first - c.args.first ≡ 0 = omega arith in
    record {
      bounds = omega arith;
      from = omega arith;
      stop = refl;
      so_far = none_added c.args.runs.now (held_in (held_at c.args.self.now) (range_with_len c.args.first (c.args.first - c.args.first)))
          (ap (λ n. held_in (held_at c.args.self.now) (range_with_len c.args.first n)) none)
          (fewest_again c.requires.fewest.0 c.args.runs.now c.requires.fewest.1).1;
    }

pub returns : goal.returns
returns c sectors e =
    let past = c.loop-lbn-test.false in
    let bounds = c.loop-lbn.invariant.bounds in
    let all : c.loop-lbn.lbn - c.args.first ≡ c.args.count = omega arith in
    c.loop-lbn.invariant.so_far
    ∙ ap₂ (λ before n. runs_of (before ++ held_in (held_at c.args.self.now) (range_with_len c.args.first n)))
    (fewest_again sectors c.args.runs.now e).0 all
