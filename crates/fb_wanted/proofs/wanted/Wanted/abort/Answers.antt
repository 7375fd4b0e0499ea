use Rattle.fb_wanted.proofs.Words.{ap, arith, counts_of}
use Rattle.fb_wanted.proofs.Counted.{aborted-after}
use Rattle.fb_wanted.proofs.wanted.Wanted.abort.Goals as goal

pub overflow_sub-result : goal.overflow_sub-result
overflow_sub-result c = omega (
  arith,
  ap (λ n. n.aborted) c.counts.ensures,
  ap (λ n. n.aborted) c.counts-before.ensures,
  ap (λ es. (counts_of c.args.task es).aborted) c.change_range.ensures,
  aborted-after c.args.task c.args.first c.args.count c.args.self.now,
)

pub returns-clause-number : goal.returns-clause-number
returns-clause-number c = omega (
  arith,
  ap (λ n. n.aborted) c.counts.ensures,
  ap (λ n. n.aborted) c.counts-before.ensures,
  ap (λ es. (counts_of c.args.task es).aborted) c.change_range.ensures,
  aborted-after c.args.task c.args.first c.args.count c.args.self.now,
)
