use Rattle.fb_geometry.proofs.Words.{IsPartitionPoint-from_clause, IsPartitionedBy-ltb, arith, nat_lt, positions, rank, rules, ◌≡◌}
use Rattle.fb_geometry.proofs.{Slips.rank-below, Marking.rank-is, Marking.positions-rise}
use Rattle.fb_geometry.proofs.marks.rank.Goals as goal

found : (c : goal.After-partition_point) → c.partition_point.result ≡ rank c.args.position (positions c.args.marks.now)
found c =
    let marks = c.args.marks.now in
    rank-is c.args.position marks c.partition_point.result c.partition_point.ensures.bound
    (IsPartitionPoint-from_clause (λ mark. nat_lt mark.position c.args.position) marks c.partition_point.result
    c.partition_point.ensures.partitioned
    (IsPartitionedBy-ltb (λ mark. mark.position) marks c.args.position (positions-rise marks c.requires.ascending))
    (λ a r f called. search rules))

pub overflow_cast-result : goal.overflow_cast-result
overflow_cast-result c = omega (arith, found c, rank-below c.args.position (positions c.args.marks.now) c.requires.ascending)

pub returns-clause-value : goal.returns-clause-value
returns-clause-value c = found c

pub returns-clause-bound : goal.returns-clause-bound
returns-clause-bound c = omega (arith, found c, rank-below c.args.position (positions c.args.marks.now) c.requires.ascending)
