use Rattle.fb_geometry.proofs.Words.{IsAscending, IsPartitionPoint-from_clause, IsPartitionedBy-leb, IsPartitionedBy-ltb, drop, marks_on}
use Rattle.fb_geometry.proofs.Words.{nat_le, nat_lt, positions, rules, subst, sym, ◌∙◌, ◌≡◌}
use Rattle.fb_geometry.proofs.{Marking.part-of, Marking.rest-rises, Marking.cylinders-rise, Marking.marks_on-ascend}
use Rattle.fb_geometry.proofs.marks.part.Goals as goal

found : (c : goal.After-on-1) → c.split_at-2.result.0.now ≡ marks_on c.args.cylinder c.args.marks.now
found c =
    let marks = c.args.marks.now in
    let cylinder = c.args.cylinder in
    let from = c.partition_point.result in
    let n = c.partition_point-2.result in
    let rest = c.split_at.result.1.now in
    let cut : rest ≡ drop from marks = c.split_at.ensures.back in
    c.split_at-2.ensures.front ∙ part-of cylinder marks rest from n cut
    (IsPartitionPoint-from_clause (λ mark. nat_lt mark.cylinder cylinder) marks from c.partition_point.ensures.partitioned
    (IsPartitionedBy-ltb (λ mark. mark.cylinder) marks cylinder (cylinders-rise marks c.requires)) (λ a r f called. search rules))
    (IsPartitionPoint-from_clause (λ mark. nat_le mark.cylinder cylinder) rest n c.partition_point-2.ensures.partitioned
    (IsPartitionedBy-leb (λ mark. mark.cylinder) rest cylinder (rest-rises marks rest from c.requires cut)) (λ a r f called. search rules))

pub returns-clause-value : goal.returns-clause-value
returns-clause-value c = found c

pub returns-clause-ascending : goal.returns-clause-ascending
returns-clause-ascending c = subst (λ part. IsAscending (positions part)) (sym (found c)) (marks_on-ascend c.args.cylinder
    c.args.marks.now c.requires)
