use Rattle.fb_bgwrite.proofs.Words.{◌≡◌, true, false, arith, ap, rules, slice_get_within, get_or_from_slice_get, nat_lt, nat_tests}
use Rattle.std.specs.List.Sorted.{IsPartitionPoint}
use Rattle.std.proofs.lemmas.List.Sorted.{IsPartitionPoint-from_clause, IsPartitionedBy-ltb}
use Rattle.fb_bgwrite.specs.declared.spots.Spot.{Spot}
use Rattle.fb_bgwrite.proofs.spots.count_before.Goals as goal

parted : (c : goal.After-partition_point) → IsPartitionPoint (λ (s : Spot). nat_lt s.sweep.begin c.args.angle ≡ true)
    (λ (s : Spot). nat_lt s.sweep.begin c.args.angle ≡ false) c.args.spots.now c.partition_point.result
parted c = IsPartitionPoint-from_clause (λ (s : Spot). nat_lt s.sweep.begin c.args.angle) c.args.spots.now c.partition_point.result
    c.partition_point.ensures.partitioned
    (IsPartitionedBy-ltb (λ (s : Spot). s.sweep.begin) c.args.spots.now c.args.angle c.requires) (λ a r f called. search rules)

pub returns-clause-before : goal.returns-clause-before
returns-clause-before c = λ i spot at less.
    let here = (parted c).0 i spot (omega arith) less in
    let same = ap (λ (s : Spot). nat_lt s.sweep.begin c.args.angle) (get_or_from_slice_get c.args.spots.now i spot spot at) in
    grind (arith, nat_tests, here, same)

pub returns-clause-behind : goal.returns-clause-behind
returns-clause-behind c = λ i spot at more.
    let here = (parted c).1 i spot more (slice_get_within c.args.spots.now i spot at) in
    let same = ap (λ (s : Spot). nat_lt s.sweep.begin c.args.angle) (get_or_from_slice_get c.args.spots.now i spot spot at) in
    grind (arith, nat_tests, here, same)
