use Rattle.std.proofs.Common.{rules, of_calls, arith}
use Rattle.std.specs.Prelude.{nat_lt}
use Rattle.std.proofs.lemmas.Fn.{always_returns_same}
use Rattle.std.proofs.lemmas.Bool.Decides.{nat_tests}
use Rattle.std.proofs.lemmas.List.Sorted.{IsPartitionedBy-ltb, IsNonDecreasingBy-from_all_adjacent}
use Rattle.fb_seek.specs.declared.point.SeekPoint.{SeekPoint}
use Rattle.fb_seek.proofs.table.next_point.Goals as goal

pub returns : goal.returns
returns c =
    let points = c.args.points.now in
    let rising = IsNonDecreasingBy-from_all_adjacent (λ (y : SeekPoint). y.distance) points (λ k d l. omega (arith, c.requires k d l)) in
    let point = c.partition_point.ensures.partitioned (λ y. nat_lt y.distance c.args.distance) (always_returns_same _ _ _
    (λ a r f k. search (rules, of_calls)))
    (IsPartitionedBy-ltb (λ (y : SeekPoint). y.distance) points c.args.distance rising) in
    record {
      bound = c.partition_point.ensures.bound;
      passed = λ k d l. let test = point.0 k d (omega arith) l in grind (arith, nat_tests);
      reached = λ d l. let test = point.1 c.partition_point.result d (omega arith) l in grind (arith, nat_tests);
    }
