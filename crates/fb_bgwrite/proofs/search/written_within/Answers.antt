use Rattle.fb_bgwrite.proofs.Words.{arith, ap, length, sum_by, added, passes_by, length-map, take_all}
use Rattle.fb_bgwrite.specs.ByAngle.{as_offers}
use Rattle.fb_bgwrite.proofs.ByAngle.{ahead_in_turn, as_offer, over_in_turn}
use Rattle.fb_bgwrite.proofs.Written.{none_last}
use Rattle.fb_bgwrite.proofs.search.written_within.Goals as goal

pub written_from-written-requires-clause-turns : goal.written_from-written-requires-clause-turns
written_from-written-requires-clause-turns c = ahead_in_turn c.args.turning.now c.requires.stands c.args.spots.now c.requires.sweeps
    c.requires.by_angle c.count_before-next.result (length c.args.spots.now) c.count_before-next.ensures.behind

pub written_from-written-requires-clause-behind : goal.written_from-written-requires-clause-behind
written_from-written-requires-clause-behind c =
    let spots = c.args.spots.now in
    let all = take_all (length spots) (as_offers spots) (omega (arith, length-map spots as_offer)) in
    record {
      sum = omega (arith, ap (sum_by (added (passes_by c.args.turning.now c.args.latest))) all);
      is_last = none_last c.args.turning.now c.args.latest (as_offers spots) _ (λ i over. omega (arith, over, length-map spots as_offer))
          c.requires.order;
      small = omega arith;
    }

pub written_from-requires-clause-turns : goal.written_from-requires-clause-turns
written_from-requires-clause-turns c = over_in_turn c.args.turning.now c.requires.stands c.args.spots.now c.requires.sweeps
    c.requires.by_angle c.count_before-next.result c.count_before-next.ensures.before
