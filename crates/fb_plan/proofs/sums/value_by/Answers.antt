use Rattle.std.proofs.Common.{◌∙◌, sym}
use Rattle.fb_plan.proofs.Both.{value-in-either, value-of-both}
use Rattle.fb_plan.proofs.Offered.{offers-in-turn}
use Rattle.fb_plan.proofs.sums.value_by.Goals as goal

pub value_in_either-requires-clause-early_sweeps : goal.value_in_either-requires-clause-early_sweeps
value_in_either-requires-clause-early_sweeps c = offers-in-turn c.offers-offers.result.now c.args.sides.now.early
    c.offers-offers.ensures.its c.args.disk.now c.args.sides.now.turning c.requires.sides.turning c.requires.early

pub value_in_either-requires-clause-late_sweeps : goal.value_in_either-requires-clause-late_sweeps
value_in_either-requires-clause-late_sweeps c = offers-in-turn c.offers-offers.result.now c.args.sides.now.early
    c.offers-offers.ensures.its c.args.disk.now c.new-late.result c.new-late.ensures.turning c.requires.early

pub value_until-sum-requires-clause-sweeps : goal.value_until-sum-requires-clause-sweeps
value_until-sum-requires-clause-sweeps c = offers-in-turn c.offers-offers.result.now c.args.sides.now.early
    c.offers-offers.ensures.its c.args.disk.now c.args.sides.now.turning c.requires.sides.turning c.requires.early

pub value_until-requires-clause-sweeps : goal.value_until-requires-clause-sweeps
value_until-requires-clause-sweeps c = offers-in-turn c.offers.result.now c.args.sides.now.late c.offers.ensures.its c.args.disk.now
    c.new-late.result c.new-late.ensures.turning c.requires.late

pub returns-then-is_same : goal.returns-then-is_same
returns-then-is_same c =
    value-in-either c.args.disk.now c.args.gap.now c.args.plan c.args.wanted.now c.dwells-pair.result c.args.sides.now c.new-late.result
    c.dwells-pair.ensures.early c.dwells-pair.ensures.late c.requires.sides c.new-late.ensures.turning c.new-late.ensures.from
    c.requires.early c.offers-offers.result.now c.offers-offers.ensures.its
    c.value_in_either.result (sym c.is_same.ensures ∙ c.if-is_same.true) c.value_in_either.ensures

pub returns : goal.returns
returns c =
    value-of-both c.args.disk.now c.args.gap.now c.args.plan c.args.wanted.now c.dwells-pair.result c.args.sides.now c.new-late.result
    c.dwells-pair.ensures.early c.dwells-pair.ensures.late c.requires.sides c.new-late.ensures.turning c.new-late.ensures.from
    c.requires.early c.offers-offers.result.now c.offers-offers.ensures.its c.requires.late c.offers.result.now c.offers.ensures.its
    c.value_until-sum.result c.value_until.result (sym c.is_same.ensures ∙ c.if-is_same.false)
    c.value_until-sum.ensures.value c.value_until.ensures.value
