use Rattle.fb_detour.proofs.Words.{ap, arith, get_or, inl, inr, ◌+◌, ◌-◌, ◌≡◌, cases_lt, arrival, move_on, Over}
use Rattle.fb_detour.proofs.Ways.{by_time}
use Rattle.fb_detour.proofs.steps.most_by_steps.Goals as goal

pub loop-k-init : goal.loop-k-init
loop-k-init c = record {
  grows = omega arith;
  small = omega (arith, c.caught_in-whole.ensures.small, c.requires.light);
  sooner = λ track leave reach light is before. elim c.part_from-k.ensures.before [
    | inl none ↦
        let first = ap (λ n. get_or c.args.search.now.late.now.limits n 0) none in
        absurd (omega (arith, before, first, c.requires.search.late.start, is.after_arrival))
    | inr back ↦ absurd (omega (arith, before, back, reach.0, is.after_arrival))
  ];
}

pub returns-then-rest-enough-clause-most : goal.returns-then-rest-enough-clause-most
returns-then-rest-enough-clause-most c = λ track leave reach light is.
    let search = c.args.search.now in
    let whole = c.caught_in-whole in
    let time = search.gap.now.deadline - c.args.reach.at_target in
    let limit = get_or search.late.now.limits c.loop-k.k 0 in
    let part = get_or search.late.now.parts c.loop-k.k 0 in
    elim (cases_lt (leave + move_on search.disk.now search.gap.now (Over track)) limit) [
      | inl before ↦ omega (arith, c.loop-k.invariant.sooner track leave reach light is before, c.max.ensures)
      | inr behind ↦
          let worth = by_time search track leave is c.args.reach c.args.weight time limit part (part + whole.result) reach light
          (omega (arith, reach.0, is.after_arrival, is.in_time)) behind
          (c.requires.search.late.limits c.loop-k.k (omega (arith, c.loop-k-test.true)))
          (λ caught few passes. omega (arith, whole.ensures.most caught few passes)) in
          omega (arith, worth, c.max.ensures)
    ]

pub loop-k-preserved : goal.loop-k-preserved
loop-k-preserved c =
    let search = c.args.search.now in
    let old = c.loop-k.invariant in
    let step = c.worth_by_step in
    let limit = get_or search.late.now.limits c.loop-k.k 0 in
    let part = get_or search.late.now.parts c.loop-k.k 0 in record {
      grows = omega (arith, old.grows, c.max-most.ensures);
      small = omega (arith, old.small, step.ensures.small, c.max-most.ensures);
      sooner = λ track leave reach light is before.
          let arrive = arrival search.disk.now search.gap.now (Over track) in
          elim (cases_lt (leave + move_on search.disk.now search.gap.now (Over track)) limit) [
            | inl sooner ↦ omega (arith, old.sooner track leave reach light is sooner, c.max-most.ensures)
            | inr behind ↦
                let worth = by_time search track leave is c.args.reach c.args.weight (leave - arrive) limit part step.result reach light
                (omega arith) behind (c.requires.search.late.limits c.loop-k.k (omega (arith, c.loop-k-test.true)))
                (λ caught few passes.
                step.ensures.most caught (leave - arrive) few passes (omega (arith, before, reach.0, is.after_arrival))) in
                omega (arith, worth, c.max-most.ensures)
          ];
    }

pub returns-clause-most : goal.returns-clause-most
returns-clause-most c = λ track leave reach light is.
    let search = c.args.search.now in
    let whole = c.caught_in-whole in
    let time = search.gap.now.deadline - c.args.reach.at_target in
    let all : c.loop-k.k ≡ 32 = omega (arith, c.loop-k-test.false, c.loop-k.auto.k-end) in
    let last = ap (λ n. get_or search.late.now.limits n 0) all in
    let limit = get_or search.late.now.limits 32 0 in
    elim (cases_lt (leave + move_on search.disk.now search.gap.now (Over track)) limit) [
      | inl before ↦ c.loop-k.invariant.sooner track leave reach light is (omega (arith, before, last))
      | inr behind ↦
          let worth = by_time search track leave is c.args.reach c.args.weight time limit 0 whole.result reach light
          (omega (arith, reach.0, is.after_arrival, is.in_time)) behind (omega (arith, c.requires.search.late.end))
          (λ caught few passes. omega (arith, whole.ensures.most caught few passes)) in
          omega (arith, worth, c.loop-k.invariant.grows)
    ]
