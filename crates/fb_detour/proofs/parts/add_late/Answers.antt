use Rattle.fb_detour.proofs.Words.{arith, get_or, nat_le, subst, sym, ℕ, ◌*◌, ◌+◌, ◌-◌, ◌<◌, ◌≤◌, late_gain, late_step}
use Rattle.fb_detour.proofs.Ceilings.{if-le-n}
use Rattle.fb_detour.proofs.Limits.{behind_last, none-late, part_grown}
use Rattle.fb_detour.proofs.parts.add_late.Goals as goal

pub add_last-requires-clause-step : goal.add_last-requires-clause-step
add_last-requires-clause-step c = omega (arith, c.requires.gap.early_enough, c.late_step-step.ensures)

pub add_limit-requires-clause-inside : goal.add_limit-requires-clause-inside
add_limit-requires-clause-inside c = omega (arith, c.in-Some.ensures.within.1, c.late_step-step.ensures)

pub add_limit-requires-clause-spread : goal.add_limit-requires-clause-spread
add_limit-requires-clause-spread c =
    subst (λ step. (k : ℕ) → k < 33 → c.args.gap.now.now + (k - 1) * step ≤ get_or c.args.limits.now k 0) (sym c.late_step-step.ensures)
    c.requires.spread

pub returns-in-Some-clause-most : goal.returns-in-Some-clause-most
returns-in-Some-clause-most c = λ k less.
    let gap = c.args.gap.now in
    let begin = gap.now + k * c.late_step-step.result in
    let old = get_or c.args.parts.now k 0 in
    subst (λ step. old + late_gain c.args.turning.now gap (gap.now + k * step) c.args.offer ≤ get_or c.add_last.new.parts k 0)
    c.late_step-step.ensures (part_grown c.args.turning.now gap c.args.offer c.in-Some.last begin c.in-Some.ensures.some
    (omega arith) begin old _ (λ behind. behind) (c.add_last.ensures k less))

pub returns-in-Some-clause-small : goal.returns-in-Some-clause-small
returns-in-Some-clause-small c = λ k less.
    let gap = c.args.gap.now in
    omega (arith, c.add_last.ensures k less, if-le-n (nat_le (gap.now + k * c.late_step-step.result) c.in-Some.last) c.args.offer.worth)

pub returns-in-Some-clause-limits : goal.returns-in-Some-clause-limits
returns-in-Some-clause-limits c = λ k less.
    let gap = c.args.gap.now in
    let limit = get_or c.add_limit.new.limits k 0 in
    part_grown c.args.turning.now gap c.args.offer c.in-Some.last limit c.in-Some.ensures.some
    (omega (arith, c.add_limit.ensures.grow k, c.requires.spread k (omega (arith, less)))) (gap.now + k * c.late_step-step.result)
    (get_or c.args.parts.now k 0) _ (c.add_limit.ensures.behind k (omega (arith, less))) (c.add_last.ensures k less)

pub returns-in-Some-clause-end : goal.returns-in-Some-clause-end
returns-in-Some-clause-end c =
    let limit = get_or c.add_limit.new.limits 32 0 in
    behind_last c.args.turning.now c.args.gap.now c.args.offer c.in-Some.last limit c.in-Some.ensures.some
    (omega (arith, c.add_limit.ensures.grow 32, c.requires.spread 32 (omega arith)))
    (c.add_limit.ensures.behind 32 (omega arith) (omega (arith, c.in-Some.ensures.within.1, c.late_step-step.ensures)))

pub returns-in_default-clause-most : goal.returns-in_default-clause-most
returns-in_default-clause-most c = λ k less.
    let begin = c.args.gap.now.now + k * late_step c.args.gap.now in
    omega (arith, none-late c.args.turning.now c.args.gap.now c.args.offer begin (c.in_default.ensures.none begin (omega arith)))

pub returns-in_default-clause-limits : goal.returns-in_default-clause-limits
returns-in_default-clause-limits c = λ k less.
    let limit = get_or c.args.limits.now k 0 in
    omega (
      arith,
      none-late c.args.turning.now c.args.gap.now c.args.offer limit
          (c.in_default.ensures.none limit (omega (arith, c.requires.spread k (omega (arith, less))))),
    )

pub returns-in_default-clause-end : goal.returns-in_default-clause-end
returns-in_default-clause-end c =
    let limit = get_or c.args.limits.now 32 0 in
    none-late c.args.turning.now c.args.gap.now c.args.offer limit
    (c.in_default.ensures.none limit (omega (arith, c.requires.spread 32 (omega arith))))
