use Rattle.fb_plan.proofs.Words.{◌≤◌, arith, ap, Shape, cylinders_of, wanted_of, Direct, no_worse-trans}
use Rattle.fb_model.proofs.Ties.{best-of}
use Rattle.fb_plan.proofs.Passed.{tracks-more, all_plans}
use Rattle.fb_plan.proofs.slow.SlowPlannerPlanner.best.Goals as goal

pub loop-cylinder-preserved : goal.loop-cylinder-preserved
loop-cylinder-preserved c =
    let disk = c.args.disk.now in
    let gap = c.args.gap.now in
    let blocks = wanted_of c.args.wanted.now in
    let new = c.try_cylinder-best in
    let old = c.loop-cylinder.best.plan in
    let before = c.loop-cylinder.invariant in (
      new.ensures.scored,
      λ leave is. no_worse-trans disk gap blocks new.result.plan old (Direct leave) new.ensures.keeps (before.1 leave is),
      λ cylinder head. tracks-more disk gap blocks new.result.plan old (λ x. record { cylinder = x; head = head })
          c.loop-cylinder.cylinder new.ensures.keeps (new.ensures.tried head) (λ x leave. before.2 x head leave) cylinder,
    )

pub returns : goal.returns
returns c =
    let disk = c.args.disk.now in
    let gap = c.args.gap.now in
    let blocks = wanted_of c.args.wanted.now in
    let best = c.loop-cylinder.best.plan in
    let all = c.loop-cylinder.invariant in
    let end : cylinders_of disk.map.zones ≤ c.loop-cylinder.cylinder = omega (
      arith,
      c.loop-cylinder-test.false,
      c.cylinders-cylinder-end.ensures.value,
      ap (λ (d : Shape). cylinders_of d.zones) c.geometry.ensures,
    ) in
    best-of disk gap blocks best all.0.plan (all_plans disk gap blocks best c.loop-cylinder.cylinder end all.1 all.2)
