use Rattle.fb_bgwrite.proofs.Words.{◌+◌, arith, ap, sym, subst, AreTried, Shape, wanted_of}
use Rattle.fb_bgwrite.proofs.{Choices.cylinder_done, Choices.heads_more, Choices.kept_on, Lengths.range_beaten}
use Rattle.fb_bgwrite.proofs.search.try_cylinder.Goals as goal

pub returns-then-part-shortest_at-clause-tried : goal.returns-then-part-shortest_at-clause-tried
returns-then-part-shortest_at-clause-tried c = λ track low high.
    let from = c.args.part.from in
    range_beaten c.args.search.now c.requires.search c.args.best c.requires.best c.args.part c.requires.part c.shortest_at.result
    from (from + 1) (omega arith) (omega (arith, c.requires.one)) (omega (arith, c.if-part-shortest_at.true)) c.shortest_at.ensures
    track low (omega (arith, high, c.requires.one))

pub loop-head-preserved : goal.loop-head-preserved
loop-head-preserved c =
    let disk = c.args.search.now.disk.now in
    let gap = c.args.search.now.gap.now in
    let pending = wanted_of c.args.search.now.pending.now in
    let next = c.try_track-best in
    record {
      valued = next.ensures.valued;
      keeps = kept_on disk gap pending c.args.best c.loop-head.best next.result c.loop-head.invariant.keeps next.ensures.keeps;
      tried = heads_more disk gap pending c.loop-head.best next.result c.args.part.from c.loop-head.head next.ensures.keeps
          next.ensures.tried c.loop-head.invariant.tried;
    }

pub returns-clause-tried : goal.returns-clause-tried
returns-clause-tried c =
    let search = c.args.search.now in
    let best = c.loop-head.best in
    subst (AreTried search best c.args.part.from) (sym c.requires.one)
    (cylinder_done search.disk.now search.gap.now _ best c.args.part.from c.loop-head.head
    (omega (arith, c.loop-head-test.false, c.heads-head-end.ensures.value, ap (λ (d : Shape). d.heads) c.geometry.ensures))
    c.loop-head.invariant.tried)
