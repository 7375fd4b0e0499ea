use Rattle.std.proofs.Common.{ap, ◌∙◌, set, get_or, arith}
use Rattle.std.proofs.lemmas.List.{get_or_default}
use Rattle.std.proofs.lemmas.List.Edits.{map_over_more}
use Rattle.fb_clean.specs.Segments.{no_longer_waiting}
use Rattle.fb_clean.proofs.segments.stop_all_waiting.Goals as goal

pub loop-i-preserved : goal.loop-i-preserved
loop-i-preserved c =
    let here = get_or c.loop-i.segments c.loop-i.i c.index-segments-i.result in
    ap (set c.loop-i.segments c.loop-i.i) c.stop_waiting.ensures
    ∙ map_over_more no_longer_waiting c.args.segments.now c.loop-i.segments c.loop-i.i here c.loop-i-test.true c.loop-i.invariant
    (get_or_default c.loop-i.segments c.loop-i.i c.index-segments-i.result here (omega (arith, c.loop-i-test.true, c.loop-i.auto.segments)))
