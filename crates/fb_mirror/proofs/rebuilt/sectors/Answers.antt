use Rattle.fb_mirror.proofs.Words.{arith, ap, ContentRun}
use Rattle.std.proofs.lemmas.List.Sums.{sum_by_more, sum_by_more_le}
use Rattle.std.proofs.lemmas.Option.{slice_get_within, get_or_from_slice_get}
use Rattle.fb_mirror.proofs.rebuilt.sectors.Goals as goal

pub overflow_add-sectors : goal.overflow_add-sectors
overflow_add-sectors c =
    let runs = c.args.runs.now in
    let run = c.get-sectors.result in
    let is = ap (λ (r : ContentRun). r.count) (get_or_from_slice_get runs c.loop-i.i run run c.get-sectors.ensures.value) in
    omega (
      arith,
      c.requires,
      c.loop-i.invariant,
      is,
      sum_by_more_le (λ (r : ContentRun). r.count) runs c.loop-i.i run (slice_get_within runs c.loop-i.i run c.get-sectors.ensures.value),
    )

pub loop-i-preserved : goal.loop-i-preserved
loop-i-preserved c =
    let runs = c.args.runs.now in
    let run = c.get-sectors.result in
    let is = ap (λ (r : ContentRun). r.count) (get_or_from_slice_get runs c.loop-i.i run run c.get-sectors.ensures.value) in
    omega (
      arith,
      c.loop-i.invariant,
      is,
      sum_by_more (λ (r : ContentRun). r.count) runs c.loop-i.i run (slice_get_within runs c.loop-i.i run c.get-sectors.ensures.value),
    )
