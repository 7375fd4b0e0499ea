use Rattle.fb_detour.proofs.Words.{arith, subst, sym, ◌∙◌, IsStop}
use Rattle.fb_detour.proofs.Ways.{are_bins, from_now}
use Rattle.fb_detour.proofs.candidates.try_many.Goals as goal

pub late_bins-requires : goal.late_bins-requires
late_bins-requires c =
    let trial = c.args.trial.now in
    let search = trial.search.now in
    let ceilings = c.requires.trial.ceilings in record {
      search = c.requires.trial.search;
      target = subst (λ xs. IsStop search.disk.now xs c.stop_at-target.result) c.requires.trial.sides.its.late
          c.stop_at-target.ensures.stop;
      from = c.stop_at-target.ensures.arrive;
      leaves = record {
        grid = c.requires.grid;
        whole = rw (sym c.as_slice.ensures.value) at c.in_ok-firsts.ensures;
        after = omega (arith, from_now search trial.way, c.requires.begin, c.requires.from, ceilings.begin);
        in_time = omega (arith, c.requires.begin, c.requires.from, ceilings.close, ceilings.some);
      };
    }

pub try_binned-requires-clause-bins : goal.try_binned-requires-clause-bins
try_binned-requires-clause-bins c =
    let trial = c.args.trial.now in
    let search = trial.search.now in
    let is = c.requires.trial in
    let target = subst (λ xs. IsStop search.disk.now xs c.stop_at-target.result) is.sides.its.late c.stop_at-target.ensures.stop in
    let firsts = sym c.as_slice.ensures.value in
    let early = sym c.as_slice-2.ensures.value in
    let late = sym c.as_slice-3.ensures.value in
    are_bins search trial.way _ c.args.stop.now c.stop_at-target.result c.requires.stop target c.requires.grid
    (rw firsts at c.in_ok-firsts.ensures) (rw early at c.in_ok-early.ensures.table) (rw late at c.in_ok-late.ensures.table)
    c.requires.begin (c.requires.from ∙ is.ceilings.begin) is.ceilings.on (rw early at c.in_ok-early.ensures.most)
    (rw late at c.in_ok-late.ensures.most)
