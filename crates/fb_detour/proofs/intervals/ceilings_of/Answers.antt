use Rattle.fb_detour.proofs.Words.{arith, get_or, ℕ, ◌*◌, ◌+◌, ◌-◌, ◌/◌, ◌<◌, ◌∙◌, ◌≡◌, early_track, early_to, stay}
use Rattle.fb_detour.proofs.Arrays.{over_all, sixteen}
use Rattle.fb_detour.proofs.Ways.{below_ceiling}
use Rattle.fb_detour.proofs.Offers.{gives}
use Rattle.fb_detour.proofs.intervals.ceilings_of.Goals as goal

pub returns : goal.returns
returns c =
    let search = c.args.search.now in
    let disk = search.disk.now in
    let entries = search.wanted.now in
    let track = early_track search.gap.now c.args.way in
    let stop = c.args.stop.now in
    let begin = stop.turning.from in
    let n = search.gap.now.deadline - c.args.on - begin in
    let upto = λ (k : ℕ). begin + (k + 1) * (n / 16 + 1) in
    let each : (k : ℕ) → k < 16 → get_or c.early_parts.result k 0 ≡ stay disk (early_to track begin (upto k)) entries =
    λ k less. c.early_parts.ensures.each k less ∙ gives disk (early_to track begin (upto k)) entries stop c.requires.stop in record {
      some = omega arith;
      begin = c.requires.arrive;
      on = c.requires.on;
      soon = c.requires.soon;
      late = c.requires.search.late;
      each = λ k less. omega (arith, each k less);
      upto = omega (arith, over_all n, c.requires.in_time);
      close = omega (arith, sixteen n, c.requires.in_time);
      small = c.early_parts.ensures.small;
      most = λ leave is. below_ceiling search c.args.way search.late.now c.early_parts.result begin c.args.on leave
          c.requires.search.late c.requires.arrive c.requires.on each is;
    }
