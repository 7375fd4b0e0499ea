use Rattle.fb_fastq.proofs.Words.{◌≡◌, ◌∙◌, ap, arith, cylinders_of}
use Rattle.fb_fastq.proofs.Keys.{is_within, within_is, is_under, under_is}
use Rattle.fb_fastq.proofs.rows.occupied_on.Goals as goal

pub returns-in-Above-clause-those : goal.returns-in-Above-clause-those
returns-in-Above-clause-those c =
    let head = c.args.from.now.track.cylinder in
    let end = c.cylinders.result in
    let all : end ≡ cylinders_of c.args.disk.now.map.zones =
    c.cylinders.ensures.value ∙ ap (λ map. cylinders_of map.zones) c.geometry.ensures in
    rw c.in-Above.is (record {
      test = _;
      is = c.range.ensures.between tt;
      sound = λ k t. let within = is_within head end k t in let below = within.1 in (within.0, omega (arith, below, all));
      whole = λ k on. within_is head end k on.0 (let below = on.1 in omega (arith, below, all));
    })

pub returns-in-Below-clause-those : goal.returns-in-Below-clause-those
returns-in-Below-clause-those c =
    let head = c.args.from.now.track.cylinder in
    let inside = c.requires.from.track.cylinder in
    rw c.in-Below.is (record {
      test = _;
      is = c.range-in-Below.ensures.between tt;
      sound = λ k t. let under = is_under head k t in (under, omega (arith, under, inside));
      whole = λ k on. under_is head k on.0;
    })
