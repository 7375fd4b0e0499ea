use Rattle.fb_bgwrite.proofs.Words.{◌/◌, arith}
use Rattle.fb_bgwrite.proofs.Bounds.{both_lowered, either_lowered, under_lowered}
use Rattle.fb_bgwrite.proofs.shortest.Shortest.lower.Goals as goal

pub invariant_of-self : goal.invariant_of-self
invariant_of-self c =
    (c.self.invariant.0, λ k. omega (arith, c.self.invariant.1 k, c.in_err-lower.ensures.err (k / 32)))

pub invariant_of-self-in_err-lower-2 : goal.invariant_of-self-in_err-lower-2
invariant_of-self-in_err-lower-2 c =
    let old = c.self.inside in
    let under = under_lowered old.regions.items c.lower.new.bounds.items old.bands.items (c.args.cylinder / 32 / 32) c.args.sectors
    c.self.invariant.1 c.in_ok-lower.ensures.ok in (
      λ k. omega (arith, c.self.invariant.0 k, c.in_err-lower-2.ensures.err (k / 32)),
      λ k. omega (arith, under k, c.in_err-lower-2.ensures.err k),
    )

pub invariant_of-self-in_err-lower-3 : goal.invariant_of-self-in_err-lower-3
invariant_of-self-in_err-lower-3 c =
    let old = c.self.inside in
    let band = c.args.cylinder / 32 in
    let regions = c.lower.new.bounds.items in
    let bands = c.lower-2.new.bounds.items in
    let under = under_lowered old.bands.items bands old.cylinders.items band c.args.sectors c.self.invariant.0
    c.in_ok-lower-2.ensures.ok in (
      λ k. omega (arith, under k, c.in_err-lower-3.ensures.err k),
      both_lowered old.regions.items regions old.bands.items bands band c.args.sectors c.self.invariant.1 c.in_ok-lower.ensures.ok
          c.in_ok-lower-2.ensures.ok,
    )

pub invariant_of-self-2 : goal.invariant_of-self-2
invariant_of-self-2 c =
    let old = c.self.inside in
    let band = c.args.cylinder / 32 in
    let regions = c.lower.new.bounds.items in
    let bands = c.lower-2.new.bounds.items in
    let sectors = c.args.sectors in (
      either_lowered c.lower-3.result old.bands.items bands old.cylinders.items c.lower-3.new.bounds.items c.args.cylinder sectors
          c.self.invariant.0 c.in_ok-lower-2.ensures.ok c.lower-3.ensures.ok c.lower-3.ensures.err,
      both_lowered old.regions.items regions old.bands.items bands band sectors c.self.invariant.1 c.in_ok-lower.ensures.ok
          c.in_ok-lower-2.ensures.ok,
    )
