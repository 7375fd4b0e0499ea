use Rattle.fb_wanted.proofs.Words.{◌≡◌, ◌-◌, ◌∙◌, ap, sym, arith, slice_get, nat_tests, same_Some, lbns, region_of}
use Rattle.fb_wanted.proofs.Regions.{lbn_at}
use Rattle.fb_wanted.proofs.wanted.Wanted.begins_streak.Goals as goal

pub returns-clause-new : goal.returns-clause-new
returns-clause-new c = λ new i last next at same.
    let entry = c.entry_of.result in
    let before : i ≡ c.args.block.index - 1 = omega (arith, next) in
    let one = same_Some last entry.block.lbn (sym at
    ∙ (ap (slice_get (lbns c.args.block.task c.args.self.now)) before
    ∙ lbn_at c.args.block.task c.args.self.now (c.args.block.index - 1) entry c.entry_of.ensures)) in
    let regions : c.region_of.result ≡ c.region_of-2.result = c.region_of.ensures
    ∙ (ap region_of (sym one) ∙ (same ∙ sym c.region_of-2.ensures)) in
    grind (arith, nat_tests)

pub returns-clause-same : goal.returns-clause-same
returns-clause-same c = λ old.
    let entry = c.entry_of.result in
    let regions : c.region_of.result ≡ c.region_of-2.result = grind (arith, nat_tests) in (
      entry.block.lbn,
      grind (arith, nat_tests),
      lbn_at c.args.block.task c.args.self.now (c.args.block.index - 1) entry c.entry_of.ensures,
      sym c.region_of.ensures ∙ (regions ∙ c.region_of-2.ensures),
    )
