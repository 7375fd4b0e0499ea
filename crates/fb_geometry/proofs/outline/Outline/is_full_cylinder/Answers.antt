use Rattle.fb_units.proofs.Counts.{sum_of}
use Rattle.fb_geometry.proofs.Words.{Place, arith, filter, length, nat_le, nat_lt, nat_tests, refl, rules}
use Rattle.fb_geometry.proofs.Words.{◌++◌, ◌+◌, ◌-◌, ◌==◌, ◌≡◌}
use Rattle.fb_geometry.proofs.{Faultless.cylinder_spares_at-zone, Clashes.passing}
use Rattle.fb_geometry.proofs.outline.Outline.is_full_cylinder.Goals as goal

counted : (c : goal.After-partition_point-behind)
    → c.partition_point-behind.result
    ≡ c.partition_point-first.result + length (filter (λ (place : Place). place.track.cylinder == c.args.place.track.cylinder)
    (c.args.self.now.defects ++ c.args.self.now.grown))
counted c =
    let cylinder = c.args.place.track.cylinder in
    let under = λ (place : Place). nat_lt place.track.cylinder cylinder in
    let upto = λ (place : Place). nat_le place.track.cylinder cylinder in
    let before = passing under (λ a b h k. grind (arith, nat_tests)) _ _ c.requires.sorted _ c.partition_point-first.ensures.bound
    c.partition_point-first.ensures.partitioned (λ a r f called. search rules) in
    let through = passing upto (λ a b h k. grind (arith, nat_tests)) _ _ c.requires.sorted _ c.partition_point-behind.ensures.bound
    c.partition_point-behind.ensures.partitioned (λ a r f called. search rules) in
    let on = sum_of upto under (λ place. place.track.cylinder == cylinder) (c.args.self.now.defects ++ c.args.self.now.grown)
    (λ place. grind (arith, nat_tests)) in
    omega (arith, before, through, on)

pub overflow_sub-result : goal.overflow_sub-result
overflow_sub-result c = omega (arith, counted c)

pub returns : goal.returns
returns c =
    let cylinder = c.args.place.track.cylinder in
    let bad = c.args.self.now.defects ++ c.args.self.now.grown in
    let between : c.partition_point-behind.result - c.partition_point-first.result
    ≡ length (filter (λ (place : Place). place.track.cylinder == cylinder) bad) = omega (arith, counted c) in
    rw (between, cylinder_spares_at-zone c.args.self.now.zones cylinder c.zone_of-spares.result c.zone_of-spares.ensures.zone.found) refl
