use Rattle.fb_units.proofs.Counts.{sum_of}
use Rattle.fb_geometry.proofs.Words.{Place, arith, filter, is_track_before, length, nat_tests, not, refl}
use Rattle.fb_geometry.proofs.Words.{rules, same_track, ◌+◌, ◌-◌, ◌≡◌}
use Rattle.fb_geometry.proofs.{Faultless.spares_at-zone, Clashes.passing}
use Rattle.fb_geometry.proofs.outline.Outline.is_full_track.Goals as goal

counted : (c : goal.After-partition_point-behind) → c.partition_point-behind.result
    ≡ c.partition_point-first.result + length
    (filter (λ (place : Place). same_track c.args.place.track place.track) c.args.self.now.defects)
counted c =
    let track = c.args.place.track in
    let under = λ (place : Place). is_track_before place.track track in
    let upto = λ (place : Place). not (is_track_before track place.track) in
    let before = passing under (λ a b h k. grind (arith, nat_tests)) _ _ c.requires.sorted _ c.partition_point-first.ensures.bound
    c.partition_point-first.ensures.partitioned (λ a r f called. search rules) in
    let through = passing upto (λ a b h k. grind (arith, nat_tests)) _ _ c.requires.sorted _ c.partition_point-behind.ensures.bound
    c.partition_point-behind.ensures.partitioned (λ a r f called. search rules) in
    let on = sum_of upto under (λ place. same_track track place.track) c.args.self.now.defects
    (λ place. grind (arith, nat_tests)) in
    omega (arith, before, through, on)

pub overflow_sub-result : goal.overflow_sub-result
overflow_sub-result c = omega (arith, counted c)

pub returns : goal.returns
returns c =
    let track = c.args.place.track in
    let between : c.partition_point-behind.result - c.partition_point-first.result
    ≡ length (filter (λ (place : Place). same_track track place.track) c.args.self.now.defects) = omega (arith, counted c) in
    rw (between, spares_at-zone c.args.self.now.zones track.cylinder c.zone_of-spares.result c.zone_of-spares.ensures.zone.found) refl
