use Rattle.std.proofs.Common.{ap, ◌∙◌}
use Rattle.fb_geometry.specs.Shape.{cylinders_of}
use Rattle.test_queues.proofs.gaps.disk_of.Goals as goal

pub new-disk-requires-clause-same_cylinders : goal.new-disk-requires-clause-same_cylinders
new-disk-requires-clause-same_cylinders c = ap (λ arm. arm.cylinders) c.in-Ok-new.ensures.0 ∙ c.cylinders.ensures.value
    ∙ ap (λ map. cylinders_of map.zones) c.geometry.ensures
