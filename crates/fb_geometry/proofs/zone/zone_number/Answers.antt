use Rattle.fb_geometry.proofs.Words.{IsPartitionPoint-from_clause, IsPartitionedBy-ltb, Some, Zone, get_or, length, nat_lt, rules}
use Rattle.fb_geometry.proofs.Words.{slice_get-get_or, sym, zone_at, ◌<◌, ◌∙◌, ◌≡◌}
use Rattle.fb_geometry.proofs.{Faultless.point_zone}
use Rattle.fb_geometry.proofs.zone.zone_number.Goals as goal

blank : Zone
blank = record { first = 0; last = 0; sectors = 0; track_skew = 0; cylinder_skew = 0; spares = 0; cylinder_spares = 0 }

found : (c : goal.After-partition_point)
    → (c.partition_point.result < length c.args.zones.now)
    × (zone_at c.args.zones.now c.args.cylinder ≡ Some (get_or c.args.zones.now c.partition_point.result blank))
found c =
    let point = IsPartitionPoint-from_clause (λ zone. nat_lt zone.last c.args.cylinder) c.args.zones.now c.partition_point.result
    c.partition_point.ensures.partitioned
    (IsPartitionedBy-ltb (λ zone. zone.last) c.args.zones.now c.args.cylinder c.requires.rise) (λ a r f called. search rules) in
    point_zone c.args.cylinder c.args.zones.now c.partition_point.result blank point c.partition_point.ensures.bound c.requires.on_disk

pub returns-clause-inside : goal.returns-clause-inside
returns-clause-inside c = (found c).0

pub returns-clause-zone : goal.returns-clause-zone
returns-clause-zone c = (found c).1 ∙ sym (slice_get-get_or c.args.zones.now c.partition_point.result blank (found c).0)
