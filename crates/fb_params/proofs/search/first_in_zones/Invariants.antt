use Rattle.fb_params.proofs.Words.{◌≡◌, map, drop, filter_map, as_table, view, zone_keys, first_in, first_some}
use Rattle.fb_params.proofs.search.first_in_zones.Given as goal

-- the zones read as those that are left
abbrev pub invariant-loop-value : goal.invariant-loop-value
invariant-loop-value l =
    first_some (first_in l.rule (zone_keys l.layout)) (filter_map as_table (map view l.value-items))
    ≡ first_some (first_in l.rule (zone_keys l.layout)) (filter_map as_table (map view (drop l.value-index l.value-items)))
