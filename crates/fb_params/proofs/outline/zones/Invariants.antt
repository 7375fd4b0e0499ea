use Rattle.fb_params.proofs.Words.{◌≡◌, ◌++◌, None, map, drop, filter_map, as_table, view, InRange, zone_keys, first_in, first_some}
use Rattle.fb_params.proofs.Words.{zone_of}
use Rattle.fb_params.proofs.outline.zones.Given as goal

abbrev pub invariant-loop-value : goal.invariant-loop-value
invariant-loop-value l = record {
  found : map (zone_of l.layout) (filter_map as_table (map view l.values)) ≡ l.zones.items
      ++ map (zone_of l.layout) (filter_map as_table (map view (drop l.value-index l.values)));
  in_range : first_some (first_in InRange (zone_keys l.layout)) (filter_map as_table (map view (drop l.value-index l.values))) ≡ None;
}
