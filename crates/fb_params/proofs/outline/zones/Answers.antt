use Rattle.fb_params.proofs.Words.{map, filter_map, as_table, view, InRange, zone_keys, first_in, zone_of}
use Rattle.fb_params.proofs.Searches.{first_some-none, zones-more}
use Rattle.fb_params.proofs.outline.zones.Goals as goal

pub push_zone-requires : goal.push_zone-requires
push_zone-requires c =
    (first_some-none (first_in InRange (zone_keys c.args.layout)) c.args.values.now c.loop-value.value-index c.value-item.result
    c.loop-value-test.true c.value-item.is c.loop-value.invariant.in_range).0

pub loop-value-preserved : goal.loop-value-preserved
loop-value-preserved c =
    let whole = map (zone_of c.args.layout) (filter_map as_table (map view c.args.values.now)) in
    let more = zones-more (zone_of c.args.layout) whole c.loop-value.zones.items c.args.values.now c.loop-value.value-index
    c.value-item.result c.loop-value-test.true c.value-item.is c.loop-value.invariant.found in
    record {
      found = rw c.in_ok-push_zone.ensures more;
      in_range = (first_some-none (first_in InRange (zone_keys c.args.layout)) c.args.values.now c.loop-value.value-index
          c.value-item.result c.loop-value-test.true c.value-item.is c.loop-value.invariant.in_range).1;
    }
