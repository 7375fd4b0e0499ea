use Rattle.fb_maker.proofs.Words.{◌∙◌, sym, ap, list_all_at, list_all_more, slice_get_within, get_or_from_slice_get, is_long}
use Rattle.fb_maker.proofs.Zones.{both_true}
use Rattle.fb_maker.proofs.script.are_long.Goals as goal

pub returns-then-not-is_long : goal.returns-then-not-is_long
returns-then-not-is_long c =
    let zones = c.args.geometry.now.zones in
    let zone = c.zone.result in
    let is = get_or_from_slice_get zones c.loop-i.i zone zone c.zone.ensures in
    sym (list_all_at is_long zones c.loop-i.i zone (slice_get_within zones c.loop-i.i zone c.zone.ensures)
    (ap is_long is ∙ sym c.is_long.ensures ∙ c.if-not-is_long.true))

pub loop-i-preserved : goal.loop-i-preserved
loop-i-preserved c =
    let zones = c.args.geometry.now.zones in
    let zone = c.zone.result in
    let is = get_or_from_slice_get zones c.loop-i.i zone zone c.zone.ensures in
    list_all_more is_long zones c.loop-i.i zone (slice_get_within zones c.loop-i.i zone c.zone.ensures)
    ∙ both_true _ _ c.loop-i.invariant (ap is_long is ∙ sym c.is_long.ensures ∙ c.if-not-is_long.false)
