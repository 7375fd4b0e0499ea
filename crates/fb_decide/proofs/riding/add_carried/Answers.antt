use Rattle.fb_decide.proofs.Words.{◌≡◌, ◌∙◌, ◌&&◌, ap, arith, length, refl, take, all_passages_of, IsBlockOn, in_order, lies_in, ride_of}
use Rattle.fb_decide.proofs.Words.{added, begins_in}
use Rattle.std.proofs.Math.Seq.{take-length}
use Rattle.fb_plan.proofs.AnyOrder.{any-order, on-its-track}
use Rattle.fb_decide.proofs.Carrying.{added_more}
use Rattle.fb_decide.proofs.riding.add_carried.Goals as goal

pub loop-i-preserved : goal.loop-i-preserved
loop-i-preserved c = added_more (all_passages_of c.args.disk.now.map c.args.extents.now) c.args.extent.now c.args.request
    c.args.found.now.items c.loop-i.found.items c.add_ride.new.found.items
    c.wanted-candidates.result c.loop-i.i c.get.result c.get.ensures c.loop-i.invariant c.in_ok-add_ride.ensures

pub returns : goal.returns
returns c =
    let extent = c.args.extent.now in
    let request = c.args.request in
    let candidates = c.wanted-candidates.result in
    let passages = all_passages_of c.args.disk.now.map c.args.extents.now in
    let end : c.loop-i.i ≡ length candidates = omega (arith, c.loop-i-test.false, c.loop-i.auto.i-end, c.len-i-end.ensures.count) in
    let whole = ap (added passages extent request c.args.found.now.items) (ap (λ n. take n candidates) end ∙ take-length candidates) in
    ap in_order (c.loop-i.invariant ∙ whole)
    ∙ any-order extent.track c.args.wanted.now c.on.result candidates c.numbered_in_order.ensures c.on.ensures c.wanted-candidates.ensures
    c.args.found.now.items (ride_of passages) (λ b. refl) (λ b. begins_in extent b && lies_in request b)

pub add_ride-requires-clause-block : goal.add_ride-requires-clause-block
add_ride-requires-clause-block c =
    (on-its-track c.args.extent.now.track c.args.wanted.now c.on.result c.wanted-candidates.result c.numbered_in_order.ensures c.on.ensures
    c.wanted-candidates.ensures (IsBlockOn c.args.disk.now.map) c.requires.registered c.loop-i.i c.get.result c.get.ensures).0
