use Rattle.fb_decide.proofs.Words.{◌∙◌, ◌≡◌, ◌<◌, sym, all_from_index, track_at, all_passages_of, Entry, wanted_of, in_order}
use Rattle.fb_decide.specs.Carried.{IsExtentOf}
use Rattle.fb_decide.proofs.Carrying.{next_added, none_added, carried_whole, each_wanted, extent_at}
use Rattle.fb_decide.proofs.riding.carried.Goals as goal

pub loop-extent-preserved : goal.loop-extent-preserved
loop-extent-preserved c =
    c.loop-extent.invariant ∙ next_added c.args.disk.now.map
    (all_passages_of c.args.disk.now.map c.args.extents.now) c.args.extents.now c.loop-extent.extent-index _ c.args.request
    c.loop-extent.found.items c.add_carried.new.found.items c.args.wanted.now c.loop-extent-test.true
    (extent_at (IsExtentOf c.args.disk.now.map) c.args.extents.now c.requires.extents c.loop-extent.extent-index _
    c.loop-extent-test.true).unbroken
    (all_from_index (λ (entry : Entry). entry.block.track ≡ track_at c.args.disk.now.map entry.block.lbn) c.args.wanted.now
    (λ i entry at. (c.requires.registered i entry at).track))
    c.in_ok-add_carried.ensures

pub returns : goal.returns
returns c =
    let blocks = wanted_of c.args.wanted.now in
    c.in_ok-put_in_order.ensures.ordered
    ∙ sym (none_added (all_passages_of c.args.disk.now.map c.args.extents.now) c.args.extents.now c.loop-extent.extent-index c.args.request
    (in_order c.loop-extent.found.items) blocks c.loop-extent-test.false)
    ∙ sym c.loop-extent.invariant
    ∙ carried_whole (all_passages_of c.args.disk.now.map c.args.extents.now) c.args.extents.now c.args.request blocks c.requires.covers
    c.requires.distinct
    (each_wanted (λ block. 0 < block.count) c.args.wanted.now
    (all_from_index (λ (entry : Entry). 0 < entry.block.count) c.args.wanted.now (λ i entry at. (c.requires.registered i entry at).some)))

pub add_carried-requires-clause-extent : goal.add_carried-requires-clause-extent
add_carried-requires-clause-extent c = (extent_at (IsExtentOf c.args.disk.now.map) c.args.extents.now c.requires.extents
    c.loop-extent.extent-index _ c.loop-extent-test.true).within
