use Rattle.fb_bgwrite.proofs.Words.{◌≡◌, ◌∙◌, None, Some, true, ap, subst, arith, slice_get, on_track, is_block, Wanted, Entry}
use Rattle.std.specs.BTreeMap.{UpdatesBy, get}
use Rattle.std.specs.Ordering.{nat_cmp}
use Rattle.fb_bgwrite.specs.ByAngle.{IsKeptWith}
use Rattle.fb_bgwrite.proofs.Kept.{kept_again, kept_for, others_after, some_weaker, written_more}
use Rattle.fb_bgwrite.proofs.by_angle.ByAngle.deliver.Goals as goal

pub invariant_of-self : goal.invariant_of-self
invariant_of-self c =
    let old = c.self.inside in
    let own = c.entry.result in
    let track = own.block.track in
    let mid = c.remove-spots.new.self in
    let later = c.deliver.new.self in
    let there = c.requires in
    let at_old : slice_get old.registered there.1 ≡ Some there.0 = ap (λ es. slice_get es there.1) c.self.view_is ∙ there.2 in
    let same : there.0 ≡ own = c.entry.ensures there.0 there.1 at_old there.3 in
    let at : slice_get old.registered there.1 ≡ Some own = at_old ∙ ap Some same in
    let this = subst (λ (e : Entry). is_block c.args.put c.args.number e ≡ true) same there.3 in
    let wanted = subst (λ (e : Entry). e.state ≡ Wanted) same there.4 in
    let value = c.remove-spots.ensures.value ∙ ap (get nat_cmp old.kept) c.key_of-key.ensures in
    let aside = subst (λ k. UpdatesBy nat_cmp (nat_cmp k) old.kept mid None) c.key_of-key.ensures c.remove-spots.ensures.updates in
    let put = subst (λ k. IsKeptWith mid c.keep.new.kept k c.without_block.result) c.key_of-key.ensures c.keep.ensures in
    let before = kept_for old.kept track old.registered c.remove-spots.result (omega arith) c.self.invariant value in
    let more = some_weaker _ _ c.remove-spots.result (λ kept are. written_more c.args.put c.args.number own old.registered later
    c.deliver.ensures c.numbered_in_order.ensures there.1 at this wanted kept.items are) before in
    kept_again old.kept mid c.keep.new.kept track c.without_block.result old.registered later (omega arith) c.self.invariant aside put
    (c.without_block.ensures (on_track track later) more)
    (others_after c.args.put c.args.number own old.registered later c.deliver.ensures c.numbered_in_order.ensures there.1 at this wanted)
