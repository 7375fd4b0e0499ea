use Rattle.fb_bgwrite.proofs.Words.{◌∙◌, None, ap, sym, subst, arith}
use Rattle.std.specs.BTreeMap.{UpdatesBy, get}
use Rattle.std.specs.Ordering.{nat_cmp}
use Rattle.std.specs.Prelude.{IfSome}
use Rattle.fb_bgwrite.specs.ByAngle.{AreSpots, IsKeptWith, LackOne}
use Rattle.fb_bgwrite.proofs.Kept.{kept_again, kept_for, others_before, registered_lacks, some_weaker}
use Rattle.fb_bgwrite.proofs.by_angle.ByAngle.register.Goals as goal

pub with_block-spots-requires : goal.with_block-spots-requires
with_block-spots-requires c =
    let old = c.self.inside in
    let block = c.args.block in
    let later = c.register.new.self in
    let value = c.remove-spots.ensures.value ∙ ap (get nat_cmp old.kept) c.key_of-key.ensures in
    subst (λ on. IfSome c.remove-spots.result (λ kept. LackOne kept.items c.spot_of.result on)) (sym c.on-on.ensures)
    (some_weaker _ _ c.remove-spots.result (λ kept are. registered_lacks block old.registered later c.in_ok-register.ensures.ok kept.items
    c.spot_of.result c.spot_of.ensures.sweep c.spot_of.ensures.worth are)
    (kept_for old.kept block.track old.registered c.remove-spots.result (omega arith) c.self.invariant value))

pub invariant_of-self-2 : goal.invariant_of-self-2
invariant_of-self-2 c =
    let old = c.self.inside in
    let track = c.args.block.track in
    let mid = c.remove-spots.new.self in
    let later = c.register.new.self in
    let aside = subst (λ k. UpdatesBy nat_cmp (nat_cmp k) old.kept mid None) c.key_of-key.ensures c.remove-spots.ensures.updates in
    let put = subst (λ k. IsKeptWith mid c.keep.new.kept k c.with_block-spots.result) c.key_of-key.ensures c.keep.ensures in
    let own = subst (λ on. IfSome c.with_block-spots.result (λ kept. AreSpots kept.items on)) c.on-on.ensures c.with_block-spots.ensures in
    kept_again old.kept mid c.keep.new.kept track c.with_block-spots.result old.registered later (omega arith) c.self.invariant aside put own
    (others_before c.args.block old.registered later c.in_ok-register.ensures.ok)
