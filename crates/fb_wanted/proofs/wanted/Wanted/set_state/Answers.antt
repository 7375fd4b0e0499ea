use Rattle.fb_wanted.proofs.Words.{◌≡◌, ◌<◌, ◌≤◌, ◌/◌, Some, set, slice_get, ◌∙◌, ap, sym, subst, refl, length, arith, slice_get_read}
use Rattle.fb_wanted.proofs.Words.{Entry, with_state, reweighed, indexes_of, is_of_track, offers_at, AreGreatest, AreNoted, AreShort}
use Rattle.fb_wanted.proofs.Words.{AreOffered, IsKept, AreSmall, blocks_of, AreGrouped}
use Rattle.fb_wanted.proofs.Standing.{items-with_state}
use Rattle.fb_wanted.proofs.Numbers.{small_at}
use Rattle.fb_wanted.proofs.Reading.{its_task_there, its_track_there, weight_small, counts_part, counts_room, weight_part}
use Rattle.fb_wanted.proofs.Kept.{kept_set, kept_still, changed_offers}
use Rattle.fb_wanted.proofs.Offering.{offered_still}
use Rattle.fb_wanted.proofs.Regions.{noted-with_state, short-with_state}
use Rattle.fb_wanted.proofs.Cylinders.{greatest_same, others_within, greatest_after}
use Rattle.fb_wanted.proofs.Deep.{deep_set}
use Rattle.fb_wanted.proofs.Grouped.{its_group_there, group_part, group_room, grouped_set}
use Rattle.fb_wanted.proofs.wanted.Wanted.set_state.Goals as goal
use Rattle.fb_wanted.proofs.wanted.Wanted.set_state.Goals.{After-reoffer, After-reweigh-weight}

pub reoffer-requires : goal.reoffer-requires
reoffer-requires c =
    let items = c.self.inside.entries.items in
    let is = sym c.deref.ensures.value in
    let there = subst (λ es. c.args.index < length es) (sym c.self.view_is) c.requires in
    let kept = c.self.invariant.0 in
    record {
      there = subst (λ es. c.args.index < length es) is there;
      small = subst (λ es. AreSmall (blocks_of es)) is kept.small;
      few = subst (λ es. length es ≤ 16000000) is kept.few;
      indexes = λ t. kept.look_up.by_track t ∙ ap (indexes_of (is_of_track t)) is;
      tracks = λ e at. its_track_there items c.self.inside.tasks.items c.self.inside.tracks kept c.args.index e
          (ap (λ l. slice_get l c.args.index) is ∙ at);
      offered = subst (λ l. AreOffered l (offers_at c.self.inside.tracks) c.self.inside.offer_indexes.items) is c.self.invariant.5;
    }

-- the entry that changes is there
here : (c : After-reoffer) → slice_get c.self.inside.entries.items c.args.index ≡ Some c.index-entry.result.now
here c =
    let items = c.self.inside.entries.items in
    let there = subst (λ es. c.args.index < length es) (sym c.self.view_is) c.requires in
    slice_get_read items (length items) c.args.index c.index-entry.result.now refl there c.index-entry.ensures

small : (c : After-reoffer) → (c.index-entry.result.now.block.weight ≤ 1000) × (c.index-entry.result.now.block.count ≤ 2048)
small c = small_at c.self.inside.entries.items c.args.index c.index-entry.result.now c.self.invariant.0.small (here c)

-- the indexes hold with the offers brought up to date
mid : (c : After-reoffer) → IsKept c.self.inside.entries.items c.self.inside.tasks.items c.reoffer.new.tracks
mid c = kept_still c.self.inside.entries.items c.self.inside.tasks.items c.self.inside.tracks c.reoffer.new.tracks
    c.self.invariant.0 c.reoffer.ensures.indexes c.reoffer.ensures.weights

greatest_mid : (c : After-reoffer) → AreGreatest c.reoffer.new.tracks c.self.inside.greatest
greatest_mid c = greatest_same c.self.inside.tracks c.reoffer.new.tracks c.self.inside.greatest c.self.invariant.2
    c.reoffer.ensures.weights (omega (arith, c.reoffer.ensures.length, c.self.invariant.2.there))

pub weight_of-lost-requires : goal.weight_of-lost-requires
weight_of-lost-requires c =
    let limits = small (goal.at.weight_of-lost-requires c).After-reoffer in record { light = limits.0; short = limits.1 }

pub weight_of-gained-requires : goal.weight_of-gained-requires
weight_of-gained-requires c =
    let limits = small (goal.at.weight_of-gained-requires c).After-reoffer in record { light = limits.0; short = limits.1 }

pub recount-requires : goal.recount-requires
recount-requires c =
    let items = c.self.inside.entries.items in
    let tasks = c.self.inside.tasks.items in
    let tracks = c.self.inside.tracks in
    let entry = c.index-entry.result.now in
    let at = here (goal.at.recount-requires c).After-reoffer in
    let changed : Entry = record { block = entry.block; state = c.args.state } in
    record {
      there = its_task_there items tasks tracks c.self.invariant.0 c.args.index entry at;
      part = counts_part items tasks tracks c.self.invariant.0 c.args.index entry c.counts_of-before.result at c.counts_of-before.ensures;
      room = counts_room items tasks tracks c.self.invariant.0 entry.block.task changed c.counts_of-after.result c.counts_of-after.ensures;
    }

pub recount-requires-2 : goal.recount-requires-2
recount-requires-2 c =
    let items = c.self.inside.entries.items in
    let groups = c.self.inside.groups in
    let entry = c.index-entry.result.now in
    let block = entry.block in
    let at = here (goal.at.recount-requires-2 c).After-reoffer in
    let changed : Entry = record { block = block; state = c.args.state } in
    record {
      there = its_group_there items groups c.self.invariant.6 c.args.index entry at;
      part = group_part items groups c.self.invariant.6 c.args.index entry c.counts_of-before.result at c.counts_of-before.ensures;
      room = group_room items groups c.self.invariant.6 block.task (block.index / 512) block.task changed c.counts_of-after.result
          c.self.invariant.0.few c.counts_of-after.ensures;
    }

pub reweigh-weight-requires : goal.reweigh-weight-requires
reweigh-weight-requires c =
    let items = c.self.inside.entries.items in
    let tasks = c.self.inside.tasks.items in
    let tracks = c.reoffer.new.tracks in
    let entry = c.index-entry.result.now in
    let after = (goal.at.reweigh-weight-requires c).After-reoffer in
    record {
      there = its_track_there items tasks tracks (mid after) c.args.index entry (here after);
      part = weight_part items tasks tracks (mid after) c.args.index entry c.weight_of-lost.result (here after)
          c.weight_of-lost.ensures.value;
      room = omega (arith, weight_small items tasks tracks (mid after) entry.block.track, c.weight_of-gained.ensures.small);
    }

-- the indexes hold with the block's new state
kept : (c : After-reweigh-weight) → slice_get c.self.inside.entries.items c.args.index ≡ Some c.index-entry.result.now
    → IsKept c.self.inside.entries.items c.self.inside.tasks.items c.reoffer.new.tracks
    → IsKept (set c.self.inside.entries.items c.args.index (record { block = c.index-entry.result.now.block; state = c.args.state }))
    c.recount.new.tasks.items c.reweigh-weight.new.self
kept c at h = kept_set c.args.state c.args.index c.index-entry.result.now c.self.inside.entries.items
    c.reoffer.new.tracks c.reweigh-weight.new.self at c.self.inside.tasks.items c.recount.new.tasks.items c.counts_of-before.result
    c.counts_of-after.result
    c.weight_of-lost.result c.weight_of-gained.result h c.counts_of-before.ensures c.counts_of-after.ensures
    c.weight_of-lost.ensures.value c.weight_of-gained.ensures.value c.recount.ensures c.reweigh-weight.ensures.tracks

pub update_greatest-requires : goal.update_greatest-requires
update_greatest-requires c =
    let items = c.self.inside.entries.items in
    let entry = c.index-entry.result.now in
    let after = (goal.at.update_greatest-requires c).After-reoffer in
    let there = its_track_there items c.self.inside.tasks.items c.reoffer.new.tracks (mid after) c.args.index entry (here after) in
    record {
      weight = c.reweigh-weight.ensures.weight;
      there = omega (arith, there.0, (greatest_mid after).there);
      small = weight_small _ c.recount.new.tasks.items c.reweigh-weight.new.self
          (kept (goal.at.update_greatest-requires c).After-reweigh-weight (here after) (mid after));
      others = others_within c.reoffer.new.tracks c.reweigh-weight.new.self entry.block.track
          (reweighed c.weight_of-lost.result c.weight_of-gained.result) c.self.inside.greatest (greatest_mid after)
          c.reweigh-weight.ensures.tracks;
    }

pub invariant_of-self : goal.invariant_of-self
invariant_of-self c =
    let self = c.self.inside in
    let items = self.entries.items in
    let state = c.args.state in
    let index = c.args.index in
    let entry = c.index-entry.result.now in
    let after = (goal.at.invariant_of-self c).After-reoffer in
    let old = c.reoffer.new.tracks in
    let new = c.reweigh-weight.new.self in
    let change = reweighed c.weight_of-lost.result c.weight_of-gained.result in
    let offer_indexes = c.reoffer.new.offer_indexes.items in
    let offered = subst (λ l. AreOffered (with_state state index l) (offers_at old) offer_indexes) c.deref.ensures.value
    c.reoffer.ensures.offered in
    let same = sym (items-with_state state index entry items (here after)) in (
      kept (goal.at.invariant_of-self c).After-reweigh-weight (here after) (mid after),
      subst (λ l. AreNoted l self.streaks) same (noted-with_state state index items self.streaks c.self.invariant.1),
      greatest_after old new entry.block.track change self.greatest (greatest_mid after) c.reweigh-weight.ensures.tracks
          c.update_greatest.new.greatest (omega (arith, c.reweigh-weight.ensures.length, (greatest_mid after).there))
          c.update_greatest.ensures.length c.update_greatest.ensures.weights,
      deep_set state index entry items self.depths (here after) c.self.invariant.3,
      subst (AreShort self.longest) same (short-with_state self.longest state index items c.self.invariant.4),
      subst (λ l. AreOffered l (offers_at new) offer_indexes) same
          (offered_still (with_state state index items) (offers_at old) (offers_at new) offer_indexes offered
          (changed_offers old new entry.block.track change (λ o. refl) c.reweigh-weight.ensures.tracks)),
      subst (λ l. AreGrouped l c.recount-2.new.self) same
          (grouped_set items self.groups c.self.invariant.6 c.recount-2.new.self state index entry c.counts_of-before.result
          c.counts_of-after.result (here after) c.counts_of-before.ensures c.counts_of-after.ensures c.recount-2.ensures),
    )

pub returns : goal.returns
returns c =
    items-with_state c.args.state c.args.index c.index-entry.result.now c.self.inside.entries.items (here (goal.at.returns c).After-reoffer)
    ∙ ap (with_state c.args.state c.args.index) c.self.view_is
