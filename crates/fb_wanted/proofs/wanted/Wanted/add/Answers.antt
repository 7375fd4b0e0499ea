use Rattle.fb_wanted.proofs.Words.{◌≡◌, List, ◌<◌, ◌-◌, ◌/◌, arith, ◌∙◌, ◌++◌, ◌∷◌, [], ap, sym, refl, subst, length, filter, slice_get}
use Rattle.fb_wanted.proofs.Words.{length-map, Block, Entry, blocks_of, registered_count, AreDeep, AreGrouped, is_of_task, lbns, grown}
use Rattle.fb_wanted.proofs.Words.{offers_at, AreGreatest, AreNoted, AreShort, AreOffered, IsKept, Suspended}
use Rattle.fb_wanted.proofs.Offering.{offered_still, offered_pushed}
use Rattle.fb_wanted.proofs.Numbers.{task-blocks}
use Rattle.fb_wanted.proofs.Reading.{counts_room}
use Rattle.fb_wanted.proofs.Kept.{kept_pushed, changed_weight, changed_offers}
use Rattle.fb_wanted.proofs.Noting.{noted_more, noted_back, short_more}
use Rattle.fb_wanted.proofs.Cylinders.{greatest_still, greatest_same}
use Rattle.fb_wanted.proofs.Deep.{deep_room, deep_still, deep_pushed}
use Rattle.fb_wanted.proofs.Grouped.{group_room, grouped_still, grouped_pushed}
use Rattle.fb_wanted.proofs.wanted.Wanted.add.Goals as goal
use Rattle.fb_wanted.proofs.wanted.Wanted.add.Goals.{After-make_room}

its_number : (block : Block) (es : List Entry) → block.index ≡ registered_count block.task (blocks_of es)
    → block.index ≡ length (filter (is_of_task block.task) es)
its_number block es free = free ∙ (ap length (task-blocks block.task es) ∙ length-map (filter (is_of_task block.task) es) (λ e. e.block))

pub begins_streak-begins_streak-requires : goal.begins_streak-begins_streak-requires
begins_streak-begins_streak-requires c = its_number c.args.block c.args.self.now c.requires.numbered

pub add_to_look_up-requires : goal.add_to_look_up-requires
add_to_look_up-requires c = counts_room c.self.inside.entries.items c.self.inside.tasks.items c.self.inside.tracks c.self.invariant.0
    c.args.block.task (record { block = c.args.block; state = Suspended }) _ refl

-- the invariant still holds after room was made for the block, also out of memory
with_room : (c : After-make_room)
    → let self = c.self.inside in
    let items = self.entries.items in
    let new = c.make_room.new in
    IsKept items self.tasks.items self.tracks × AreNoted items self.streaks × AreGreatest self.tracks new.greatest
    × AreDeep items new.depths × AreShort self.longest items
    × AreOffered items (offers_at self.tracks) self.offer_indexes.items × AreGrouped items c.add_room.new.self
with_room c =
    let self = c.self.inside in
    let items = self.entries.items in
    let held = c.self.invariant in
    let new = c.make_room.new in
    let stay = c.make_room.ensures in (
      held.0,
      held.1,
      greatest_still self.tracks self.greatest new.greatest held.2 stay.greatest stay.longer,
      deep_still items self.depths new.depths held.3 stay.depths,
      held.4,
      held.5,
      grouped_still items self.groups held.6 c.add_room.new.self c.add_room.ensures.stay,
    )

pub recount-requires : goal.recount-requires
recount-requires c =
    let items = c.self.inside.entries.items in
    let block = c.args.block in
    let kept = with_room (goal.at.recount-requires c).After-make_room in
    record {
      there = c.in_ok-add_room.ensures.there;
      part = rw c.no_counts.ensures (omega arith, omega arith, omega arith);
      room = group_room items c.add_room.new.self kept.6 block.task (block.index / 512) block.task (record { block = block; state = Suspended })
          c.counts_of.result c.self.invariant.0.few c.counts_of.ensures;
    }

pub deepen-requires-clause-room : goal.deepen-requires-clause-room
deepen-requires-clause-room c =
    let kept = with_room (goal.at.deepen-requires-clause-room c).After-make_room in
    let room = subst (λ es. length es < 16000000) (sym c.self.view_is) c.requires.room in
    deep_room c.self.inside.entries.items c.make_room.new.depths c.band_of.result c.args.block.weight kept.3 room c.requires.light

-- out of memory before anything is noted of the block
pub invariant_of-self : goal.invariant_of-self
invariant_of-self c = rw c.in_err-reserve.ensures.items c.self.invariant

pub invariant_of-self-in_err-reserve-2 : goal.invariant_of-self-in_err-reserve-2
invariant_of-self-in_err-reserve-2 c = rw (c.in_ok-reserve.ensures.items, c.in_err-reserve-2.ensures.items) c.self.invariant

pub invariant_of-self-in_err-add_room : goal.invariant_of-self-in_err-add_room
invariant_of-self-in_err-add_room c =
    let self = c.self.inside in
    let held = c.self.invariant in
    rw (c.in_ok-reserve.ensures.items, c.in_ok-reserve-2.ensures.items) (
      held.0,
      held.1,
      held.2,
      held.3,
      held.4,
      held.5,
      grouped_still self.entries.items self.groups held.6 c.add_room.new.self c.add_room.ensures.stay,
    )

pub invariant_of-self-in_err-make_room : goal.invariant_of-self-in_err-make_room
invariant_of-self-in_err-make_room c = rw (c.in_ok-reserve.ensures.items, c.in_ok-reserve-2.ensures.items)
    (with_room (goal.at.invariant_of-self-in_err-make_room c).After-make_room)

pub invariant_of-self-in_err-note_streak : goal.invariant_of-self-in_err-note_streak
invariant_of-self-in_err-note_streak c =
    rw (c.in_ok-reserve.ensures.items, c.in_ok-reserve-2.ensures.items, c.in_err-note_streak.ensures.err)
    (with_room (goal.at.invariant_of-self-in_err-note_streak c).After-make_room)

pub invariant_of-self-in-Ok : goal.invariant_of-self-in-Ok
invariant_of-self-in-Ok c =
    let self = c.self.inside in
    let items = self.entries.items in
    let task = c.args.block.task in
    let entry : Entry = record { block = c.args.block; state = Suspended } in
    let free = c.requires.numbered ∙ ap (λ es. registered_count task (blocks_of es)) (sym c.self.view_is) in
    let room = subst (λ es. length es < 16000000) (sym c.self.view_is) c.requires.room in
    let list = c.push_reserved-in-Ok.ensures.items ∙ ap (λ l. l ++ entry ∷ []) c.in_ok-reserve.ensures.items in
    let offer_indexes = c.push_reserved.ensures.items ∙ ap (λ l. l ++ 0 ∷ []) c.in_ok-reserve-2.ensures.items in
    let index = c.len-index.ensures ∙ self.entries.ok.0 in
    let next = its_number c.args.block items free in
    let streak = c.streak_from-streak in
    let number = streak.ensures.number in
    let kept = with_room (goal.at.invariant_of-self-in-Ok c).After-make_room in (
      kept_pushed entry items self.tasks.items c.add_to_look_up.new.tasks.items self.tracks c.add_to_look_up.new.tracks
          c.push_reserved-in-Ok.new.self.items c.len-index.result list index c.self.invariant.0 free room c.requires.light c.requires.short
          refl c.in-Ok.ensures.tasks c.in-Ok.ensures.tracks,
      subst (λ l. AreNoted l c.note_streak.new.streaks) (sym list)
          (noted_more items task streak.result.region streak.result.number self.streaks c.note_streak.new.streaks
          c.begins_streak-begins_streak.result c.self.invariant.1 (number ∙ next) c.in_ok-note_streak.ensures.stay
          c.in_ok-note_streak.ensures.more entry refl (sym streak.ensures.region) c.in_ok-note_streak.ensures.noted
          (λ old. let it = c.begins_streak-begins_streak.ensures.same old in (
            it.0,
            omega (arith, it.1, number),
            ap (λ n. slice_get (lbns task items) (n - 1)) number
                ∙ (ap (λ es. slice_get (lbns task es) (c.args.block.index - 1)) c.self.view_is ∙ it.2),
            it.3 ∙ sym streak.ensures.region,
          ))
          (λ new i before to at same. c.begins_streak-begins_streak.ensures.new new i before (to ∙ number)
          (ap (λ es. slice_get (lbns task es) i) (sym c.self.view_is) ∙ at) (same ∙ streak.ensures.region))),
      greatest_same self.tracks c.add_to_look_up.new.tracks c.make_room.new.greatest kept.2
          (changed_weight self.tracks c.add_to_look_up.new.tracks c.args.block.track (grown c.len-index.result) (λ o. refl)
          c.in-Ok.ensures.tracks)
          (c.in-Ok.ensures.no_longer (length c.make_room.new.greatest) kept.2.there c.in_ok-make_room.ensures.cylinder),
      deep_pushed items c.push_reserved-in-Ok.new.self.items entry c.band_of.result c.make_room.new.depths
          c.deepen.new.self list c.band_of.ensures c.requires.light kept.3 c.deepen.ensures,
      subst (AreShort c.max-self-inside.result) (sym list)
          (short_more items entry self.longest c.max-self-inside.result c.self.invariant.4 (omega (arith, c.max-self-inside.ensures))
          (omega (arith, c.max-self-inside.ensures))),
      subst (λ l. AreOffered l (offers_at c.add_to_look_up.new.tracks) c.push_reserved.new.self.items) (sym list)
          (subst (λ l. AreOffered (items ++ entry ∷ []) (offers_at c.add_to_look_up.new.tracks) l) (sym offer_indexes)
          (offered_pushed items (offers_at c.add_to_look_up.new.tracks) self.offer_indexes.items entry 0
          (offered_still items (offers_at self.tracks) (offers_at c.add_to_look_up.new.tracks) self.offer_indexes.items c.self.invariant.5
          (changed_offers self.tracks c.add_to_look_up.new.tracks c.args.block.track (grown c.len-index.result) (λ o. refl)
          c.in-Ok.ensures.tracks)) refl)),
      subst (λ l. AreGrouped l c.recount.new.self) (sym list)
          (grouped_pushed items c.add_room.new.self kept.6 c.recount.new.self entry c.no_counts.result c.counts_of.result
          c.no_counts.ensures c.counts_of.ensures c.recount.ensures),
    )

-- out of memory for the look-up by task or by track: what was noted is taken back
pub invariant_of-self-in-Err : goal.invariant_of-self-in-Err
invariant_of-self-in-Err c =
    let self = c.self.inside in
    let items = self.entries.items in
    let old = c.self.invariant.0 in
    let list = sym c.in_ok-reserve.ensures.items in
    let stay = c.in-Err.ensures in
    let free = c.requires.numbered ∙ ap (λ es. registered_count c.args.block.task (blocks_of es)) (sym c.self.view_is) in
    let next = its_number c.args.block items free in
    let streak = c.streak_from-streak in
    let kept = with_room (goal.at.invariant_of-self-in-Err c).After-make_room in (
      subst (λ es. IsKept es c.add_to_look_up.new.tasks.items c.add_to_look_up.new.tracks) list (record {
        in_order = old.in_order;
        few = old.few;
        small = old.small;
        look_up = record {
          by_task = λ t. stay.tasks_stay t ∙ old.look_up.by_task t;
          by_track = λ t. ap (λ o. o.indexes) (stay.tracks_stay t) ∙ old.look_up.by_track t;
          by_weight = λ t. ap (λ o. o.weight) (stay.tracks_stay t) ∙ old.look_up.by_weight t;
        };
      }),
      subst (λ es. AreNoted es c.forget_streak.new.streaks) list
          (noted_back items c.args.block.task streak.result.region streak.result.number self.streaks c.note_streak.new.streaks
          c.begins_streak-begins_streak.result c.self.invariant.1 (streak.ensures.number ∙ next) c.in_ok-note_streak.ensures.stay
          c.in_ok-note_streak.ensures.more
          c.forget_streak.new.streaks c.forget_streak.ensures.gone c.forget_streak.ensures.only c.forget_streak.ensures.others),
      greatest_same self.tracks c.add_to_look_up.new.tracks c.make_room.new.greatest kept.2 (λ t. ap (λ o. o.weight) (stay.tracks_stay t))
          (stay.no_longer (length c.make_room.new.greatest) kept.2.there c.in_ok-make_room.ensures.cylinder),
      subst (λ es. AreDeep es c.make_room.new.depths) list kept.3,
      subst (AreShort self.longest) list c.self.invariant.4,
      subst (λ es. AreOffered es (offers_at c.add_to_look_up.new.tracks) c.reserve-2.new.self.items) list
          (subst (λ l. AreOffered items (offers_at c.add_to_look_up.new.tracks) l) (sym c.in_ok-reserve-2.ensures.items)
          (offered_still items (offers_at self.tracks) (offers_at c.add_to_look_up.new.tracks) self.offer_indexes.items c.self.invariant.5
          (λ t. ap (λ o. o.offers) (stay.tracks_stay t)))),
      subst (λ es. AreGrouped es c.add_room.new.self) list kept.6,
    )
