-- The indexes beside the list of registered blocks, after a block is registered or changes its state.
use Rattle.fb_wanted.proofs.Words.{◌≡◌, ℕ, ◌+◌, ◌-◌, ◌<◌, ◌≤◌, inl, inr, ◌==◌, List, [], ◌∷◌, ◌++◌, Some, true, false, length}
use Rattle.fb_wanted.proofs.Words.{length-append, slice_get, get_or, set, refl, ap, sym, ◌∙◌, arith, subst, cases_Bool, nat_tests}
use Rattle.fb_wanted.proofs.Words.{same_tracks, Track, same_track, Entry, State, Counts, OfTask, counts_of, is_of, no_counts, recounted}
use Rattle.fb_wanted.proofs.Words.{AreInOrder, AreSmall, blocks_of, registered_count, is_wanted, wanted_weight, OnTrack, is_of_task}
use Rattle.fb_wanted.proofs.Words.{is_of_track, indexes_of, grown, reweighed, no_blocks, grown_task, counted_anew, track_at, weight_kept}
use Rattle.fb_wanted.proofs.Words.{offers_at, IsKept, IsChanged, IsTaskChanged, with_state}
use Rattle.fb_wanted.specs.LookUp.{kept_of_task}
use Rattle.fb_wanted.proofs.Standing.{length-with_state, items-with_state, blocks-with_state, indexes_of-with_state, indexes_of-more_yes}
use Rattle.fb_wanted.proofs.Standing.{indexes_of-more_no}
use Rattle.fb_wanted.proofs.Numbers.{numbered-more, small-more}
use Rattle.fb_wanted.proofs.Counted.{counts-grown, counts-grown_other, counts-with_state, counts-with_other}
use Rattle.fb_wanted.proofs.Weights.{weight-append, weight-with_state, weight_elsewhere, weight_unwanted, weight_at}

pub swapped_track : (a b : Track) → same_track a b ≡ true → same_track b a ≡ true
swapped_track a b h = grind (arith, nat_tests)

pub swapped_other : (a b : Track) → same_track a b ≡ false → same_track b a ≡ false
swapped_other a b h = grind (arith, nat_tests)

-- what the look-up has for two tasks is equal if each part is
same_blocks : (a b : OfTask) → a.indexes ≡ b.indexes → a.counts ≡ b.counts → a ≡ b
same_blocks a b x y = rw (x, y) refl

-- the tracks after one of them has changed
module _ (tracks new : List (List OnTrack)) (track : Track) (change : OnTrack → OnTrack) where
  pub changed_here : IsChanged tracks new track change → (t : Track) → same_track track t ≡ true → track_at new t ≡ change
      (track_at tracks t)
  changed_here changed t here = changed t ∙ rw here refl

  pub unchanged : IsChanged tracks new track change → (t : Track) → same_track track t ≡ false → track_at new t ≡ track_at tracks t
  unchanged changed t other = changed t ∙ rw other refl

  pub changed_indexes : ((o : OnTrack) → (change o).indexes ≡ o.indexes) → IsChanged tracks new track change → (t : Track) →
      (track_at new t).indexes ≡ (track_at tracks t).indexes
  changed_indexes stay changed t = elim (cases_Bool (same_track track t)) [
    | inl here ↦ ap (λ o. o.indexes) (changed_here changed t here) ∙ stay (track_at tracks t)
    | inr other ↦ ap (λ o. o.indexes) (unchanged changed t other)
  ]

  pub changed_weight : ((o : OnTrack) → (change o).weight ≡ o.weight) → IsChanged tracks new track change → (t : Track)
      → weight_kept new t ≡ weight_kept tracks t
  changed_weight stay changed t = elim (cases_Bool (same_track track t)) [
    | inl here ↦ ap (λ o. o.weight) (changed_here changed t here) ∙ stay (track_at tracks t)
    | inr other ↦ ap (λ o. o.weight) (unchanged changed t other)
  ]

  pub changed_offers : ((o : OnTrack) → (change o).offers ≡ o.offers) → IsChanged tracks new track change → (t : Track)
      → offers_at new t ≡ offers_at tracks t
  changed_offers stay changed t = elim (cases_Bool (same_track track t)) [
    | inl here ↦ ap (λ o. o.offers) (changed_here changed t here) ∙ stay (track_at tracks t)
    | inr other ↦ ap (λ o. o.offers) (unchanged changed t other)
  ]

-- the indexes hold with other tracks whose indexes and weights are the same
pub kept_still : (es : List Entry) (tasks : List OfTask) (tracks new : List (List OnTrack)) → IsKept es tasks tracks
    → ((t : Track) → (track_at new t).indexes ≡ (track_at tracks t).indexes) → ((t : Track) → (track_at new t).weight ≡
    (track_at tracks t).weight) → IsKept es tasks new
kept_still es tasks tracks new h same_indexes same_weights = record {
  in_order = h.in_order;
  few = h.few;
  small = h.small;
  look_up = record {
    by_task = h.look_up.by_task;
    by_track = λ t. same_indexes t ∙ h.look_up.by_track t;
    by_weight = λ t. same_weights t
        ∙ h.look_up.by_weight t;
  };
}

module _ (s : State) (n : ℕ) (e : Entry) (es : List Entry) (tracks new : List (List OnTrack)) (at : slice_get es n ≡ Some e) where
  abbrev pub changed_entry : Entry
  changed_entry = record { block = e.block; state = s }

  abbrev change : OnTrack → OnTrack
  change = reweighed (wanted_weight e.block.track (e ∷ [])) (wanted_weight e.block.track (changed_entry ∷ []))

  weight_there : (t : Track) (w : ℕ) → same_track e.block.track t ≡ true → w ≡ wanted_weight t es
      → w - wanted_weight e.block.track (e ∷ []) + wanted_weight e.block.track (changed_entry ∷ []) ≡ wanted_weight t (with_state s n es)
  weight_there t w here kept =
      let same = same_tracks e.block.track t here in
      let lost = ap (λ u. wanted_weight u (e ∷ [])) same in
      let gained = ap (λ u. wanted_weight u (changed_entry ∷ [])) same in
      let change = weight-with_state t s n e es at in
      let part = weight_at t n e es at in
      omega (arith, lost, gained, change, part, kept)

  weight_other : (t : Track) (w : ℕ) → same_track e.block.track t ≡ false → w ≡ wanted_weight t es → w ≡ wanted_weight t (with_state s n es)
  weight_other t w other kept =
      let off = swapped_other e.block.track t other in
      let lost = weight_elsewhere t e off in
      let gained = weight_elsewhere t changed_entry off in
      let change = weight-with_state t s n e es at in
      omega (arith, lost, gained, change, kept)

  kept_own : (task : ℕ) (blocks : OfTask) → (e.block.task == task) ≡ true → blocks ≡ kept_of_task task es
      → counted_anew (counts_of e.block.task (e ∷ [])) (counts_of e.block.task (changed_entry ∷ [])) blocks ≡ kept_of_task task
      (with_state s n es)
  kept_own task blocks own kept =
      let same : e.block.task ≡ task = grind (arith, nat_tests) in
      ap (counted_anew (counts_of e.block.task (e ∷ [])) (counts_of e.block.task (changed_entry ∷ []))) kept
      ∙ (ap (λ u. counted_anew (counts_of u (e ∷ [])) (counts_of u (changed_entry ∷ [])) (kept_of_task task es)) same
      ∙ same_blocks _ _ (sym (indexes_of-with_state (λ b. b.task == task) s n es)) (counts-with_state (is_of task) s n e es at))

  kept_other : (task : ℕ) → (e.block.task == task) ≡ false → kept_of_task task es ≡ kept_of_task task (with_state s n es)
  kept_other task other = same_blocks _ _ (sym (indexes_of-with_state (λ b. b.task == task) s n es))
      (counts-with_other (is_of task) s n e es at other)

  kept_changed : (tasks more : List OfTask) → IsKept es tasks tracks
      → IsTaskChanged tasks more e.block.task (counted_anew (counts_of e.block.task (e ∷ [])) (counts_of e.block.task (changed_entry ∷ [])))
      → IsChanged tracks new e.block.track change → IsKept (with_state s n es) more new
  kept_changed tasks more h counted changed = record {
    in_order = subst AreInOrder (sym (blocks-with_state s n es)) h.in_order;
    few = omega (arith, length-with_state s n es, h.few);
    small = subst AreSmall (sym (blocks-with_state s n es)) h.small;
    look_up = record {
      by_task = λ task. elim (cases_Bool (e.block.task == task)) [
        | inl own ↦ counted task ∙ rw own (kept_own task (get_or tasks task no_blocks) own (h.look_up.by_task task))
        | inr other ↦ counted task ∙ rw other (h.look_up.by_task task ∙ kept_other task other)
      ];
      by_track = λ t. changed_indexes tracks new e.block.track change (λ o. refl) changed t
          ∙ (h.look_up.by_track t ∙ sym (indexes_of-with_state (λ b. same_track t b.track) s n es));
      by_weight = λ t. elim (cases_Bool (same_track e.block.track t)) [
        | inl here ↦ ap (λ o. o.weight) (changed_here tracks new e.block.track change changed t here) ∙ weight_there t
            (weight_kept tracks t) here (h.look_up.by_weight t)
        | inr other ↦ ap (λ o. o.weight) (unchanged tracks new e.block.track change changed t other) ∙ weight_other t
            (weight_kept tracks t) other (h.look_up.by_weight t)
      ];
    };
  }

  -- the indexes after a block is written with its new state
  pub kept_set : (tasks more : List OfTask) (was is : Counts) (lost gained : ℕ) → IsKept es tasks tracks
      → was ≡ counts_of e.block.task (e ∷ []) → is ≡ counts_of e.block.task (changed_entry ∷ [])
      → lost ≡ wanted_weight e.block.track (e ∷ []) → gained ≡ wanted_weight e.block.track (changed_entry ∷ [])
      → IsTaskChanged tasks more e.block.task (counted_anew was is) → IsChanged tracks new e.block.track (reweighed lost gained)
      → IsKept (set es n changed_entry) more new
  kept_set tasks more was is lost gained h before after loses gains counted changed =
      subst (λ l. IsKept l more new) (sym (items-with_state s n e es at))
      (kept_changed tasks more h (λ k. counted k ∙ rw (before, after) refl) (λ t. changed t ∙ rw (loses, gains) refl))

module _ (e : Entry) (es : List Entry) (tasks newtasks : List OfTask) (tracks new : List (List OnTrack)) where
  more_own : (task : ℕ) (blocks : OfTask) → (e.block.task == task) ≡ true → blocks ≡ kept_of_task task es → grown_task
      (length es) e blocks ≡ kept_of_task task (es ++ e ∷ [])
  more_own task blocks own kept =
      let same : e.block.task ≡ task = grind (arith, nat_tests) in
      ap (grown_task (length es) e) kept
      ∙ same_blocks _ _ (sym (indexes_of-more_yes (is_of_task task) es e own)) (ap (λ u. recounted no_counts (counts_of u (e ∷ []))
      (counts_of task es)) same ∙ counts-grown (is_of task) es e)

  more_other : (task : ℕ) → (e.block.task == task) ≡ false → kept_of_task task es ≡ kept_of_task task (es ++ e ∷ [])
  more_other task other = same_blocks _ _ (sym (indexes_of-more_no (is_of_task task) es e other)) (counts-grown_other (is_of task) es e other)

  more_of_task : (task : ℕ) → get_or tasks task no_blocks ≡ kept_of_task task es
      → IsTaskChanged tasks newtasks e.block.task (grown_task (length es) e)
      → get_or newtasks task no_blocks ≡ kept_of_task task (es ++ e ∷ [])
  more_of_task task kept changed = elim (cases_Bool (e.block.task == task)) [
    | inl own ↦ changed task ∙ rw own (more_own task (get_or tasks task no_blocks) own kept)
    | inr other ↦ changed task ∙ rw other (kept ∙ more_other task other)
  ]

  more_indexes : (t : Track) → (track_at tracks t).indexes ≡ indexes_of (is_of_track t) es
      → IsChanged tracks new e.block.track (grown (length es)) → (track_at new t).indexes ≡ indexes_of (is_of_track t) (es ++ e ∷ [])
  more_indexes t kept changed = elim (cases_Bool (same_track e.block.track t)) [
    | inl here ↦
        let on = swapped_track e.block.track t here in
        ap (λ o. o.indexes) (changed_here tracks new e.block.track (grown (length es)) changed t here)
        ∙ (ap (λ l. l ++ length es ∷ []) kept ∙ sym (indexes_of-more_yes (is_of_track t) es e on))
    | inr other ↦
        ap (λ o. o.indexes) (unchanged tracks new e.block.track (grown (length es)) changed t other)
        ∙ (kept ∙ sym (indexes_of-more_no (is_of_track t) es e (swapped_other e.block.track t other)))
  ]

  more_weight : (t : Track) → is_wanted e.state ≡ false → weight_kept tracks t ≡ wanted_weight t es
      → IsChanged tracks new e.block.track (grown (length es)) → weight_kept new t ≡ wanted_weight t (es ++ e ∷ [])
  more_weight t un kept changed =
      let same = changed_weight tracks new e.block.track (grown (length es)) (λ o. refl) changed t in
      omega (arith, same, kept, weight-append t es (e ∷ []), weight_unwanted t e un)

  kept_more : IsKept es tasks tracks → e.block.index ≡ registered_count e.block.task (blocks_of es) → length es < 16000000
      → e.block.weight ≤ 1000 → e.block.count ≤ 2048 → is_wanted e.state ≡ false
      → IsTaskChanged tasks newtasks e.block.task (grown_task (length es) e)
      → IsChanged tracks new e.block.track (grown (length es)) → IsKept (es ++ e ∷ []) newtasks new
  kept_more h free room light short un by_task by_track = record {
    in_order = numbered-more es e h.in_order free;
    few = omega (arith, room, length-append es (e ∷ []));
    small = small-more es e h.small light short;
    look_up = record {
      by_task = λ task. more_of_task task (h.look_up.by_task task) by_task;
      by_track = λ t. more_indexes t (h.look_up.by_track t) by_track;
      by_weight = λ t. more_weight t un (h.look_up.by_weight t) by_track;
    };
  }

  -- the indexes after a block is added at the end that isn't wanted
  pub kept_pushed : (items : List Entry) (index : ℕ) → items ≡ es ++ e ∷ [] → index ≡ length es
      → IsKept es tasks tracks → e.block.index ≡ registered_count e.block.task (blocks_of es) → length es < 16000000
      → e.block.weight ≤ 1000 → e.block.count ≤ 2048 → is_wanted e.state ≡ false
      → IsTaskChanged tasks newtasks e.block.task (grown_task index e)
      → IsChanged tracks new e.block.track (grown index) → IsKept items newtasks new
  kept_pushed items index list is h free room light short un by_task by_track =
      subst (λ l. IsKept l newtasks new) (sym list) (kept_more h free room light short un
      (subst (λ p. IsTaskChanged tasks newtasks e.block.task (grown_task p e)) is by_task)
      (subst (λ p. IsChanged tracks new e.block.track (grown p)) is by_track))
