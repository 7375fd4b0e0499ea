-- What the indexes say of a task and of a track.
use Rattle.fb_wanted.proofs.Words.{◌≡◌, ℕ, ◌<◌, ◌≤◌, inl, inr, List, [], ◌∷◌, Some, true, length, filter, slice_get, get_or, ◌*◌, ◌/◌}
use Rattle.fb_wanted.proofs.Words.{refl, ap, sym, ◌∙◌, arith, subst, cases_lt, nat_tests, get_or_past, slice_get_within, filter_from}
use Rattle.fb_wanted.proofs.Words.{element_at, same_tracks, track_itself, Track, Entry, Counts, OfTask, counts_of, is_of, sum_of}
use Rattle.fb_wanted.proofs.Words.{AreNoMore, Fit, on_track, Depth, no_depth, AreDeep, wanted_weight, IsNextRegistered, NoneIsRegistered}
use Rattle.fb_wanted.proofs.Words.{OnTrack, indexes_of, is_of_task, is_of_track, track_at, weight_kept, IsKept, no_blocks, no_block_on}
use Rattle.fb_wanted.proofs.Words.{IsNextTrack}
use Rattle.fb_wanted.specs.LookUp.{IsThere}
use Rattle.fb_wanted.specs.LookUp.{AreMarked, NoTrackIsNext}
use Rattle.fb_wanted.proofs.Numbers.{block_there}
use Rattle.fb_wanted.proofs.Standing.{length-indexes_of, among, index_read, index_within, passes, read_at}
use Rattle.fb_wanted.proofs.Counted.{counts_at, counts-few}
use Rattle.fb_wanted.proofs.Weights.{weight_at, weight-le}

module _ (es : List Entry) (tasks : List OfTask) (tracks : List (List OnTrack)) (h : IsKept es tasks tracks) where
  task_length : (task : ℕ) (blocks : OfTask) → blocks ≡ get_or tasks task no_blocks
      → length blocks.indexes ≡ length (filter (is_of_task task) es)
  task_length task blocks at = ap (λ b. length b.indexes) (at ∙ h.look_up.by_task task) ∙ length-indexes_of (is_of_task task) es

  no_task : (task : ℕ) → length tasks ≤ task → 0 ≡ length (filter (is_of_task task) es)
  no_task task past = task_length task no_blocks (sym (get_or_past tasks task no_blocks past))

  pub task_there : (task k : ℕ) → k < length (filter (is_of_task task) es) → task < length tasks
  task_there task k lt = elim (cases_lt task (length tasks)) [
    | inl there ↦ there
    | inr past ↦ absurd (omega (arith, no_task task past, lt))
  ]

  pub task_index : (task k : ℕ) (blocks : OfTask) → blocks ≡ get_or tasks task no_blocks → k < length (filter (is_of_task task) es)
      → k < length blocks.indexes
  task_index task k blocks at lt = omega (arith, task_length task blocks at, lt)

  -- the counts in the look-up are those of the task
  pub task_counts : (task : ℕ) (blocks : OfTask) → blocks ≡ get_or tasks task no_blocks → blocks.counts ≡ counts_of task es
  task_counts task blocks at = ap (λ b. b.counts) (at ∙ h.look_up.by_task task)

  kept_counts : (task : ℕ) → (get_or tasks task no_blocks).counts ≡ counts_of task es
  kept_counts task = task_counts task (get_or tasks task no_blocks) refl

  -- the task of a registered block has an entry in the look-up, and its counts have the block's part
  pub its_task_there : (n : ℕ) (e : Entry) → slice_get es n ≡ Some e → e.block.task < length tasks
  its_task_there n e at =
      let own : is_of_task e.block.task e ≡ true = grind (arith, nat_tests) in
      let it = among (is_of_task e.block.task) es n e at own in
      task_there e.block.task it.0 (slice_get_within (filter (is_of_task e.block.task) es) it.0 e it.2)

  pub counts_part : (n : ℕ) (e : Entry) (lost : Counts) → slice_get es n ≡ Some e → lost ≡ counts_of e.block.task (e ∷ [])
      → AreNoMore lost (get_or tasks e.block.task no_blocks).counts
  counts_part n e lost at is = rw (is, kept_counts e.block.task) (counts_at (is_of e.block.task) n e es at)

  -- the counts of a task with one more block fit in their 32 bits
  pub counts_room : (task : ℕ) (e : Entry) (gained : Counts) → gained ≡ counts_of task (e ∷ [])
      → Fit (sum_of (get_or tasks task no_blocks).counts gained)
  counts_room task e gained is =
      let one = counts-few (is_of task) (e ∷ []) in
      let all = counts-few (is_of task) es in
      rw (is, kept_counts task) (omega (arith, one.0, all.0, h.few), omega (arith, one.1, all.1, h.few), omega (arith, one.2, all.2, h.few))

  pub track_kept : (t : Track) (on : OnTrack) → on ≡ track_at tracks t
      → (on.indexes ≡ indexes_of (is_of_track t) es) × (on.weight ≡ wanted_weight t es)
  track_kept t on at = (ap (λ o. o.indexes) at ∙ h.look_up.by_track t, ap (λ o. o.weight) at ∙ h.look_up.by_weight t)

  pub track_weight : (t : Track) (on : OnTrack) → on ≡ track_at tracks t → on.weight ≤ 16000000 * 2048000
  track_weight t on at = omega (arith, (track_kept t on at).1, weight-le t es h.small, h.few)

  pub weight_read : (t : Track) → weight_kept tracks t ≡ wanted_weight t es
  weight_read t = h.look_up.by_weight t

  pub weight_small : (t : Track) → weight_kept tracks t ≤ 16000000 * 2048000
  weight_small t = omega (arith, weight_read t, weight-le t es h.small, h.few)

  -- the weight of a block is part of that of its track
  pub weight_part : (n : ℕ) (e : Entry) (lost : ℕ) → slice_get es n ≡ Some e → lost ≡ wanted_weight e.block.track (e ∷ [])
      → lost ≤ weight_kept tracks e.block.track
  weight_part n e lost at is = omega (arith, is, weight_read e.block.track, weight_at e.block.track n e es at)

  track_length : (t : Track) → length (track_at tracks t).indexes ≡ length (on_track t es)
  track_length t = ap length (h.look_up.by_track t) ∙ length-indexes_of (is_of_track t) es

  -- the lists reach to the track of a registered block
  pub its_track_there : (n : ℕ) (e : Entry) → slice_get es n ≡ Some e → IsThere tracks e.block.track
  its_track_there n e at =
      let t = e.block.track in
      let it = among (is_of_track t) es n e at (track_itself t) in
      let some = slice_get_within (on_track t es) it.0 e it.2 in
      let heads = get_or tracks t.cylinder [] in
      let by_head : t.head < length heads = elim (cases_lt t.head (length heads)) [
        | inl there ↦ there
        | inr past ↦ absurd (omega (arith, some, track_length t, ap (λ on. length on.indexes) (get_or_past heads t.head no_block_on past)))
      ] in
      let by_cylinder : t.cylinder < length tracks = elim (cases_lt t.cylinder (length tracks)) [
        | inl there ↦ there
        | inr past ↦ absurd (omega (arith, by_head, ap length (get_or_past tracks t.cylinder [] past)))
      ] in
      (by_cylinder, by_head)

  -- the first block of a track that has one is the track's
  module _ (t : Track) (on : OnTrack) (at : on ≡ track_at tracks t) (some : 0 < length on.indexes) where
    some_there : 0 < length (on_track t es)
    some_there = omega (arith, some, ap (λ o. length o.indexes) at, track_length t)

    pub first_within : get_or on.indexes 0 0 < length es
    first_within =
        let its = (track_kept t on at).0 in
        index_within (is_of_track t) es 0 (get_or on.indexes 0 0) (index_read (is_of_track t) es on.indexes 0 its some_there)

    pub first_of_track : (d : Entry) → (get_or es (get_or on.indexes 0 0) d).block.track ≡ t
    first_of_track d =
        let first = get_or es (get_or on.indexes 0 0) d in
        let its = (track_kept t on at).0 in
        sym (same_tracks t first.block.track
        (passes (is_of_track t) es 0 first (read_at (is_of_track t) es on.indexes 0 d its some_there)))

  -- the next track with a block in the look-up is the next one on which a block is registered
  pub next_registered : (from t : Track) → IsNextTrack tracks from t → IsNextRegistered es from t
  next_registered from t next = record {
    registered = subst (λ n. 0 < n) (track_length t) next.some;
    since = next.since;
    least = λ other has since. next.least other (subst (λ n. 0 < n) (sym (track_length other)) has) since;
  }

  pub none_registered : (from : Track) → NoTrackIsNext tracks from → NoneIsRegistered es from
  none_registered from none t has since = none t (subst (λ n. 0 < n) (sym (track_length t)) has) since

  -- each band with a block in the look-up is marked
  pub are_marked : (depths : List Depth) → AreDeep es depths → AreMarked tracks depths
  are_marked depths deep t some =
      let first = element_at (on_track t es) 0 (subst (λ n. 0 < n) (track_length t) some) in
      let from = filter_from (is_of_track t) es 0 first.0 first.1 in
      let same = same_tracks t first.0.block.track from.2 in
      subst (λ u. (get_or depths (u.cylinder / 64) no_depth).has_block ≡ true) (sym same)
      (deep.marked from.0 first.0.block (block_there es from.0 first.0 from.1))
