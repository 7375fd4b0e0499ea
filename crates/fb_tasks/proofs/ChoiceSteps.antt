-- A task chooses a segment, as its session and as the history makes it.
use Rattle.fb_units.proofs.Each.{all_best}
use Rattle.fb_tasks.proofs.Words.{◌≡◌, ℕ, ◌+◌, ◌-◌, ◌*◌, ◌^◌, ◌<◌, ◌≤◌, ◌==◌, not, if◌then◌else◌, List, [], ◌∷◌, ◌++◌, true, false, Some}
use Rattle.fb_tasks.proofs.Words.{None, Option, length, map, slice_get, append-nil, refl, ap, sym, ◌∙◌, arith, subst, ◌&&◌, inl, inr}
use Rattle.fb_tasks.proofs.Words.{filter, append_assoc, length-append, AllByRecursion, list_all, flat_map, best_of, sum_by, option_map}
use Rattle.fb_tasks.proofs.Words.{true≢false, not-true, cases_Bool, cases_lt, and_parts, flat_map-append, list_any-append, slice_get_within}
use Rattle.fb_tasks.proofs.Words.{none-some, Shape, places, live_cuts, Block, Entry, Wanted, is_delivered, Past, LogSegment, chose, tasks}
use Rattle.fb_tasks.proofs.Words.{registered, Choice, TaskView, view, own_of, chosen_view, is_cleaned, is_choice_of, Work, is_unsealed}
use Rattle.fb_tasks.proofs.Words.{chosen-silent, chosen-view, same_number, numbered, is_better, is_chosen, unchosen, is_busy}
use Rattle.fb_tasks.proofs.Words.{choose_best, choose_once, Session, new_entries, is_none, cuts_of, Cleans, HoldsBlocks, HoldsBlock}
use Rattle.fb_tasks.proofs.Words.{IsPlaced, IsCutFrom, IsBlockOf, IsSegmentOf, AreNumbered, choice_in, kept_segment, CleansBy, HoldsChoice}
use Rattle.fb_tasks.proofs.Words.{Ascend, IsAtNumber, entry_of, Stands, MayChoose, choosable_by, HoldsImage, all_weaker, all_with}
use Rattle.fb_tasks.proofs.Words.{all_append, all_filter, all_pass, all_flat, all_same, ne_eqb, none_of_any, one_or_other, same_Some}
use Rattle.fb_tasks.proofs.Words.{filter_same, nat_tests, or-true, length-map, map-append, nil_from_length, filter-append, Kind, is_backup}
use Rattle.fb_tasks.proofs.Words.{is_clean, ContentRun, runs_of, sectors_of, BackRow, BackSegment, segment_row, segment_rows_found}
use Rattle.fb_tasks.proofs.Words.{is_newly_cleaned, BeginsIn}
use Rattle.fb_tasks.proofs.Words.{found_for, held_at, HasChosenUpTo, HasGrown, HasBegun, HasBegunUpTo, entries_after}
use Rattle.fb_tasks.proofs.Leaving.{grown_not, grown_behind, begun_whole}
use Rattle.fb_tasks.proofs.Registered.{fresh_wanted, no_smaller, numbered_joined, registered-entries, named_same}
use Rattle.fb_tasks.proofs.Cuts.{cuts_own, cuts_numbered, cuts_count}
use Rattle.fb_tasks.proofs.Segmented.{NumberedFrom, at_number, live_placed, live_cover, live_ascend, numbered_given, choice_kept}
use Rattle.fb_tasks.proofs.Segmented.{live_there, live_some, cuts_of_live, sum_without}
use Rattle.fb_tasks.proofs.{Complete.busy_by, States.seen}
use Rattle.fb_clean.specs.Segments as clean
use Rattle.fb_clean.proofs.Live.{live_blocks-count, live_blocks-within}
use Rattle.fb_wanted.specs.Numbering as numbering

-- what holds of a segment that is left to choose
pub record IsLeft (disk : Shape) (v : TaskView) (segment : LogSegment) : Type 0 where
  pub left : is_chosen v.choices segment ≡ false
  pub from_one : 1 ≤ segment.number
  pub there : slice_get v.segments (segment.number - 1) ≡ Some segment
  pub on_disk : IsSegmentOf disk v.terms.block segment

abbrev IsThere : Shape → TaskView → LogSegment → Type 0
IsThere disk v x = (1 ≤ x.number) × (slice_get v.segments (x.number - 1) ≡ Some x) × IsSegmentOf disk v.terms.block x

pub best_left : (disk : Shape) (v : TaskView) (s : LogSegment) (ss : List LogSegment) → NumberedFrom 1 v.segments
    → AllByRecursion (IsSegmentOf disk v.terms.block) v.segments → unchosen v.work ≡ s ∷ ss → IsLeft disk v (best_of is_better s ss)
best_left disk v s ss given on_disk are =
    let both = all_with (λ x. (1 ≤ x.number) × (slice_get v.segments (x.number - 1) ≡ Some x)) (IsSegmentOf disk v.terms.block)
    (IsThere disk v) (λ x n o. (n.0, n.1, o)) v.segments (at_number 1 v.segments given) on_disk in
    let left = all_with (λ x. not (is_chosen v.choices x) ≡ true) (IsThere disk v) (IsLeft disk v)
    (λ x l t. record { left = not-true (is_chosen v.choices x) l; from_one = t.0; there = t.1; on_disk = t.2 })
    (unchosen v.work) (all_pass (λ x. not (is_chosen v.choices x)) v.segments)
    (all_filter (IsThere disk v) (λ x. not (is_chosen v.choices x)) v.segments both) in
    let all = subst (AllByRecursion (IsLeft disk v)) are left in
    all_best (IsLeft disk v) is_better s ss all.0 all.1

-- the blocks that a task registers for a segment
abbrev pub chosen_blocks : Shape → ℕ → TaskView → LogSegment → List Block
chosen_blocks disk task v segment = numbered task v.terms.weight (length v.blocks) (live_cuts disk v.terms.block segment.first segment.live)

abbrev pub chosen_for : Shape → ℕ → TaskView → LogSegment → Choice
chosen_for disk task v segment = record { segment = segment; blocks = chosen_blocks disk task v segment }

numbered_below : (n : ℕ) (bs : List Block) → AreNumbered n bs → AllByRecursion (λ b. b.index < n + length bs) bs
numbered_below n [] h = tt
numbered_below n (b ∷ bs) h = (
  omega (arith, h.0),
  all_weaker (λ c. c.index < n + 1 + length bs) (λ c. c.index < n + length (b ∷ bs)) (λ c less. omega (arith, less)) bs
      (numbered_below (n + 1) bs h.1),
)

-- the blocks of each choice are numbered among those that the task has registered
abbrev pub AreKnown : TaskView → Type 0
AreKnown v = AllByRecursion (λ choice. AllByRecursion (λ block. block.index < length v.blocks) choice.blocks) v.choices

pub known-blocks : (v : TaskView) → AreNumbered 0 v.blocks → v.blocks ≡ flat_map (λ choice. choice.blocks) v.choices → AreKnown v
known-blocks v are_numbered blocks = all_flat (λ block. block.index < length v.blocks) (λ (c : Choice). c.blocks) v.choices
    (subst (AllByRecursion (λ block. block.index < length v.blocks)) blocks
    (all_weaker (λ b. b.index < 0 + length v.blocks) (λ b. b.index < length v.blocks) (λ b less. omega (arith, less)) v.blocks
    (numbered_below 0 v.blocks are_numbered)))

module _ (disk : Shape) (task : ℕ) (v : TaskView) (best : LogSegment) where
  abbrev fresh : List Block
  fresh = chosen_blocks disk task v best

  abbrev choice : Choice
  choice = chosen_for disk task v best

  abbrev new : TaskView
  new = chosen_view task (chosen_for disk task v best) v

  pub added_own : AllByRecursion (λ block. block.task ≡ task) (chosen_blocks disk task v best)
  added_own = cuts_own task v.terms.weight (length v.blocks) (live_cuts disk v.terms.block best.first best.live)

  pub added_numbered : AreNumbered (length v.blocks) (chosen_blocks disk task v best)
  added_numbered = cuts_numbered task v.terms.weight (length v.blocks) (live_cuts disk v.terms.block best.first best.live)

  -- the segment is kept as chosen
  kept_all : (ss : List LogSegment) → clean.without best.number (map (kept_segment v.work) ss) ≡ map (kept_segment new.work) ss
  kept_all [] = refl
  kept_all (s ∷ ss) = grind (arith, nat_tests, kept_all ss, list_any-append (is_choice_of s) v.choices (choice ∷ []))

  -- the blocks before stay, and the new ones are wanted
  old_bare : (block : Block) → block.index < length v.blocks
      → (chosen_view task (chosen_for disk task v best) v).bare block ≡ v.bare block
  old_bare block less = rw (no_smaller (own_of task block) (length v.blocks) fresh less added_numbered) refl

  pub new_bare : AllByRecursion (λ block. (chosen_view task (chosen_for disk task v best) v).bare block ≡ Wanted)
      (chosen_blocks disk task v best)
  new_bare = fresh_wanted task fresh v.bare new.bare (λ _. refl) added_own

  pub cleaned_same : AreKnown v → AllByRecursion
      (λ choice. is_cleaned (chosen_view task (chosen_for disk task v best) v).work choice ≡ is_cleaned v.work choice) v.choices
  cleaned_same known = all_weaker (λ (c : Choice). AllByRecursion (λ block. block.index < length v.blocks) c.blocks)
      (λ c. is_cleaned new.work c ≡ is_cleaned v.work c)
      (λ c all. all_same (λ block. is_delivered (new.bare block)) (λ block. is_delivered (v.bare block)) c.blocks
      (all_weaker (λ block. block.index < length v.blocks) (λ block. is_delivered (new.bare block) ≡ is_delivered (v.bare block))
      (λ block less. ap is_delivered (old_bare block less)) c.blocks all)) v.choices known

  -- the new blocks are known too
  pub known-more : AreKnown v → AreKnown (chosen_view task (chosen_for disk task v best) v)
  known-more known =
      let all = length (v.blocks ++ fresh) in
      let longer : all ≡ length v.blocks + length fresh = length-append v.blocks fresh in
      all_append (λ (c : Choice). AllByRecursion (λ block. block.index < all) c.blocks) v.choices (choice ∷ [])
      (all_weaker (λ (c : Choice). AllByRecursion (λ block. block.index < length v.blocks) c.blocks)
      (λ c. AllByRecursion (λ block. block.index < all) c.blocks) (λ c less. all_weaker (λ block. block.index < length v.blocks)
      (λ block. block.index < all) (λ block less. omega (arith, longer)) c.blocks less) v.choices known)
      (subst (λ n. AllByRecursion (λ block. block.index < n) fresh) (sym longer) (numbered_below (length v.blocks) fresh added_numbered), tt)

  module _ (log : clean.Cleaning) (h : Cleans v.work log) (idle : log.unfinished ≡ None) (going : v.closed ≡ false)
      (is_left : IsLeft disk v best) (some : 0 < v.terms.block) (are_numbered : AreNumbered 0 v.blocks) where
    -- nothing is at work
    all_done : v.choices ≡ h.done
    all_done = by h.current h.by where
      by : (current : Option Choice) → CleansBy v.work log h.done current → v.choices ≡ h.done
      by None is = is.chosen ∙ append-nil h.done
      by (Some now) is = absurd (none-some now.segment.number (sym idle ∙ is.unfinished))

    cleaned_all : AllByRecursion (λ c. is_cleaned new.work c ≡ true) h.done
    cleaned_all =
        all_with (λ c. is_cleaned new.work c ≡ is_cleaned v.work c) (λ c. is_cleaned v.work c ≡ true) (λ c. is_cleaned new.work c ≡ true)
        (λ c same e. same ∙ e) h.done (rw all_done at (cleaned_same (known-blocks v are_numbered h.blocks))) h.cleaned

    -- the choices and the blocks with the new one, whether or not it is cleaned at once
    module _ (done : List Choice) (current : Option Choice) (split : v.choices ++ choice ∷ [] ≡ done ++ choice_in current)
        (cleaned : AllByRecursion (λ c. is_cleaned new.work c ≡ true) done)
        (unfinished : Option ℕ) (says : unfinished ≡ option_map (λ c. c.segment.number) current)
        (is_it : AllByRecursion (λ now. (choice ≡ now) × (done ≡ h.done)) (choice_in current)) where
      of_current : (P : Choice → Type 0) → (done ≡ h.done → P choice) → AllByRecursion P (choice_in current)
      of_current P now = all_weaker (λ now. (choice ≡ now) × (done ≡ h.done)) P (λ c is. subst P is.0 (now is.1)) (choice_in current) is_it

      added-by : CleansBy new.work (record (clean.after_choice (Some best.number) log) { unfinished = unfinished }) done current
      added-by =
          let now = record (clean.after_choice (Some best.number) log) { unfinished = unfinished } in record {
            block = h.block;
            chosen = split;
            cleaned = cleaned;
            unfinished = says;
            blocks = rw (flat_map-append, append-nil fresh) (ap (λ bs. bs ++ fresh) h.blocks);
            cut = all_append (IsCutFrom log.block) v.choices (choice ∷ []) h.cut (
              rw h.block (live_cover disk task v.terms.weight v.terms.block (length v.blocks) best.first best.live some),
              tt,
            );
            taken = of_current (HoldsChoice new.work now)
                (λ _. all_weaker (λ b. new.bare b ≡ Wanted) (HoldsBlock new.work (clean.taken_for now best.number))
                (λ b e done. absurd (true≢false (sym done ∙ ap is_delivered e))) fresh new_bare);
            numbers = all_append (λ c. c.segment.number ≤ length v.segments) v.choices (choice ∷ []) h.numbers
                (omega (arith, slice_get_within v.segments (best.number - 1) best is_left.there, is_left.from_one), tt);
            distinct = of_current (λ now. AllByRecursion (λ c. (c.segment.number == now.segment.number) ≡ false) done)
                (λ same. rw (same, sym all_done) (none_of_any (is_choice_of best) v.choices is_left.left));
            ascend = of_current (λ c. Ascend 0 c.blocks)
                (λ _. live_ascend disk task v.terms.weight v.terms.block (length v.blocks) best.first 0 best.live some (omega arith));
            known = of_current (IsAtNumber v.segments) (λ _. is_left.there);
            unreported =
                of_current (λ now. v.reported now.segment.number ≡ false) (λ _. grind (arith, h.reported best.number, is_left.left));
            reported = λ number said. rw (list_any-append, h.reported number said) refl;
            over = λ closed. absurd (true≢false (sym closed ∙ going));
            segments = rw h.segments (kept_all v.segments);
          }

    -- the chosen segment is being cleaned
    pub chosen-by : CleansBy (chosen_view task (chosen_for disk task v best) v).work (clean.after_choice (Some best.number) log) h.done
        (Some (chosen_for disk task v best))
    chosen-by = added-by h.done (Some choice) (ap (λ cs. cs ++ choice ∷ []) all_done) cleaned_all (Some best.number) refl ((refl, refl), tt)

    -- a segment without live blocks is cleaned at once
    pub emptied-by : chosen_blocks disk task v best ≡ []
        → CleansBy (chosen_view task (chosen_for disk task v best) v).work
        (record (clean.after_choice (Some best.number) log) { unfinished = None }) (h.done ++ chosen_for disk task v best ∷ []) None
    emptied-by empty = added-by (h.done ++ choice ∷ []) None (rw (all_done, append-nil) refl)
        (all_append (λ c. is_cleaned new.work c ≡ true) h.done (choice ∷ []) cleaned_all (
          ap (list_all (λ block. is_delivered (new.bare block))) empty,
          tt,
        )) None refl tt

-- the new blocks are registered too
pub chosen-holds : (disk : Shape) (past : Past) (task : ℕ) (best : LogSegment) (session : Session) (held now : List Entry)
    → task < length (tasks past) → (view past task).terms.weight ≤ 1000 → 0 < (view past task).terms.block
    → (view past task).terms.block ≤ 2048 → length (places disk) ≤ 10 ^ 12
    → IsSegmentOf disk (view past task).terms.block best → session.suspended ≡ (view past task).suspended
    → now ≡ held ++ new_entries session (chosen_blocks disk task (view past task) best)
    → HoldsBlocks disk past held → HoldsBlocks disk (chose task best (chosen_blocks disk task (view past task) best) ∷ past) now
chosen-holds disk past task best session held now opened light some short small on_disk says pushed h =
    let v = view past task in
    let blocks = chosen_blocks disk task (view past task) best in
    let own = added_own disk task v best in
    let are_numbered = added_numbered disk task v best in
    let own_now = chosen-view past task best blocks own task refl in
    let others = chosen-silent past task best blocks own in
    let placed = h.placed task in
    let whole : best.first + length best.live * (view past task).terms.block ≤ length (places disk) = rw on_disk.1 on_disk.0 in
    record {
      entries = registered-entries past (chose task best blocks ∷ past) task blocks others (λ block. ap (λ x. x.bare block) own_now)
          (ap (λ x. x.suspended) own_now) placed.numbered are_numbered own session held now says h.entries pushed;
      on_disk = all_append (IsBlockOf disk (length (tasks past))) (registered past) blocks h.on_disk
          (live_placed disk (length (tasks past)) task v.terms.weight v.terms.block
          (length v.blocks) best.first best.live opened light some short whole (omega (arith, whole, small)));
      placed = λ t. one_or_other (λ t. IsPlaced disk (view (chose task best blocks ∷ past) t).work) task t
          (rw own_now (record {
            numbered = numbered_joined 0 v.blocks blocks placed.numbered (subst (λ n. AreNumbered n blocks)
                (let e : length (view past task).blocks ≡ 0 + length (view past task).blocks = omega arith in e) are_numbered);
            segments = placed.segments;
          })) (λ other. rw (others t other) (h.placed t));
      unopened = λ t more. rw (others t (ne_eqb task t (λ e. absurd (omega arith)))) (h.unopened t more);
    }

pub no_backup : (k : Kind) → is_clean k ≡ true → is_backup k ≡ true → ⊥
no_backup k c b = grind arith

-- what the session's choice says of the history
pub record ChoiceStep (disk : Shape) (past : Past) (task number : ℕ) (session : Session) : Type 0 where
  pub best : LogSegment
  pub left : IsLeft disk (view past task) best
  pub number_is : best.number ≡ number
  pub idle : session.log.unfinished ≡ None
  pub once : choose_once disk task past ≡ chose task best (chosen_blocks disk task (view past task) best) ∷ past

-- what a choice registers it could register before
pub next_view : (disk : Shape) (past : Past) (task : ℕ) (best : LogSegment)
    → view (chose task best (chosen_blocks disk task (view past task) best) ∷ past) task
    ≡ chosen_view task (chosen_for disk task (view past task) best) (view past task)
next_view disk past task best =
    chosen-view past task best (chosen_blocks disk task (view past task) best) (added_own disk task (view past task) best) task refl

-- of what is left to choose the choice takes its segment
pub left_less : (f : LogSegment → ℕ) (disk : Shape) (task : ℕ) (v : TaskView) (best : LogSegment) → IsLeft disk v best
    → sum_by f (unchosen (chosen_view task (chosen_for disk task v best) v).work) + f best ≤ sum_by f (unchosen v.work)
left_less f disk task v best left =
    sum_without f (λ s. not (is_chosen v.choices s)) (λ s. not (is_chosen (v.choices ++ chosen_for disk task v best ∷ []) s)) (λ s h.
    grind (arith, list_any-append (is_choice_of s) v.choices (chosen_for disk task v best ∷ []))) v.segments
    (best.number - 1) best left.there (ap not left.left) (ap not chosen_now) where
      chosen_now : is_chosen (v.choices ++ chosen_for disk task v best ∷ []) best ≡ true
      chosen_now = rw (
        list_any-append (is_choice_of best) v.choices (chosen_for disk task v best ∷ []),
        same_number best.number best.number refl,
      ) (or-true (is_chosen v.choices best))

pub few_less : (disk : Shape) (past : Past) (task : ℕ) (best : LogSegment) → IsLeft disk (view past task) best
    → length (registered past ++ chosen_blocks disk task (view past task) best) + choosable_by disk
    (chose task best (chosen_blocks disk task (view past task) best) ∷ past) task ≤ length (registered past) + choosable_by disk past task
few_less disk past task best left =
    let v = view past task in
    let fewer = left_less (λ (s : LogSegment). length (live_cuts disk (view past task).terms.block s.first s.live)) disk task v best left in
    let given : choosable_by disk (chose task best (chosen_blocks disk task (view past task) best) ∷ past) task
    ≡ sum_by (λ (s : LogSegment). length (live_cuts disk (view past task).terms.block s.first s.live)) (unchosen
    (chosen_view task (chosen_for disk task (view past task) best) (view past task)).work) = rw (next_view disk past task best) refl in
    omega (
      arith,
      fewer,
      given,
      length-append (registered past) (chosen_blocks disk task v best),
      cuts_count task v.terms.weight (length v.blocks) (live_cuts disk v.terms.block best.first best.live),
    )

-- the row of a cleaned segment
abbrev pub segment_row_of : Work → ℕ → ℕ → Choice → BackRow
segment_row_of w now task choice = segment_row now task (found_for w choice.blocks) choice

abbrev pub segment_rows_of : Work → ℕ → ℕ → List BackRow
segment_rows_of w now task = map (segment_row_of w now task) (filter (is_newly_cleaned w) w.choices)

pub segment_rows_is : (past : Past) (now task : ℕ) → segment_rows_found past now task ≡ segment_rows_of (view past task).work now task
unfolding view
segment_rows_is past now task = refl

abbrev pub best_of_left : Shape → ℕ → Past → List LogSegment → Past
best_of_left disk task past [] = past
best_of_left disk task past (s ∷ ss) =
    chose task (best_of is_better s ss) (chosen_blocks disk task (view past task) (best_of is_better s ss)) ∷ past

pub once_is : (disk : Shape) (past : Past) (task : ℕ) → choose_once disk task past
    ≡ (if is_busy (view past task).work then past else best_of_left disk task past (unchosen (view past task).work))
unfolding view
once_is disk past task = by_left (unchosen (view past task).work) where
  by_left : (left : List LogSegment) → (if is_busy (view past task).work then past else choose_best disk task past left)
      ≡ (if is_busy (view past task).work then past else best_of_left disk task past left)
  by_left [] = refl
  by_left (s ∷ ss) = refl

-- the choices before one give the rows that they gave
pub rows-chosen : (disk : Shape) (past : Past) (task : ℕ) (best : LogSegment) → AreKnown (view past task) → (now : ℕ)
    → segment_rows_found (chose task best (chosen_blocks disk task (view past task) best) ∷ past) now task
    ≡ segment_rows_found past now task ++ map
    (segment_row_of (chosen_view task (chosen_for disk task (view past task) best) (view past task)).work now task)
    (filter (is_newly_cleaned (chosen_view task (chosen_for disk task (view past task) best) (view past task)).work)
    (chosen_for disk task (view past task) best ∷ []))
rows-chosen disk past task best known now =
    let v = view past task in
    let new = chosen_view task (chosen_for disk task v best) v in
    let same = filter_same (is_newly_cleaned new.work) (is_newly_cleaned v.work) v.choices
    (all_weaker (λ choice. is_cleaned new.work choice ≡ is_cleaned v.work choice)
    (λ choice. is_newly_cleaned new.work choice ≡ is_newly_cleaned v.work choice)
    (λ choice same. ap (λ b. b && not (v.reported choice.segment.number)) same) v.choices (cleaned_same disk task v best known)) in
    segment_rows_is (chose task best (chosen_blocks disk task v best) ∷ past) now task
    ∙ (ap (λ v. segment_rows_of v.work now task) (next_view disk past task best)
    ∙ rw (segment_rows_is past now task, filter-append, map-append, same) refl)

live_left : (n : ℕ) (ss : List clean.LogSegment)
    → map (λ (s : clean.LogSegment). s.live) (clean.without n ss) ≡ map (λ (s : clean.LogSegment). s.live) ss
live_left n [] = refl
live_left n (s ∷ ss) = grind (arith, live_left n ss)

module _ {disk : Shape} {past : Past} {task : ℕ} {session : Session} {held : List Entry}
    (cleans : (is_clean session.kind ≡ true) × (session.closed ≡ false)) (may : MayChoose disk past task session held) where
  abbrev v : TaskView
  v = view past task

  abbrev added : LogSegment → List Block
  added best = chosen_blocks disk task (view past task) best

  abbrev next : LogSegment → Past
  next best = chose task best (chosen_blocks disk task (view past task) best) ∷ past

  abbrev after : LogSegment → TaskView
  after best = chosen_view task (chosen_for disk task (view past task) best) (view past task)

  going : (view past task).closed ≡ false
  going = sym may.stands.closed ∙ cleans.1

  log_is : Cleans (view past task).work session.log
  log_is = may.stands.log cleans.0

  -- what the session's choice says of the history
  pub choice-step : (number : ℕ) → clean.choice_of session.log ≡ Some number → ChoiceStep disk past task number session
  choice-step number is = by_left (unchosen v.work) refl where
    idle : session.log.unfinished ≡ None
    idle = grind (arith, is)

    free : is_busy (view past task).work ≡ false
    free = not-true (is_busy (view past task).work) (sym (may.at_work cleans.0) ∙ ap is_none idle)

    by_left : (left : List LogSegment) → unchosen v.work ≡ left → ChoiceStep disk past task number session
    by_left [] are = absurd (none-some number (sym (choice_kept v.work going session.log log_is.segments idle [] are) ∙ is))
    by_left (s ∷ ss) are = record {
      best = best_of is_better s ss;
      left = best_left disk v s ss (rw (seen past task).segments (numbered_given past task)) (may.blocks.placed task).segments are;
      number_is = same_Some (best_of is_better s ss).number number
          (sym (choice_kept v.work going session.log log_is.segments idle (s ∷ ss) are) ∙ is);
      idle = idle;
      once = rw (once_is disk past task, free, are) refl;
    }

  -- where the session chooses nothing the history doesn't
  pub none-step : clean.choice_of session.log ≡ None → choose_once disk task past ≡ past
  none-step is = rw (once_is disk past task) (elim (cases_Bool (is_busy v.work)) [
    | inl busy ↦ rw busy refl
    | inr free ↦ rw free (by_left free (unchosen v.work) refl)
  ]) where
    by_left : is_busy v.work ≡ false → (left : List LogSegment) → unchosen v.work ≡ left
        → best_of_left disk task past (unchosen v.work) ≡ past
    by_left free [] are = rw are refl
    by_left free (s ∷ ss) are = absurd (none-some (best_of is_better s ss).number
        (sym is ∙ choice_kept v.work going session.log log_is.segments (grind (arith, may.at_work cleans.0, free)) (s ∷ ss) are))

  pub none-chosen : (log : clean.Cleaning) (now : ℕ) (rows : List BackRow) → clean.choice_of session.log ≡ None → log ≡ session.log
      → HasChosenUpTo disk past (choose_once disk task past) task now (record session { log = log }) held rows rows
  none-chosen log now rows is same = rw (none-step is, same) (record { may = may; rows = λ before so_far. so_far })

  -- a chosen session stands as it did, but for its log
  chosen-stands : (best : LogSegment) (log : clean.Cleaning) → Cleans (after best).work log
      → Stands (after best) (record session { log = log })
  chosen-stands best log now =
      let h = may.stands in
      let ascend : is_backup session.kind ≡ true
      → Ascend 0 (after best).blocks = λ backup. absurd (no_backup session.kind cleans.0 backup) in
      let unwanted : is_backup session.kind ≡ true → v.wants ≡ false
      → (after best).blocks ≡ [] = λ backup. absurd (no_backup session.kind cleans.0 backup) in
      let image : is_unsealed v ≡ true → HoldsImage (after best).work (held_at session.image) = λ is_open.
      absurd (no_backup session.kind cleans.0
      (ap (λ t. is_backup t.kind) (sym h.terms) ∙ (and_parts (is_backup v.terms.kind) (not v.sealed) is_open).0)) in
      let near : is_unsealed v ≡ true → AllByRecursion (BeginsIn session.chunks) (after best).blocks = λ is_open.
      absurd (no_backup session.kind cleans.0
      (ap (λ t. is_backup t.kind) (sym h.terms) ∙ (and_parts (is_backup v.terms.kind) (not v.sealed) is_open).0)) in
      let log_now = λ (_ : is_clean session.kind ≡ true). now in
      let unchosen : is_clean session.kind ≡ false → (after best).choices ≡ [] = λ other. absurd (true≢false (sym cleans.0 ∙ other)) in
      assumption (ascend, unwanted, image, near, log_now, unchosen, h)

  -- a new block is not delivered, so its choice is not cleaned
  uncleaned : (best : LogSegment) → 0 < length (added best) → is_cleaned (after best).work (chosen_for disk task v best) ≡ false
  uncleaned best some = first_wanted (added best) some (new_bare disk task v best) where
    first_wanted : (bs : List Block) → 0 < length bs → AllByRecursion (λ b. (after best).bare b ≡ Wanted) bs
        → list_all (λ b. is_delivered ((after best).bare b)) bs ≡ false
    first_wanted [] h all = absurd (omega arith)
    first_wanted (b ∷ bs) h all = rw all.0 refl

  known : AreKnown (view past task)
  known = known-blocks v (may.blocks.placed task).numbered log_is.blocks

  -- the choices before it give the rows that they gave
  rows_now : (best : LogSegment) (now : ℕ) → segment_rows_found (next best) now task
      ≡ segment_rows_found past now task
      ++ map (segment_row_of (after best).work now task) (filter (is_newly_cleaned (after best).work) (chosen_for disk task v best ∷ []))
  rows_now best = rows-chosen disk past task best known

  module _ (number : ℕ) (step : ChoiceStep disk past task number session) (log : clean.Cleaning)
      (taken : log ≡ clean.after_choice (Some number) session.log) where
    -- the live blocks of the chosen segment
    live-now : clean.live_of log number ≡ clean.live_blocks session.block step.best.first step.best.live
    live-now = rw (
      taken,
      live_left number session.log.segments,
      log_is.segments,
      sym step.number_is,
      live_there v.work v.segments step.best step.left.there,
      may.stands.terms,
    ) refl

    cuts_now : cuts_of disk session.block (clean.live_of log number) ≡ live_cuts disk v.terms.block step.best.first step.best.live
    cuts_now = rw (live-now, cuts_of_live disk session.block step.best.first step.best.live, may.stands.terms) refl

    pub live-on_disk : AllByRecursion (λ lbn. lbn + session.block ≤ length (places disk)) (clean.live_of log number)
    live-on_disk =
        let whole : step.best.first + length step.best.live * session.block ≤ length (places disk) =
        rw step.left.on_disk.1 (rw may.stands.terms at step.left.on_disk.0) in
        rw live-now (live_blocks-within session.block step.best.first (length (places disk)) step.best.live whole)

    pub live-few : length held + length (cuts_of disk session.block (clean.live_of log number)) ≤ 16000000
    live-few =
        let one = sum_without (λ s. length (live_cuts disk v.terms.block s.first s.live)) (λ s. not (is_chosen v.choices s)) (λ s. false)
        (λ s e. absurd (true≢false (sym e)))
        v.segments (step.best.number - 1) step.best step.left.there (ap not step.left.left) refl in
        omega (arith, one, may.few, ap length may.blocks.entries, length-map (registered past) (entry_of past), ap length cuts_now)

    module _ (small : length (places disk) ≤ 10 ^ 12) (now : List Entry)
        (pushed : now ≡ held ++ new_entries session (numbered task session.weight
        (numbering.registered_count task (numbering.blocks_of held)) (cuts_of disk session.block (clean.live_of log number))))
        (instant : ℕ) (old : List BackRow) where
      log_at : log ≡ clean.after_choice (Some step.best.number) session.log
      log_at = rw step.number_is taken

      some_block : 0 < (view past task).terms.block
      some_block = rw may.stands.terms may.stands.block.0

      -- what is registered are the history's blocks
      holds_now : HoldsBlocks disk (next step.best) now
      holds_now =
          let many : numbering.registered_count task (numbering.blocks_of held) ≡ length v.blocks =
          rw (may.blocks.entries, named_same past (registered past), (seen past task).blocks) refl in
          let blocks : numbered task session.weight (numbering.registered_count task (numbering.blocks_of held))
          (cuts_of disk session.block (clean.live_of log number)) ≡ added step.best =
          rw (cuts_now, many, may.stands.terms) refl in
          chosen-holds disk past task step.best session held now opened (rw may.stands.terms may.stands.weight) some_block
          (rw may.stands.terms may.stands.block.1) small
          step.left.on_disk may.stands.suspended (pushed ∙ rw blocks refl) may.blocks where
            -- a task with a segment was opened
            opened : task < length (tasks past)
            opened = elim (cases_lt task (length (tasks past))) [
              | inl less ↦ less
              | inr beyond ↦ absurd (none-some step.best (rw (may.blocks.unopened task beyond).segments at step.left.there))
            ]

      -- where not all of them are registered, or the segment's row is not added
      pub begun-one : {new : List Entry} {more : List BackRow} → HasBegun held (new_entries session (numbered task session.weight
          (numbering.registered_count task (numbering.blocks_of held)) (cuts_of disk session.block (clean.live_of log number)))) new
          → more ≡ old → HasBegunUpTo past (choose_once disk task past) task instant held new old more
      begun-one {new} {more} h same =
          let all : entries_after (next step.best) ≡ new ++ h.left =
          sym holds_now.entries ∙ (pushed ∙ begun_whole h) in
          rw step.once (record {
            blocks = (record { added = h.added; is = h.is }, record { added = h.left; is = all });
            rows = λ before so_far.
                let longer : HasGrown (segment_rows_found past instant task) (segment_rows_found (next step.best) instant task) =
                record { added = _; is = rows_now step.best instant } in (
                  subst (HasGrown old) (sym same) (grown_not old),
                  subst (λ rows. HasGrown rows (before ++ segment_rows_found (next step.best) instant task)) (sym (same ∙ so_far))
                      (grown_behind before longer),
                );
          })

      few_now : length (registered past ++ added step.best) + choosable_by disk (next step.best) task ≤ 16 * 10 ^ 6
      few_now = omega (arith, few_less disk past task step.best step.left, may.few)

      -- how many live blocks there are
      live_length : length (clean.live_of log number) ≡ length (clean.live_blocks v.terms.block step.best.first step.best.live)
      live_length = rw (live-now, may.stands.terms) refl

      -- some give blocks: their segment is not cleaned, and has no row
      pub live-chosen : 0 < length (clean.live_of log number)
          → HasChosenUpTo disk past (choose_once disk task past) task instant (record session { log = log }) now old old
      live-chosen some =
          let chosen =
          chosen-by disk task v step.best session.log log_is step.idle going step.left some_block (may.blocks.placed task).numbered in
          let some_added : 0 < length (added step.best) = omega (
            arith,
            cuts_count task v.terms.weight (length v.blocks) (live_cuts disk v.terms.block step.best.first step.best.live),
            live_some disk v.terms.block step.best.first step.best.live some_block (omega (arith, some, live_length)),
          ) in
          let open_still = uncleaned step.best some_added in
          rw step.once (record {
            may = record {
              blocks = holds_now;
              stands = rw (next_view disk past task step.best) (chosen-stands step.best log
                  (rw log_at (record { done = log_is.done; current = Some (chosen_for disk task v step.best); by = chosen })));
              at_work = λ _. rw (log_at, next_view disk past task step.best, busy_by chosen, open_still) refl;
              few = few_now;
            };
            rows = λ before so_far. rw (rows_now step.best instant, open_still, append-nil) so_far;
          })

      -- none gives no blocks: its segment is cleaned, and has its row
      pub empty-chosen : (rows : List BackRow) (content : List ContentRun) → length (clean.live_of log number) ≡ 0 → content ≡ []
          → rows ≡ old ++ BackSegment (record {
            task = task;
            segment = number;
            instant = instant;
            live = length
                (clean.live_of log number);
            content = content;
          }) ∷ []
          → HasChosenUpTo disk past (choose_once disk task past) task instant
          (record session { log = record log { unfinished = None } }) now old rows
      empty-chosen rows content none nothing rows_are =
          let live_none : clean.live_blocks v.terms.block step.best.first step.best.live ≡ [] =
          nil_from_length (clean.live_blocks v.terms.block step.best.first step.best.live) (sym live_length ∙ none) in
          let empty : added step.best ≡ [] = rw (← cuts_of_live disk v.terms.block step.best.first step.best.live, live_none) refl in
          let emptied =
          emptied-by disk task v step.best session.log log_is step.idle going step.left some_block (may.blocks.placed task).numbered
          empty in
          let cleaned : is_cleaned (after step.best).work (chosen_for disk task v step.best) ≡ true =
          ap (list_all (λ block. is_delivered ((after step.best).bare block))) empty in
          let silent : v.reported step.best.number ≡ false = grind (arith, log_is.reported step.best.number, step.left.left) in
          let found : found_for (after step.best).work (added step.best) ≡ [] =
          ap (λ bs. runs_of (flat_map (λ block. sectors_of ((after step.best).found block)) bs)) empty in
          rw step.once (record {
            may = record {
              blocks = holds_now;
              stands = rw (next_view disk past task step.best) (chosen-stands step.best (record log { unfinished = None })
                  (rw log_at (record { done = log_is.done ++ chosen_for disk task v step.best ∷ []; current = None; by = emptied })));
              at_work = λ _. rw (next_view disk past task step.best, busy_by emptied) refl;
              few = few_now;
            };
            rows = λ before so_far. rw (
              rows_now step.best instant,
              cleaned,
              silent,
              rows_are,
              so_far,
              nothing,
              found,
              live_length,
              live_blocks-count,
              sym step.number_is,
              append_assoc,
            ) refl;
          })
