-- A chosen segment is finished where each of its blocks is delivered.
use Rattle.std.proofs.lemmas.Grind.{flat_map-append}
use Rattle.fb_units.proofs.Counts.{filter-le}
use Rattle.fb_units.proofs.Filtered.{all_kept}
use Rattle.fb_tasks.proofs.Words.{◌≡◌, ℕ, ◌==◌, not, if◌then◌else◌, List, [], ◌∷◌, ◌++◌, Bool, true, false, Some, None, Option, inl}
use Rattle.fb_tasks.proofs.Words.{inr, length, filter, append-nil, refl, ap, sym, ◌∙◌, arith, AllByRecursion, flat_map, list_any}
use Rattle.fb_tasks.proofs.Words.{range_with_len, option_map, cases_Bool, true≢false, filter-append, none-some, Shape, is_clean, BackRow}
use Rattle.fb_tasks.proofs.Words.{BackSegment, ContentRun, held_sector, held_in, runs_of, sectors_of, Block, Counts, Entry, is_delivered}
use Rattle.fb_tasks.proofs.Words.{counts_of, Past, Choice, Work, view, is_cleaned, segment_rows_found, is_newly_cleaned}
use Rattle.fb_tasks.proofs.Words.{Session, is_none, found_for, Stands, Cleans, MayFinish, IsAtWork, IsCutFrom, HoldsBlock}
use Rattle.fb_tasks.proofs.Words.{choice_in, CleansBy, all_weaker, all_with, all_append, all_left, all_right, all_flat, flat_all, flat_same}
use Rattle.fb_tasks.proofs.Words.{same_Some, none_kept, each_all, list_all_each, other_number}
use Rattle.fb_tasks.proofs.{Complete.counts_same, Complete.busy_by, Segmented.live_there, RowsOf.reported_rows}
use Rattle.fb_clean.specs.Segments as clean
use Rattle.fb_clean.proofs.Live.{live_blocks-count}

filter_whole : {X : Type 0} (p : X → Bool) (xs : List X) → AllByRecursion (λ x. p x ≡ true) xs → length (filter p xs) ≡ length xs
filter_whole p xs h = ap length (all_kept p xs h)

whole_filter : {X : Type 0} (p : X → Bool) (xs : List X) → length (filter p xs) ≡ length xs → AllByRecursion (λ x. p x ≡ true) xs
whole_filter p [] h = tt
whole_filter p (x ∷ xs) h = grind (arith, filter-le p xs, whole_filter p xs)

flat_flat : {X Y Z : Type 0} (f : Y → List Z) (g : X → List Y) (xs : List X)
    → flat_map f (flat_map g xs) ≡ flat_map (λ x. flat_map f (g x)) xs
flat_flat f g [] = refl
flat_flat f g (x ∷ xs) = rw (flat_map-append, flat_flat f g xs) refl

abbrev pub IsCleanedIn : Work → Choice → Type 0
IsCleanedIn w choice = is_cleaned w choice ≡ true

-- each block is delivered where each choice is cleaned, and the other way round
all_cleaned : (w : Work) (cs : List Choice)
    → AllByRecursion (λ block. is_delivered (w.bare block) ≡ true) (flat_map (λ choice. choice.blocks) cs)
    → AllByRecursion (IsCleanedIn w) cs
all_cleaned w cs h = all_weaker (λ (choice : Choice). AllByRecursion (λ block. is_delivered (w.bare block) ≡ true) choice.blocks)
    (IsCleanedIn w) (λ choice each. each_all (λ block. is_delivered (w.bare block)) choice.blocks each) cs
    (all_flat (λ block. is_delivered (w.bare block) ≡ true) (λ (choice : Choice). choice.blocks) cs h)

pub cleaned_all : (w : Work) (cs : List Choice) → AllByRecursion (IsCleanedIn w) cs
    → AllByRecursion (λ block. is_delivered (w.bare block) ≡ true) (flat_map (λ choice. choice.blocks) cs)
cleaned_all w cs h = flat_all (λ block. is_delivered (w.bare block) ≡ true) (λ (choice : Choice). choice.blocks) cs
    (all_weaker (IsCleanedIn w) (λ (choice : Choice). AllByRecursion (λ block. is_delivered (w.bare block) ≡ true) choice.blocks)
    (λ choice all. list_all_each (λ block. is_delivered (w.bare block)) choice.blocks all) cs h)

-- what a test of the segment makes of a session and its rows
pub record IsSegmentTested (past : Past) (task now : ℕ) (session : Session) (added : List BackRow) : Type 0 where
  pub stands : Stands (view past task) session
  pub at_work : IsAtWork (view past task).work session
  pub rows : added ≡ segment_rows_found past now task

abbrev not_newly : Work → Choice → Type 0
not_newly w choice = is_newly_cleaned w choice ≡ false

module _ {disk : Shape} {past : Past} {task : ℕ} {held : List Entry} (session : Session) (h : MayFinish disk past task session held)
    (now : ℕ) where
  other_tested : is_clean session.kind ≡ false → IsSegmentTested past task now session []
  other_tested other = record {
    stands = h.stands;
    at_work = λ cleans. absurd (true≢false (sym cleans ∙ other));
    rows = sym (reported_rows past now task (rw (h.stands.unchosen other) tt));
  }

  -- the row of a finished segment
  abbrev row_of : ℕ → ℕ → List ContentRun → BackRow
  row_of segment live content = BackSegment (record { task = task; segment = segment; instant = now; live = live; content = content })

  module _ (cleans : is_clean session.kind ≡ true) where
    abbrev w : Work
    w = (view past task).work

    log : Cleans (view past task).work session.log
    log = h.stands.log cleans

    abbrev IsSilent : Choice → Type 0
    IsSilent choice = (session.log.unfinished ≡ Some choice.segment.number → ⊥) → not_newly w choice

    done_silent : (current : Option Choice) → CleansBy w session.log log.done current → AllByRecursion (not_newly w) log.done
    done_silent current by = silent current by (all_left IsSilent log.done (choice_in current) (rw by.chosen at h.reported)) where
      silent : (current : Option Choice) → CleansBy w session.log log.done current → AllByRecursion IsSilent log.done
          → AllByRecursion (not_newly w) log.done
      silent None by =
          all_weaker IsSilent (not_newly w) (λ choice one. one (λ e. none-some choice.segment.number (sym by.unfinished ∙ e))) log.done
      silent (Some current) by = all_with (λ choice. (choice.segment.number == current.segment.number) ≡ false) IsSilent (not_newly w)
          (λ choice other one. one (λ e. other_number choice.segment.number current.segment.number other
          (same_Some choice.segment.number current.segment.number (sym e ∙ by.unfinished)))) log.done by.distinct.0

    -- no segment is finished
    unfinished_tested : (current : Option Choice) → CleansBy w session.log log.done current
        → AllByRecursion (λ choice. is_cleaned w choice ≡ false) (choice_in current) → IsSegmentTested past task now session []
    unfinished_tested current by not_yet = record {
      stands = h.stands;
      at_work = λ _. rw (by.unfinished, busy_by by) (at_work current not_yet);
      rows = sym (reported_rows past now task
          (rw by.chosen (all_append (not_newly w) log.done (choice_in current) (done_silent current by)
          (all_weaker (λ choice. is_cleaned w choice ≡ false) (not_newly w) (λ choice e. rw e refl) (choice_in current) not_yet))));
    } where
      at_work : (current : Option Choice) → AllByRecursion (λ choice. is_cleaned w choice ≡ false) (choice_in current)
          → is_none (option_map (λ choice. choice.segment.number) current)
          ≡ not (list_any (λ choice. not (is_cleaned w choice)) (choice_in current))
      at_work None not_yet = refl
      at_work (Some current) not_yet = rw not_yet.0 refl

    module _ (current : Choice) (by : CleansBy w session.log log.done (Some current)) (cleaned : is_cleaned w current ≡ true) where
      finished-cleans : Cleans w (record session.log { unfinished = None })
      finished-cleans =
          let chosen = by.chosen ∙ sym (append-nil (log.done ++ current ∷ [])) in
          let all = all_append (IsCleanedIn w) log.done (current ∷ []) log.cleaned (cleaned, tt) in
          record { done = log.done ++ current ∷ []; current = None; by = assumption (chosen, all, by) }

      lives : clean.live_of session.log current.segment.number
          ≡ clean.live_blocks session.log.block current.segment.first current.segment.live
      lives = rw (by.segments, live_there w w.segments current.segment by.known.0, by.block) refl

      -- what was taken for the segment is what the deliveries of its blocks found
      found : runs_of (clean.packed_sectors session.log current.segment.number) ≡ found_for w current.blocks
      found =
          let held_now = clean.taken_for session.log current.segment.number in
          let cut = (all_right (IsCutFrom session.log.block) log.done (current ∷ []) (rw by.chosen at by.cut)).0 in
          let same = flat_same (λ (part : Block). held_in held_now (range_with_len part.lbn part.count))
          (λ block. sectors_of (w.found block)) current.blocks
          (all_with (λ block. is_delivered (w.bare block) ≡ true) (HoldsBlock w held_now)
          (λ (block : Block). held_in held_now (range_with_len block.lbn block.count) ≡ sectors_of (w.found block))
          (λ block done holds. holds done) current.blocks
          (list_all_each (λ block. is_delivered (w.bare block)) current.blocks cleaned) by.taken.0) in
          rw (
            lives,
            ← flat_flat (λ lbn. held_sector lbn (held_now lbn)) (λ lbn. range_with_len lbn session.log.block),
            ← cut,
            flat_flat (λ lbn. held_sector lbn (held_now lbn)) (λ (part : Block). range_with_len part.lbn part.count) current.blocks,
            same,
          ) refl

      finished_tested : (new : Session) (segment : ℕ) (content : List ContentRun)
          → new ≡ record session { log = record session.log { unfinished = None } } → session.log.unfinished ≡ Some segment
          → content ≡ runs_of (clean.packed_sectors session.log segment)
          → IsSegmentTested past task now new (row_of segment (length (clean.live_of session.log segment)) content ∷ [])
      unfolding view
      finished_tested new segment content is says gives =
          let same : segment ≡ current.segment.number = same_Some segment current.segment.number (sym says ∙ by.unfinished) in
          let log_now = λ (_ : is_clean session.kind ≡ true). finished-cleans in
          rw is (record {
            stands = assumption (log_now, h.stands);
            at_work = λ _. rw (busy_by by, cleaned) refl;
            rows = rw (
              gives,
              same,
              found,
              lives,
              live_blocks-count,
              by.chosen,
              filter-append,
              none_kept (is_newly_cleaned w) log.done (done_silent (Some current) by),
              cleaned,
              by.unreported.0,
            ) refl;
          })

    -- each choice is cleaned just where all blocks are delivered
    all_done : (counts : Counts) → counts ≡ counts_of task held → counts.delivered ≡ counts.registered
        → AllByRecursion (IsCleanedIn w) w.choices
    all_done counts is equal =
        let same = is ∙ counts_same past task held h.blocks.entries in
        all_cleaned w w.choices (rw log.blocks at (whole_filter (λ block. is_delivered (w.bare block)) w.blocks
        (sym (ap (λ c. c.delivered) same) ∙ (equal ∙ ap (λ c. c.registered) same))))

    all_delivered : (counts : Counts) → counts ≡ counts_of task held → AllByRecursion (IsCleanedIn w) w.choices → counts.delivered
        ≡ counts.registered
    all_delivered counts is all =
        let same = is ∙ counts_same past task held h.blocks.entries in
        ap (λ c. c.delivered) same
        ∙ (filter_whole (λ block. is_delivered (w.bare block)) w.blocks (rw log.blocks (cleaned_all w w.choices all))
        ∙ sym (ap (λ c. c.registered) same))

  -- where no chosen segment is cleaned none is finished
  open_tested : ((cleans : is_clean session.kind ≡ true) (current : Choice)
      → CleansBy (w cleans) session.log (log cleans).done (Some current) → is_cleaned (w cleans) current ≡ true → ⊥)
      → IsSegmentTested past task now session []
  open_tested none = elim (cases_Bool (is_clean session.kind)) [
    | inl cleans ↦ by cleans (log cleans).current
        (log cleans).by
    | inr other ↦ other_tested other
  ] where
    by : (cleans : is_clean session.kind ≡ true) (current : Option Choice) → CleansBy (w cleans) session.log (log cleans).done current
        → IsSegmentTested past task now session []
    by cleans None is = unfinished_tested cleans None is tt
    by cleans (Some current) is = elim (cases_Bool (is_cleaned (w cleans) current)) [
      | inl cleaned ↦ absurd (none cleans current is cleaned)
      | inr not_yet ↦ unfinished_tested cleans (Some current) is (not_yet, tt)
    ]

  pub unequal_tested : (counts : Counts) → counts ≡ counts_of task held → (counts.delivered ≡ counts.registered → ⊥)
      → IsSegmentTested past task now session []
  unequal_tested counts is differ = open_tested (λ cleans current by cleaned. differ (all_delivered cleans counts is
      (rw by.chosen (all_append (IsCleanedIn (w cleans)) (log cleans).done (current ∷ []) (log cleans).cleaned (cleaned, tt)))))

  pub unchosen_tested : (if is_clean session.kind then session.log.unfinished else None) ≡ None → IsSegmentTested past task now session []
  unchosen_tested none = open_tested (λ cleans current by cleaned. none-some current.segment.number
      (sym (rw cleans at none) ∙ by.unfinished))

  pub chosen_tested : (counts : Counts) → counts ≡ counts_of task held → counts.delivered ≡ counts.registered
      → (new : Session) (segment : ℕ) (content : List ContentRun) → new ≡ record session { log = record session.log { unfinished = None } }
      → (if is_clean session.kind then session.log.unfinished else None) ≡ Some segment
      → content ≡ runs_of (clean.packed_sectors session.log segment)
      → IsSegmentTested past task now new (row_of segment (length (clean.live_of session.log segment)) content ∷ [])
  chosen_tested counts is equal new segment content new_is says gives = elim (cases_Bool (is_clean session.kind)) [
    | inl cleans ↦ by cleans (rw cleans at says) (log cleans).current (log cleans).by
    | inr other ↦ absurd (none-some segment (rw other at says))
  ] where
    by : (cleans : is_clean session.kind ≡ true) → session.log.unfinished ≡ Some segment → (current : Option Choice)
        → CleansBy (w cleans) session.log (log cleans).done current
        → IsSegmentTested past task now new (row_of segment (length (clean.live_of session.log segment)) content ∷ [])
    by cleans says None this = absurd (none-some segment (sym this.unfinished ∙ says))
    by cleans says (Some current) this =
        let cleaned = (all_right (IsCleanedIn (w cleans)) (log cleans).done (current ∷ [])
        (rw this.chosen at (all_done cleans counts is equal))).0 in
        finished_tested cleans current this cleaned new segment content new_is says gives
