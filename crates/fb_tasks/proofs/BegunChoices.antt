-- Each choice leaves blocks and rows as they are and adds to them, so what was begun when memory ran out is the first of what was due.
use Rattle.std.proofs.lemmas.List.Sums.{fold-append}
use Rattle.fb_units.proofs.Parts.{range-append}
use Rattle.fb_tasks.proofs.Words.{◌≡◌, ℕ, ◌+◌, ◌-◌, ◌<◌, ◌≤◌, ◌&&◌, not, List, ◌∷◌, ◌++◌, true, Some, length, map, drop, slice_get, append-nil}
use Rattle.fb_tasks.proofs.Words.{refl, ap, sym, ◌∙◌, arith, inl, inr, subst, cases_Bool, length-map, map-append, drop-append_seam, fold}
use Rattle.fb_tasks.proofs.Words.{range_with_len, flat_map, flat_same, all_range, step_to, one_or_other, best_of, slice_get_within, Shape}
use Rattle.fb_tasks.proofs.Words.{is_clean, Entry, BackRow, Past, LogSegment, chose, tasks, task_numbers, registered, view, chosen-silent}
use Rattle.fb_tasks.proofs.Words.{choose_once, choose_up_to, choose_in, with_choices, is_better, segment_rows_found, Session, entry_of}
use Rattle.fb_tasks.proofs.Words.{AreNumbered, HoldsBlocks, MayChoose, HasChosenUpTo, MaySettle, HasGrown, HasBegun, HasBegunUpTo}
use Rattle.fb_tasks.proofs.Words.{entries_after, entries_chosen}
use Rattle.fb_tasks.proofs.Leaving.{grown_not, grown_more, grown_behind, begun_between, begun_each}
use Rattle.fb_tasks.proofs.Registered.{numbered_joined, old-entries}
use Rattle.fb_tasks.proofs.ChoiceSteps.{AreKnown, known-blocks, known-more, chosen_blocks, added_own, added_numbered, next_view, rows-chosen}
use Rattle.fb_model.proofs.Events.{by_up_to, by_tasks, by_all}
use Rattle.fb_tasks.proofs.AllChoices.{by_view, up_to_split, choices_in, in_same, past_at, past_more, rows-same, Partly}
use Rattle.fb_tasks.proofs.RowsOf.{reported_rows}

-- the blocks of each task are numbered
abbrev AreAllNumbered : Past → Type 0
AreAllNumbered past = (task : ℕ) → AreNumbered 0 (view past task).blocks

-- a later history goes on from an earlier one: the registered blocks are as they were, and more follow
pub record GoesOn (past new : Past) : Type 0 where
  pub numbered : AreAllNumbered new
  pub entries : HasGrown (entries_after past) (entries_after new)

-- and so are the rows of what a task has cleaned
pub record TaskGoesOn (task now : ℕ) (past new : Past) : Type 0 where
  pub on : GoesOn past new
  pub open on use *
  pub known : AreKnown (view new task)
  pub rows : HasGrown (segment_rows_found past now task) (segment_rows_found new now task)

-- one more choice
module _ (disk : Shape) (start past : Past) (task : ℕ) (best : LogSegment) where
  abbrev next : Past
  next = chose task best (chosen_blocks disk task (view past task) best) ∷ past

  pub on-chosen : GoesOn start past → GoesOn start (chose task best (chosen_blocks disk task (view past task) best) ∷ past)
  on-chosen h =
      let v = view past task in
      let blocks = chosen_blocks disk task v best in
      let own = added_own disk task v best in
      let after = added_numbered disk task v best in
      let now = next_view disk past task best in
      let others = chosen-silent past task best blocks own in
      let olds = old-entries past next task blocks others (λ block. ap (λ x. x.bare block) now) (ap (λ x. x.suspended) now)
      (h.numbered task) after own in
      record {
        numbered = λ t. one_or_other (λ t. AreNumbered 0 (view next t).blocks) task t
            (rw now (numbered_joined 0 v.blocks blocks (h.numbered task) (subst (λ n. AreNumbered n blocks)
            (let e : length v.blocks ≡ 0 + length v.blocks = omega arith in e) after)))
            (λ other. rw (others t other) (h.numbered t));
        entries = grown_more _ _ _ h.entries (record {
          added = map (entry_of next) blocks;
          is = map-append (entry_of next) (registered past) blocks ∙ ap (λ es. es ++ map (entry_of next) blocks) (sym olds);
        });
      }

  pub task-chosen : (now : ℕ) → TaskGoesOn task now start past
      → TaskGoesOn task now start (chose task best (chosen_blocks disk task (view past task) best) ∷ past)
  task-chosen now h = record {
    on = on-chosen h.on;
    known = rw (next_view disk past task best) (known-more disk task (view past task) best h.known);
    rows = grown_more _ _ _ h.rows (record { added = _; is = rows-chosen disk past task best h.known now });
  }

-- the choices of a task, and those of several tasks
goes-up_to : (disk : Shape) (past : Past) (task now n : ℕ) → AreAllNumbered past → AreKnown (view past task)
    → TaskGoesOn task now past (choose_up_to n disk task past)
goes-up_to disk past task now n numbered known = by_up_to (TaskGoesOn task now past) disk task
    (λ p. by_view (TaskGoesOn task now past) disk task p (λ s ss are. task-chosen disk past p task (best_of is_better s ss) now)) n past
    (record {
      on = record { numbered = numbered; entries = grown_not (entries_after past) };
      known = known;
      rows = grown_not (segment_rows_found past now task);
    })

goes-over : (disk : Shape) (past : Past) (ns : List ℕ) → AreAllNumbered past → GoesOn past (fold (choose_in disk) past ns)
goes-over disk past ns numbered = by_tasks (GoesOn past) disk
    (λ p task cleans. by_view (GoesOn past) disk task p (λ s ss are. on-chosen disk past p task (best_of is_better s ss))) ns past (record { numbered = numbered; entries = grown_not (entries_after past) })

known-now : {disk : Shape} {past : Past} {task : ℕ} {session : Session} {held : List Entry} → MayChoose disk past task session held
    → AreKnown (view past task)
known-now {past = past} {task = task} {session = session} may = elim (cases_Bool (is_clean session.kind)) [
  | inl cleans ↦ known-blocks (view past task) (may.blocks.placed task).numbered (may.stands.log cleans).blocks
  | inr other ↦ rw (may.stands.unchosen other) tt
]

-- memory ran out at one of a task's choices
pub begun-at : {disk : Shape} {past : Past} {task now : ℕ} {session mid : Session} {held was new : List Entry} {old rows more : List BackRow}
    (may : MayChoose disk past task session held) (k n : ℕ)
    → (is_clean session.kind && not session.closed) ≡ true → n ≡ length session.log.segments → k < n
    → HasChosenUpTo disk past (choose_up_to k disk task past) task now mid was old rows
    → HasBegunUpTo (choose_up_to k disk task past) (choose_once disk task (choose_up_to k disk task past)) task now was new rows more
    → HasBegunUpTo past (choose_in disk past task) task now held new old more
begun-at {disk} {past} {task} {now} {session} {mid} {held} {was} {new} {old} {rows} {more} may k n may_be count less chosen begun =
    let to = λ (n : ℕ). goes-up_to disk past task now n (λ task. (may.blocks.placed task).numbered) (known-now may) in
    let here = choose_up_to k disk task past in
    let once = to (k + 1) in
    let left = n - (k + 1) in
    let all : choose_in disk past task ≡ choose_up_to left disk task (choose_up_to (k + 1) disk task past) =
    choices_in n n may_be count may (omega arith) (λ more. absurd (omega arith))
    ∙ (ap (λ j. choose_up_to j disk task past) (let e : n ≡ k + 1 + left = omega arith in e) ∙ up_to_split (k + 1) left disk task past) in
    let rest : TaskGoesOn task now (choose_once disk task here) (choose_in disk past task) =
    subst (λ p. TaskGoesOn task now p (choose_in disk past task)) (up_to_split k 1 disk task past)
    (rw all (goes-up_to disk (choose_up_to (k + 1) disk task past) task now left once.numbered once.known)) in
    let stood : HasGrown held was = rw (may.blocks.entries, chosen.may.blocks.entries) (to k).entries in
    record {
      blocks = (grown_more _ _ _ stood begun.blocks.0, grown_more _ _ _ begun.blocks.1 rest.entries);
      rows = λ before is.
          let mid_is = chosen.rows before is in
          let part = begun.rows before mid_is in
          let stood : HasGrown old rows = rw (is, mid_is) (grown_behind before (to k).rows) in
          (grown_more _ _ _ stood part.0, grown_more _ _ _ part.1 (grown_behind before rest.rows));
    }

-- later choices leave the tasks as they are that have chosen
same-later : (disk : Shape) (past : Past) (task n m : ℕ) → task < n → n ≤ m → view (past_at disk past m) task ≡ view (past_at disk past n) task
same-later disk past task n m less le = step_to (λ k. view (past_at disk past k) task ≡ view (past_at disk past n) task) n m le
    (λ k from to same. rw (past_more disk past k) (in_same disk k task (past_at disk past k) (λ e. absurd (omega arith))) ∙ same) refl

all-at : (disk : Shape) (past : Past) → with_choices disk past ≡ past_at disk past (length (tasks past))
unfolding with_choices
all-at disk past = refl

all-tasks : (disk : Shape) (past : Past) → tasks (with_choices disk past) ≡ tasks past
all-tasks disk past = by_all (λ p. tasks p ≡ tasks past) disk (λ p chooser segment blocks same. same) past refl

module _ {disk : Shape} {past : Past} {sessions : List Session} {held : List Entry} (may : MaySettle disk past sessions held) where
  goes-to : (n : ℕ) → GoesOn past (past_at disk past n)
  goes-to n = goes-over disk past (range_with_len 0 n) (λ task. (may.tells.placed task).numbered)

  -- the choices of the tasks after the first n
  goes-from : (n : ℕ) → n ≤ length (tasks past) → GoesOn (past_at disk past n) (with_choices disk past)
  goes-from n le =
      let left = length (tasks past) - n in
      let numbers : range_with_len 0 (length (tasks past)) ≡ range_with_len 0 n ++ range_with_len n left =
      let count : length (tasks past) ≡ n + left = omega arith in
      let start : 0 + n ≡ n = omega arith in
      ap (range_with_len 0) count ∙ rw start at (range-append 0 n left) in
      let all : with_choices disk past ≡ fold (choose_in disk) (past_at disk past n) (range_with_len n left) = all-at disk past
      ∙ (ap (fold (choose_in disk) past) numbers ∙ fold-append (choose_in disk) past (range_with_len 0 n) (range_with_len n left)) in
      rw all (goes-over disk (past_at disk past n) (range_with_len n left) (goes-to n).numbered)

  -- what follows the blocks that stood are the first that the choices register
  pub blocks-begun : {new : List Entry} → HasGrown held new → HasGrown new (entries_after (with_choices disk past))
      → HasBegun held (entries_chosen disk past) new
  blocks-begun {new} stood rest =
      let on = (goes-from 0 (omega arith)).entries in
      let size : length (registered past) ≡ length (entries_after past) = sym (length-map (registered past) (entry_of past)) in
      let due : entries_chosen disk past ≡ on.added =
      ap (drop (length (registered past))) on.is ∙ rw size (drop-append_seam (entries_after past) on.added) in
      let whole : held ++ entries_chosen disk past ≡ entries_after (with_choices disk past) =
      ap (λ l. l ++ entries_chosen disk past) may.tells.entries ∙ (ap (λ l. entries_after past ++ l) due ∙ sym on.is) in
      begun_between stood (subst (HasGrown new) (sym whole) rest)

  -- all that they register stands
  pub all-begun : {new : List Entry} → HoldsBlocks disk (with_choices disk past) new → HasBegun held (entries_chosen disk past) new
  all-begun h = rw h.entries (blocks-begun (rw may.tells.entries (goes-from 0 (omega arith)).entries)
      (grown_not (entries_after (with_choices disk past))))

  -- memory ran out at one of the tasks
  module _ {items : List Session} {was new : List Entry} {instant : ℕ} {before rows more : List BackRow} {n : ℕ} {session : Session}
      (at : slice_get items n ≡ Some session) (h : Partly disk past items was instant before rows n)
      (begun : HasBegunUpTo (past_at disk past n) (choose_in disk (past_at disk past n) n) n instant was new rows more) where
    opened : n < length (tasks past)
    opened = omega (arith, slice_get_within items n session at, h.as_many)

    pub blocks-at : HasBegun held (entries_chosen disk past) new
    blocks-at =
        let stood : HasGrown held was = rw (may.tells.entries, h.blocks.entries) (goes-to n).entries in
        let rest = (goes-from (n + 1) (omega (arith, opened))).entries in
        blocks-begun (grown_more _ _ _ stood begun.blocks.0) (grown_more _ _ _ begun.blocks.1 (rw past_more at rest))

    -- the tasks that have chosen give the rows that they gave
    rows-later : (m k : ℕ) → k < m → m ≤ length (tasks past) → segment_rows_found (past_at disk past m) instant k
        ≡ segment_rows_found (past_at disk past (length (tasks past))) instant k
    rows-later m k less le = sym (rows-same (past_at disk past m) (past_at disk past (length (tasks past))) k instant
        (same-later disk past k m (length (tasks past)) less le))

    pub rows-at : HasBegun before (flat_map (segment_rows_found (with_choices disk past) instant) (task_numbers (with_choices disk past))) more
    rows-at =
        let was = past_at disk past n in
        let all = past_at disk past (length (tasks past)) in
        let none = reported_rows was instant n ((h.each n session at).later (omega arith)) in
        let part = begun.rows rows (rw none (sym (append-nil rows))) in
        let own = rw past_more at (rows-later (n + 1) n (omega arith) (omega (arith, opened))) in
        let so_far = h.rows_are ∙ ap (λ rs. before ++ rs) (flat_same (segment_rows_found was instant) (segment_rows_found all instant)
        (range_with_len 0 n) (all_range (λ k. segment_rows_found was instant k ≡ segment_rows_found all instant k) 0 n
        (λ k from less. rows-later n k (omega (arith, less)) (omega (arith, opened))))) in
        rw (all-tasks disk past, all-at disk past) (begun_each (segment_rows_found all instant) n (length (tasks past)) opened so_far
        (begun_between part.0 (subst (λ rs. HasGrown more (rows ++ rs)) own part.1)))
