-- The choices of a session, one after another, and those of all sessions.
use Rattle.std.proofs.lemmas.List.Sums.{fold-append}
use Rattle.fb_units.proofs.Counts.{each_one, filter-le}
use Rattle.fb_tasks.proofs.Words.{◌≡◌, ℕ, zero, suc, ◌+◌, ◌-◌, ◌≤◌, ◌&&◌, not, if◌then◌else◌, List, [], ◌++◌, true, false, length}
use Rattle.fb_tasks.proofs.Words.{append-nil, refl, ap, sym, ◌∙◌, arith, ◌∷◌, Bool, inl, inr, subst, ◌*◌, ◌^◌, ◌<◌, Some, set, slice_get}
use Rattle.fb_tasks.proofs.Words.{and_parts, cases_Bool, true≢false, length-map, length-set, Shape, is_clean, Entry, BackRow, Past}
use Rattle.fb_tasks.proofs.Words.{LogSegment, chose, tasks, task_numbers, registered, view, chosen_view, choose_once, choose_up_to}
use Rattle.fb_tasks.proofs.Words.{choose_in, is_better, is_busy, is_chosen, unchosen, with_choices, segment_rows_found, Session}
use Rattle.fb_tasks.proofs.Words.{Stands, MayChoose, AreReported, IsSegmentOf, HasNoChoice, HoldsBlocks, IsQuiet, IsAtWork}
use Rattle.fb_tasks.proofs.Words.{HaveChosen, choosable_by, flat_same, element_at, ne_eqb, each_set, step_to}
use Rattle.fb_tasks.proofs.Words.{AllByRecursion, sum_by, best_of, flat_map, fold, range_with_len, sum_by-cons, slice_get_within}
use Rattle.fb_tasks.proofs.Words.{chosen-silent, MaySettle, TaskView, nil_from_length, HasChosenUpTo, kept_segment, all_range}
use Rattle.fb_tasks.proofs.{ChoiceSteps.best_left, ChoiceSteps.chosen_blocks, ChoiceSteps.chosen_for, ChoiceSteps.next_view}
use Rattle.fb_tasks.proofs.{States.seen, Segmented.numbered_given, ChoiceSteps.once_is, ChoiceSteps.left_less, ChoiceSteps.added_own}
use Rattle.fb_tasks.proofs.{ChoiceSteps.segment_rows_of, ChoiceSteps.segment_rows_is, ChoiceSteps.few_less, ChoiceSteps.best_of_left}
use Rattle.fb_model.proofs.Events.{ChoiceKeeps, by_in, by_tasks, by_task}
use Rattle.fb_tasks.proofs.{RowsOf.reported_rows, Cuts.range_next, Tested.rows_more, Frames.set_same}

up_to_still : (n : ℕ) (disk : Shape) (task : ℕ) (past : Past) → (0 < n → choose_once disk task past ≡ past)
    → choose_up_to n disk task past ≡ past
up_to_still zero disk task past still = refl
up_to_still (suc n) disk task past still = let e = still (omega arith) in ap (choose_up_to n disk task) e
    ∙ up_to_still n disk task past (λ _. e)

pub up_to_split : (k m : ℕ) (disk : Shape) (task : ℕ) (past : Past)
    → choose_up_to (k + m) disk task past ≡ choose_up_to m disk task (choose_up_to k disk task past)
up_to_split zero m disk task past = ap (λ n. choose_up_to n disk task past) (let e : 0 + m ≡ m = omega arith in e)
up_to_split (suc k) m disk task past = ap (λ n. choose_up_to n disk task past) (let e : suc k + m ≡ suc (k + m) = omega arith in e)
    ∙ up_to_split k m disk task (choose_once disk task past)

pub in_is : (disk : Shape) (past : Past) (task : ℕ) → choose_in disk past task ≡ (if is_clean (view past task).terms.kind
    && not (view past task).closed then choose_up_to (length (view past task).segments) disk task past else past)
unfolding view
in_is disk past task = refl

-- as its session has it
in_by : (disk : Shape) (past : Past) (task : ℕ) (session : Session) (b : Bool) → Stands (view past task) session
    → (is_clean session.kind && not session.closed) ≡ b
    → choose_in disk past task ≡ (if b then choose_up_to (length (view past task).segments) disk task past else past)
in_by disk past task session b stands is = rw (in_is disk past task, stands.terms, sym stands.closed, is) refl

-- a task that stays
pub still-chosen : {disk : Shape} {past new : Past} {task now : ℕ} {session : Session} {held : List Entry} {rows : List BackRow} → new
    ≡ past
    → MayChoose disk past task session held → HasChosenUpTo disk past new task now session held rows rows
still-chosen still may = rw still (record { may = may; rows = λ before so_far. so_far })

pub idle-chosen : {disk : Shape} {past : Past} {task now : ℕ} {session : Session} {held : List Entry} {rows : List BackRow}
    → (is_clean session.kind && not session.closed) ≡ false → MayChoose disk past task session held
    → HasChosenUpTo disk past (choose_in disk past task) task now session held rows rows
idle-chosen {disk} {past} {task} {now} {session} none may = still-chosen (in_by disk past task session false may.stands none) may

pub chosen-on : {disk : Shape} {past mid new : Past} {task now : ℕ} {before session : Session} {was held : List Entry}
    {old rows more : List BackRow}
    → HasChosenUpTo disk past mid task now before was old rows → HasChosenUpTo disk mid new task now session held rows more
    → HasChosenUpTo disk past new task now session held old more
chosen-on a b = record { may = b.may; rows = λ start so_far. b.rows start (a.rows start so_far) }

-- after as many choices as there are segments, or after one that changed nothing, all was chosen
pub choices_in : {disk : Shape} {past : Past} {task : ℕ} {session : Session} {held : List Entry} (k n : ℕ)
    → (is_clean session.kind && not session.closed) ≡ true
    → n ≡ length session.log.segments → MayChoose disk past task session held → k ≤ n
    → (0 < n - k → choose_once disk task (choose_up_to k disk task past) ≡ choose_up_to k disk task past)
    → choose_in disk past task ≡ choose_up_to k disk task past
choices_in {disk} {past} {task} {session} k n may_be count may le still =
    let log = may.stands.log (and_parts (is_clean session.kind) (not session.closed) may_be).0 in
    let as_many : length (view past task).segments ≡ k + (n - k) = omega
    (arith, count, ap length log.segments, length-map (view past task).segments (kept_segment (view past task).work)) in
    rw (in_by disk past task session true may.stands may_be, as_many, up_to_split k (n - k) disk task past)
    (up_to_still (n - k) disk task (choose_up_to k disk task past) still)

module _ (disk : Shape) (task : ℕ) where
  -- a turn chooses nothing where a segment is unfinished or none is left
  still_once : (past : Past) → (is_busy (view past task).work ≡ false → unchosen (view past task).work ≡ [])
      → choose_once disk task past ≡ past
  still_once past none = rw (once_is disk past task) (grind (arith, none))

  -- a task that has no segment to choose stays
  pub stays : (past : Past) → HasNoChoice (view past task) → choose_in disk past task ≡ past
  stays past none = rw (in_is disk past task) (by (is_clean (view past task).terms.kind && not (view past task).closed) refl) where
    by : (b : Bool) → (is_clean (view past task).terms.kind && not (view past task).closed) ≡ b
        → (if b then choose_up_to (length (view past task).segments) disk task past else past) ≡ past
    by true chooses = up_to_still (length (view past task).segments) disk task past (λ _. still_once past (none chooses))
    by false other = refl

  -- after as many turns as segments are left none is left to choose
  abbrev IsDone : Past → Type 0
  IsDone past = is_busy (view past task).work ≡ false → unchosen (view past task).work ≡ []

  none_after : (n : ℕ) (past : Past) → AllByRecursion (IsSegmentOf disk (view past task).terms.block) (view past task).segments
      → length (unchosen (view past task).work) ≤ n → IsDone (choose_up_to n disk task past)
  none_after zero past on_disk few = λ _. nil_from_length (unchosen (view past task).work) (omega (arith, few))
  none_after (suc n) past on_disk few = elim (cases_Bool (is_busy (view past task).work)) [
    | inl busy ↦ stopped (λ free. absurd (true≢false (sym busy ∙ free)))
    | inr free ↦ by_left (λ next there left. none_after n next there left) free (unchosen (view past task).work) refl
  ] where
    stopped : IsDone past → IsDone (choose_up_to (suc n) disk task past)
    stopped none = subst IsDone (sym (up_to_still (suc n) disk task past (λ _. still_once past none))) none

    by_left : ((next : Past) → AllByRecursion (IsSegmentOf disk (view next task).terms.block) (view next task).segments
        → length (unchosen (view next task).work) ≤ n → IsDone (choose_up_to n disk task next))
        → is_busy (view past task).work ≡ false → (left : List LogSegment) → unchosen (view past task).work ≡ left
        → IsDone (choose_up_to (suc n) disk task past)
    by_left rest free [] are = stopped (λ _. are)
    by_left rest free (s ∷ ss) are =
        let best = best_of is_better s ss in
        let next = chose task best (chosen_blocks disk task (view past task) best) ∷ past in
        let once : choose_once disk task past ≡ next = once_is disk past task ∙ rw (free, are) refl in
        let now = next_view disk past task best in
        let fewer = left_less (λ _. 1) disk task (view past task) best (best_left disk (view past task) s ss
        (rw (seen past task).segments (numbered_given past task)) on_disk are) in
        let count : length (unchosen (view next task).work) + 1 ≤ length (unchosen (view past task).work) = rw now (omega (
          arith,
          fewer,
          each_one (unchosen (view past task).work),
          each_one (unchosen (chosen_view task (chosen_for disk task (view past task) best) (view past task)).work),
        )) in
        subst (λ p. IsDone (choose_up_to n disk task p)) (sym once) (rest next (rw now on_disk) (omega (arith, count, few)))

  pub no-choice-left : (past : Past) → AllByRecursion (IsSegmentOf disk (view past task).terms.block) (view past task).segments
      → HasNoChoice (view (choose_in disk past task) task)
  no-choice-left past on_disk = subst (λ p. HasNoChoice (view p task)) (sym (in_is disk past task))
      (by (is_clean (view past task).terms.kind && not (view past task).closed) refl) where
        by : (b : Bool) → (is_clean (view past task).terms.kind && not (view past task).closed) ≡ b
            → HasNoChoice (view (if b then choose_up_to (length (view past task).segments) disk task past else past) task)
        by true chooses = λ _. (none_after (length (view past task).segments) past on_disk
            (filter-le (λ s. not (is_chosen (view past task).choices s)) (view past task).segments))
        by false other = λ chooses free. absurd (true≢false (sym chooses ∙ other))

-- what a choice keeps that the view of its task allows
pub by_view : (P : Past → Type 0) (disk : Shape) (task : ℕ) (past : Past) → ((s : LogSegment) (ss : List LogSegment)
    → unchosen (view past task).work ≡ s ∷ ss → P past → P (best_of_left disk task past (s ∷ ss))) → ChoiceKeeps disk P task past
unfolding view
by_view P disk task past keeps = keeps

-- another task's choices leave a task as it was
pub in_same : (disk : Shape) (task other : ℕ) (past : Past) → (task ≡ other → ⊥) → view (choose_in disk past task) other ≡ view past other
in_same disk task other past differ =
    let P = λ (p : Past). view p other ≡ view past other in
    by_in P disk task (λ p cleans. by_view P disk task p (λ s ss are same. let best = best_of is_better s ss in
    chosen-silent p task best (chosen_blocks disk task (view p task) best) (added_own disk task (view p task) best) other
    (ne_eqb task other differ) ∙ same)) past refl

pub in_tasks : (disk : Shape) (task : ℕ) (past : Past) → tasks (choose_in disk past task) ≡ tasks past
in_tasks disk task past = by_task (λ p. tasks p ≡ tasks past) disk (λ p chooser segment blocks same. same) task past refl

-- choices don't register more than they could
pub in_fewer : (disk : Shape) (task : ℕ) (past : Past)
    → AllByRecursion (IsSegmentOf disk (view past task).terms.block) (view past task).segments
    → length (registered (choose_in disk past task)) + choosable_by disk (choose_in disk past task) task
    ≤ length (registered past) + choosable_by disk past task
in_fewer disk task past on_disk =
    let P = λ (p : Past). AllByRecursion (IsSegmentOf disk (view p task).terms.block) (view p task).segments
    × (length (registered p) + choosable_by disk p task ≤ length (registered past) + choosable_by disk past task) in
    (by_in P disk task (λ p cleans. by_view P disk task p (λ s ss are h. let best = best_of is_better s ss in (
      rw (next_view disk p task best) h.0,
      omega (
        arith,
        h.1,
        few_less disk p task best (best_left disk (view p task) s ss (rw (seen p task).segments (numbered_given p task)) h.0 are),
      ),
    ))) past (on_disk, omega arith)).1

-- a task that stays gives the same rows
pub rows-same : (past new : Past) (task now : ℕ) → view new task ≡ view past task
    → segment_rows_found new now task ≡ segment_rows_found past now task
rows-same past new task now same =
    segment_rows_is new now task ∙ (ap (λ v. segment_rows_of v.work now task) same ∙ sym (segment_rows_is past now task))

-- and it can choose the same
pub choosable-same : (disk : Shape) (past new : Past) (task : ℕ) → view new task ≡ view past task
    → choosable_by disk new task ≡ choosable_by disk past task
choosable-same disk past new task same = rw same refl

pub sum_range : (f g : ℕ → ℕ) (a n : ℕ) → ((k : ℕ) → a ≤ k → k < a + n → f k ≡ g k)
    → sum_by f (range_with_len a n) ≡ sum_by g (range_with_len a n)
sum_range f g a zero same = refl
sum_range f g a (suc n) same =
    let rest = sum_range f g (a + 1) n (λ k from to. same k (omega arith) (omega arith)) in
    omega (
      arith,
      sum_by-cons f a (range_with_len (a + 1) n),
      sum_by-cons g a (range_with_len (a + 1) n),
      rest,
      same a (omega arith) (omega arith),
    )

-- after the choices of the first tasks
abbrev pub past_at : Shape → Past → ℕ → Past
past_at disk past n = fold (choose_in disk) past (range_with_len 0 n)

pub past_more : (disk : Shape) (past : Past) (n : ℕ) → past_at disk past (n + 1) ≡ choose_in disk (past_at disk past n) n
past_more disk past n = ap (fold (choose_in disk) past) (range_next n) ∙ fold-append (choose_in disk) past (range_with_len 0 n) (n ∷ [])

-- a session when the first n tasks have chosen
pub record Begins (n task : ℕ) (view : TaskView) (session : Session) : Type 0 where
  pub stands : Stands view session
  pub at_work : IsAtWork view.work session
  pub later : n ≤ task → AreReported view.work
  pub chosen : task < n → HasNoChoice view
  pub quiet : session.touched ≡ false → IsQuiet view

-- the first n of so many tasks have chosen
pub record HaveBegun (disk : Shape) (count : ℕ) (past : Past) (sessions : List Session) (held : List Entry) (n : ℕ) : Type 0 where
  pub as_many : length sessions ≡ count
  pub each : (task : ℕ) (session : Session) → slice_get sessions task ≡ Some session → Begins n task (view past task) session
  pub blocks : HoldsBlocks disk past held
  pub few : length (registered past) + sum_by (choosable_by disk past) (range_with_len n (count - n)) ≤ 16 * 10 ^ 6

-- and the rows of what they cleaned follow
pub record Partly (disk : Shape) (past : Past) (sessions : List Session) (held : List Entry) (instant : ℕ) (before rows : List BackRow)
    (n : ℕ) : Type 0 where
  pub begun : HaveBegun disk (length (tasks past)) (past_at disk past n) sessions held n
  pub open begun use *
  pub rows_are : rows ≡ before ++ flat_map (segment_rows_found (past_at disk past n) instant) (range_with_len 0 n)

-- the sum over the tasks that are left, and without the first of them
left_split : (f : ℕ → ℕ) (n count : ℕ) → n < count
    → sum_by f (range_with_len n (count - n)) ≡ f n + sum_by f (range_with_len (n + 1) (count - (n + 1)))
left_split f n count less = let e : count - n ≡ suc (count - (n + 1)) = omega arith in
    rw e (sum_by-cons f n (range_with_len (n + 1) (count - (n + 1))))

pub partly-start : (disk : Shape) (past : Past) (sessions : List Session) (held : List Entry) (instant : ℕ) (rows : List BackRow)
    → MaySettle disk past sessions held → Partly disk past sessions held instant rows rows 0
partly-start disk past sessions held instant rows h = let tells = h.tells in record {
  begun = record {
    as_many = tells.as_many;
    each = λ task session at. let told = tells.each task session at in
        let later : 0 ≤ task → AreReported (view past task).work = λ _. told.reported in
        let chosen : task < 0 → HasNoChoice (view past task) = λ less. absurd (omega (arith, less)) in
        assumption (later, chosen, told);
    blocks = tells.blocks;
    few = subst (λ k. length (registered past) + sum_by (choosable_by disk past) (range_with_len 0 k) ≤ 16 * 10 ^ 6)
        (let e : length (tasks past) ≡ length (tasks past) - 0 = omega arith in e) h.few;
  };
  rows_are = sym (append-nil rows);
}

module _ {disk : Shape} {past : Past} {instant : ℕ} {before : List BackRow} where
  pub partly-may : {sessions : List Session} {held : List Entry} {rows : List BackRow} {n : ℕ} {session : Session} → slice_get sessions n
      ≡ Some session
      → Partly disk past sessions held instant before rows n → MayChoose disk (past_at disk past n) n session held
  partly-may {sessions} {held} {rows} {n} {session} at h =
      let within : n < length (tasks past) = omega (arith, slice_get_within sessions n session at, h.as_many) in
      record {
        blocks = h.blocks;
        stands = (h.each n session at).stands;
        at_work = (h.each n session at).at_work;
        few = omega (arith, h.few, left_split (choosable_by disk (past_at disk past n)) n (length (tasks past)) within);
      }

  -- one session more has chosen
  pub partly-more : {sessions : List Session} {held now : List Entry} {rows more : List BackRow} {n : ℕ} {session new : Session}
      → slice_get sessions n ≡ Some session
      → new.touched ≡ session.touched → Partly disk past sessions held instant before rows n
      → HasChosenUpTo disk (past_at disk past n) (choose_in disk (past_at disk past n) n) n instant new now rows more
      → Partly disk past (set sessions n new) now instant before more (n + 1)
  partly-more {sessions} {held} {now} {rows} {more} {n} {session} {new} at flag h chosen =
      let old = past_at disk past n in
      let after = choose_in disk (past_at disk past n) n in
      let same = λ (other : ℕ) (differ : n ≡ other → ⊥). in_same disk n other old differ in
      let within : n < length (tasks past) = omega (arith, slice_get_within sessions n session at, h.as_many) in
      let fewer = in_fewer disk n old (h.blocks.placed n).segments in
      let rest = sum_range (choosable_by disk after) (choosable_by disk old) (n
      + 1) (length (tasks past) - (n + 1)) (λ k from to. choosable-same disk old after k (same k (λ e. absurd (omega arith)))) in
      let kept = flat_same (segment_rows_found after instant) (segment_rows_found old instant) (range_with_len 0 n)
      (all_range (λ k. segment_rows_found after instant k ≡ segment_rows_found old instant k) 0 n
      (λ k le lt. rows-same old after k instant (same k (λ e. absurd (omega arith))))) in
      let given = chosen.rows rows
      (rw (reported_rows old instant n ((h.each n session at).later (omega arith))) (sym (append-nil rows))) in
      record {
        begun = rw (past_more disk past n) (record {
          as_many = length-set sessions n new ∙ h.as_many;
          each = each_set (λ t. Begins (n + 1) t (view after t)) sessions n new (record {
            stands = chosen.may.stands;
            at_work = chosen.may.at_work;
            later = λ le. absurd (omega arith);
            chosen = λ _. no-choice-left disk n old (h.blocks.placed n).segments;
            quiet = λ untouched. let was = (h.each n session at).quiet (sym flag ∙ untouched) in rw (stays disk n old was.chosen) was;
          }) (λ t s differ there. let was = h.each t s there in
              let later : n + 1 ≤ t → AreReported (view old t).work = λ le. was.later (omega arith) in
              let chosen : t < n + 1 → HasNoChoice (view old t) = λ less. was.chosen (grind arith) in
              rw (same t differ) (assumption (later, chosen, was)));
          blocks = chosen.may.blocks;
          few = omega (arith, h.few, fewer, rest, left_split (choosable_by disk old) n (length (tasks past)) within);
        });
        rows_are = rw (past_more disk past n) (rows_more (segment_rows_found after instant) before rows more
            (segment_rows_found after instant n) n (h.rows_are ∙ ap (λ rs. before ++ rs) (sym kept)) given refl);
      }

  -- sessions that were not touched have nothing to choose
  pub partly-to : {sessions : List Session} {held : List Entry} {rows : List BackRow} (n m : ℕ) → n ≤ m → m ≤ length sessions
      → ((k : ℕ) (session : Session) → n ≤ k → k < m → slice_get sessions k ≡ Some session → session.touched ≡ false)
      → Partly disk past sessions held instant before rows n → Partly disk past sessions held instant before rows m
  partly-to {sessions} {held} {rows} n m le within untouched h = step_to
      (Partly disk past sessions held instant before rows) n m le (λ k from to now.
      let found = element_at sessions k (omega (arith, within)) in
      let still = stays disk k (past_at disk past k) ((now.each k found.0 found.1).quiet (untouched k found.0 from to found.1)).chosen in
      subst (λ xs. Partly disk past xs held instant before rows (k + 1)) (set_same sessions k found.0 found.1)
      (partly-more found.1 refl now (still-chosen still (partly-may found.1 now)))) h

-- after the choices of all tasks
pub all-chosen : {disk : Shape} {past : Past} {sessions : List Session} {held : List Entry} {instant : ℕ} {before rows : List BackRow}
    → Partly disk past sessions held instant before rows (length sessions)
    → HaveChosen disk (with_choices disk past) sessions held ×
    (rows ≡ before ++ flat_map (segment_rows_found (with_choices disk past) instant) (task_numbers (with_choices disk past)))
unfolding with_choices
all-chosen {disk} {past} {sessions} {held} {instant} {before} {rows} h =
    let new = past_at disk past (length (tasks past)) in
    let numbers = range_with_len 0 (length (tasks past)) in
    let count = ap length (by_tasks (λ p. tasks p ≡ tasks past) disk (λ p chooser cleans s ss are same. same) numbers past refl) in
    let whole = subst (Partly disk past sessions held instant before rows) h.as_many h in (
      record {
        as_many = h.as_many ∙ sym count;
        each = λ task session at. let is = whole.each task session at in
            let chosen = is.chosen (omega (arith, slice_get_within sessions task session at, h.as_many)) in
            assumption (chosen, is);
        blocks = whole.blocks;
      },
      whole.rows_are ∙ ap (λ n. before ++ flat_map (segment_rows_found new instant) (range_with_len 0 n)) (sym count),
    )
