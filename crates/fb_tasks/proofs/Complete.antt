-- How many blocks of a task there are in each state, whether it is complete by what its session keeps, and its row.
use Rattle.fb_units.proofs.Counts.{filter-le}
use Rattle.fb_tasks.proofs.Words.{◌≡◌, ℕ, ◌+◌, ◌≤◌, ◌==◌, List, [], ◌∷◌, Bool, inl, inr, length, filter, map, refl, arith, zero, suc, ◌-◌}
use Rattle.fb_tasks.proofs.Words.{◌<◌, ◌&&◌, not, ◌++◌, true, false, Some, None, Option, slice_get, find, append-nil, ap, sym, ◌∙◌}
use Rattle.fb_tasks.proofs.Words.{append_assoc, list_all, AllByRecursion, list_any, range_with_len, cases_Bool, true≢false, length-map}
use Rattle.fb_tasks.proofs.Words.{Block, Counts, Entry, State, is_delivered, is_aborted, of_task, counts_of, Past, registered, LogSegment}
use Rattle.fb_tasks.proofs.Words.{Work, TaskView, view, state_in, is_over, Choice, is_cleaned, is_through, is_choice_of, is_complete}
use Rattle.fb_tasks.proofs.Words.{is_complete_as, is_done, entry_by, entry_of, Stands, Cleans, IsAtWork, choice_in}
use Rattle.fb_tasks.proofs.Words.{kept_segment, CleansBy, eqb-true, same_Some, all_flat, any_of_none, each_all, find_all, find-none}
use Rattle.fb_tasks.proofs.Words.{all_any, all_weaker, nat_tests, and-false, list_any-append, Kind, Clean, is_clean, is_busy, same_number}
use Rattle.fb_tasks.proofs.Words.{Session, is_none, is_worked_off, are_over, complete_as, complete_by, length-filter, BackRow, BackTask}
use Rattle.fb_tasks.proofs.Words.{task_row, map-range_with_len_more}
use Rattle.fb_tasks.proofs.States.{seen, shown, shown_delivered, shown_aborted}
use Rattle.fb_model.specs.History.{blocks_of}
use Rattle.fb_wanted.specs.Numbering as numbering
use Rattle.fb_clean.specs.Segments as clean

pub counts_registered : (task : ℕ) (es : List Entry)
    → (counts_of task es).registered ≡ numbering.registered_count task (numbering.blocks_of es)
counts_registered task [] = refl
counts_registered task (e ∷ es) = grind (arith, counts_registered task es)

pub registered_few : (task : ℕ) (es : List Entry) → numbering.registered_count task (numbering.blocks_of es) ≤ length es
registered_few task es =
    omega (arith, filter-le (λ (block : Block). block.task == task) (numbering.blocks_of es), length-map es (λ e. e.block))

-- the registered blocks of a task are the history's
abbrev entry_at : TaskView → Block → Entry
entry_at v block = record { block = block; state = state_in v block }

of_task_same : (views : ℕ → TaskView) (task : ℕ) (bs : List Block)
    → of_task task (map (entry_by views) bs) ≡ map (entry_at (views task)) (filter (λ b. b.task == task) bs)
of_task_same views task [] = refl
of_task_same views task (b ∷ bs) = elim (cases_Bool (b.task == task)) [
  | inl own ↦ rw (own, of_task_same views task bs, eqb-true b.task task own) refl
  | inr other ↦ rw other (of_task_same views task bs)
]

-- a block's state passes where its state without suspension does
shown_count : (p : State → Bool) → ((bare : State) (held_back : Bool) → p (shown bare held_back) ≡ p bare)
    → (v : TaskView) (bs : List Block) → length (filter (λ e. p e.state) (map (entry_at v) bs)) ≡ length (filter (λ b. p (v.bare b)) bs)
shown_count p same v [] = refl
shown_count p same v (b ∷ bs) = grind (arith, shown_count p same v bs, same (v.bare b) v.suspended)

-- how many blocks of a task are registered, delivered and aborted
abbrev pub counts_in : Work → Counts
counts_in work = record {
  registered = length work.blocks;
  delivered = length (filter (λ b. is_delivered (work.bare b)) work.blocks);
  aborted = length (filter (λ b. is_aborted (work.bare b)) work.blocks);
}

pub counts_same : (past : Past) (task : ℕ) (held : List Entry) → held ≡ map (entry_of past) (registered past)
    → counts_of task held ≡ counts_in (view past task).work
unfolding view
counts_same past task held entries =
    let v = view past task in
    rw (
      entries,
      of_task_same (view past) task (registered past),
      length-map (blocks_of past task) (entry_at v),
      shown_count is_delivered shown_delivered v (blocks_of past task),
      shown_count is_aborted shown_aborted v (blocks_of past task),
    ) refl

-- all are over where the counts of both make up the whole
over_counts : (f : Block → State) (bs : List Block) → let done = length (filter (λ b. is_delivered (f b)) bs) in
    let ended = length (filter (λ b. is_aborted (f b)) bs) in
    (done + ended ≤ length bs) × ((done + ended == length bs) ≡ list_all (λ b. is_over (f b)) bs)
over_counts f [] = (omega arith, refl)
over_counts f (b ∷ bs) = grind (arith, nat_tests, over_counts f bs)

-- a task is busy where the segment that it cleans isn't cleaned yet
none_busy : (w : Work) (cs : List Choice) → AllByRecursion (λ choice. is_cleaned w choice ≡ true) cs
    → list_any (λ choice. not (is_cleaned w choice)) cs ≡ false
none_busy w cs all = any_of_none (λ choice. not (is_cleaned w choice)) cs (all_weaker (λ choice. is_cleaned w choice ≡ true)
    (λ choice. not (is_cleaned w choice) ≡ false) (λ choice e. ap not e) cs all)

pub busy_by : {w : Work} {log : clean.Cleaning} {done : List Choice} {current : Option Choice} → CleansBy w log done current
    → is_busy w ≡ list_any (λ choice. not (is_cleaned w choice)) (choice_in current)
busy_by {w} {log} {done} {current} by = rw (by.chosen, list_any-append, none_busy w done by.cleaned) refl

-- where all blocks of a choice are over, and not all are delivered, one is aborted
some_aborted : (f : Block → State) (bs : List Block) → AllByRecursion (λ b. is_over (f b) ≡ true) bs
    → list_all (λ b. is_delivered (f b)) bs ≡ false → list_any (λ b. is_aborted (f b)) bs ≡ true
some_aborted f [] over h = absurd (true≢false h)
some_aborted f (b ∷ bs) over h = grind (arith, some_aborted f bs over.1, over.0)

abbrev IsUnfinishedWhereBusy : Work → clean.Cleaning → Type 0
IsUnfinishedWhereBusy w log = is_none log.unfinished ≡ not (is_busy w)

module _ (w : Work) (log : clean.Cleaning) (h : Cleans w log) where
  abbrev through : LogSegment → Bool
  through s = is_through w (find (is_choice_of s) w.choices)

  -- after a close each segment is through
  closed_through : w.closed ≡ true → (s : LogSegment) → through s ≡ true
  closed_through closed s = by (find (is_choice_of s) w.choices) refl where
    by : (found : Option Choice) → find (is_choice_of s) w.choices ≡ found → is_through w found ≡ true
    by None e = closed
    by (Some choice) e =
        let over = all_flat (λ b. is_over (w.bare b) ≡ true) (λ (c : Choice). c.blocks) w.choices (rw h.blocks at (h.over closed)) in
        let each =
        (find_all (λ (c : Choice). AllByRecursion (λ b. is_over (w.bare b) ≡ true) c.blocks) (is_choice_of s) w.choices choice over e).0 in
        grind (arith, some_aborted w.bare choice.blocks each)

  -- before, each is through that was chosen, if all that were chosen are cleaned
  chosen_through : w.closed ≡ false → AllByRecursion (λ choice. is_cleaned w choice ≡ true) w.choices → (s : LogSegment)
      → through s ≡ not (kept_segment w s).waits
  chosen_through going cleaned s = by (find (is_choice_of s) w.choices) refl where
    by : (found : Option Choice) → find (is_choice_of s) w.choices ≡ found → is_through w found ≡ not (kept_segment w s).waits
    by None e = grind (arith, any_of_none (is_choice_of s) w.choices (find-none (is_choice_of s) w.choices e))
    by (Some choice) e = grind (arith, find_all (λ c. is_cleaned w c ≡ true) (is_choice_of s) w.choices choice cleaned e)

  all_through : (ss : List LogSegment) → AllByRecursion (λ s. through s ≡ not (kept_segment w s).waits) ss
      → list_all through ss ≡ not (list_any (λ s. s.waits) (map (kept_segment w) ss))
  all_through [] same = refl
  all_through (s ∷ ss) same = grind (arith, all_through ss same.1, same.0)

  -- while a segment is unfinished it is not through
  find_current : (now : Choice) (cs : List Choice) → AllByRecursion (λ choice. (choice.segment.number == now.segment.number) ≡ false) cs
      → find (is_choice_of now.segment) (cs ++ now ∷ []) ≡ Some now
  find_current now [] other = rw (same_number now.segment.number now.segment.number refl) refl
  find_current now (c ∷ cs) other = rw other.0 (find_current now cs other.1)

  some_fails : (ss : List LogSegment) (i : ℕ) (s : LogSegment) → slice_get ss i ≡ Some s → through s ≡ false → list_all through ss ≡ false
  some_fails [] i s at fails = absurd (cc)
  some_fails (x ∷ ss) zero s at fails = rw (same_Some x s at, fails) refl
  some_fails (x ∷ ss) (suc i) s at fails = rw (some_fails ss i s at fails) (and-false (through x))

  inner_same : IsUnfinishedWhereBusy w log → w.closed ≡ false → (current : Option Choice) → CleansBy w log h.done current
      → (is_none log.unfinished && not (list_any (λ s. s.waits) log.segments)) ≡ list_all through w.segments
  inner_same work going None by =
      let cleaned : AllByRecursion (λ choice. is_cleaned w choice ≡ true) w.choices = rw (by.chosen, append-nil) by.cleaned in
      rw (by.unfinished, by.segments)
      (sym (all_through w.segments (all_any (λ s. through s ≡ not (kept_segment w s).waits) (chosen_through going cleaned) w.segments)))
  inner_same work going (Some now) by =
      let open_still : is_cleaned w now ≡ false = grind (arith, busy_by by, work, by.unfinished) in
      let not_through : through now.segment ≡ false = rw (by.chosen, find_current now h.done by.distinct.0, open_still, going) refl in
      rw by.unfinished (sym (some_fails w.segments (now.segment.number - 1) now.segment by.known.0 not_through))

  pub worked_off_same : (closed : Bool) → closed ≡ w.closed → IsUnfinishedWhereBusy w log
      → is_worked_off closed log ≡ is_complete_as w Clean
  worked_off_same closed says work =
      let size : length log.segments ≡ length w.segments = rw h.segments (length-map w.segments (kept_segment w)) in
      elim (cases_Bool w.closed) [
        | inl done ↦ let all = each_all through w.segments (all_any (λ s. through s ≡ true) (closed_through done) w.segments) in
            rw (size, all, says, done) refl
        | inr going ↦ rw (size, says, inner_same work going h.current h.by, going) refl
      ]

module _ (past : Past) (task : ℕ) (session : Session) (held : List Entry) (stands : Stands (view past task) session)
    (work : IsAtWork (view past task).work session) (entries : held ≡ map (entry_of past) (registered past)) where
  complete_as_same : (kind : Kind) → kind ≡ session.kind
      → complete_as kind session (counts_of task held) ≡ is_complete_as (view past task).work kind
  complete_as_same Clean e =
      let cleans : is_clean session.kind ≡ true = ap is_clean (sym e) in
      worked_off_same (view past task).work session.log (stands.log cleans) session.closed stands.closed (work cleans)
  complete_as_same _ e =
      ap are_over (counts_same past task held entries) ∙ rw (over_counts (view past task).bare (view past task).blocks).1 refl

  -- a session tells whether its task is complete
  pub done_same : complete_by session (counts_of task held) ≡ is_done (view past task).work
  done_same = complete_as_same session.kind refl ∙ ap (λ t. is_complete_as (view past task).work t.kind) (sym stands.terms)

  pub complete_same : complete_by session (counts_of task held) ≡ is_complete past task
  complete_same = done_same ∙ (seen past task).done

pub counts_small : (past : Past) (task : ℕ) (held : List Entry) (counts : Counts) → counts ≡ counts_of task held
    → held ≡ map (entry_of past) (registered past) → counts.registered < 4294967296 → counts.delivered + counts.aborted < 4294967296
counts_small past task held counts same entries fits =
    let e = same ∙ counts_same past task held entries in
    let fit = (over_counts (view past task).bare (view past task).blocks).0 in
    omega (arith, fit, ap (λ c. c.delivered) e, ap (λ c. c.aborted) e, ap (λ c. c.registered) e)

-- and one more element of a list that goes by numbers
pub map_more : {X : Type 0} (f : ℕ → X) (before rows more : List X) (n : ℕ) (x : X) → rows ≡ before ++ map f (range_with_len 0 n) → x ≡ f n
    → more ≡ rows ++ x ∷ [] → more ≡ before ++ map f (range_with_len 0 (n + 1))
map_more f before rows more n x so_far same pushed =
    rw (pushed, so_far, same, map-range_with_len_more f 0 n n (omega arith), append_assoc) refl

row_of : ℕ → Kind → Counts → Bool → BackRow
row_of task kind counts complete = BackTask (record {
  task = task;
  kind = kind;
  registered = counts.registered;
  delivered = counts.delivered;
  aborted = counts.aborted;
  complete = complete;
})

by_view : (p : Past) (t : ℕ) → row_of t (view p t).terms.kind (counts_in (view p t).work) (is_complete p t) ≡ task_row p t
unfolding view row_of
by_view p t = simp length-filter

pub row_same : (past : Past) (task : ℕ) (session : Session) (held : List Entry) (counts : Counts) (complete : Bool)
    → Stands (view past task) session → IsAtWork (view past task).work session → held ≡ map (entry_of past) (registered past)
    → counts ≡ counts_of task held → complete ≡ complete_by session counts
    → BackTask (record {
      task = task;
      kind = session.kind;
      registered = counts.registered;
      delivered = counts.delivered;
      aborted = counts.aborted;
      complete = complete;
    }) ≡ task_row past task
unfolding row_of
row_same past task session held counts complete stands work entries same says =
    let now = same ∙ counts_same past task held entries in
    let done : complete ≡ is_complete past task = says
    ∙ (ap (complete_by session) same ∙ complete_same past task session held stands work entries) in
    ap (λ k. row_of task k counts complete) (ap (λ t. t.kind) (sym stands.terms)) ∙ (rw (now, done) refl ∙ by_view past task)
