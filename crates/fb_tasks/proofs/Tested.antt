-- A test has given its rows, and the sessions are tested one after the other.
use Rattle.fb_tasks.proofs.Words.{◌≡◌, ◌==◌, ◌&&◌, ◌||◌, List, ◌++◌, arith, tasks, Cleans, Tells, Shape, Entry, Plain, subst, Terms, filter}
use Rattle.fb_tasks.proofs.Words.{ℕ, ◌<◌, not, ◌∷◌, Bool, true, Some, None, refl, ap, ap₂, sym, ◌∙◌, ◌+◌, ◌≤◌, set, Past, view, work}
use Rattle.fb_tasks.proofs.Words.{if◌then◌else◌, append_assoc, AllByRecursion, range_with_len, BackComplete, is_segment_of, complete_rows}
use Rattle.fb_tasks.proofs.Words.{[], Option, length, tested, Choice, is_done, is_busy, Session, is_none, Stands, element_at, step_to}
use Rattle.fb_tasks.proofs.Words.{ends_of}
use Rattle.fb_tasks.proofs.Words.{false, append-nil, bare_state, content_of, registered, IsUntouched, HasNoChoice, HoldsBlocks, get_or_past}
use Rattle.fb_tasks.proofs.Words.{slice_get, and-false, is_backup, is_cleaned, HoldsBlock, HoldsImage, HaveChosen, all_weaker, length-set}
use Rattle.fb_tasks.proofs.Words.{or-true, BackRow, Content, held_at, TaskView, IsSealed, IsAtWork, CleansBy, each_set, is_clean}
use Rattle.fb_tasks.proofs.Words.{StandsAfterTest}
use Rattle.fb_tasks.proofs.Words.{list_any, flat_map, BackSeal, AreTestRowsOf, choice_in, HasChosen, IsUpToDate, flat_none, all_range}
use Rattle.fb_tasks.proofs.Words.{found_for}
use Rattle.fb_tasks.proofs.Words.{list_any-append, test_rows_found, segment_rows_found, seal_rows_found, is_newly_cleaned, slice_get_within}
use Rattle.fb_tasks.proofs.Words.{task_numbers, tested_view, is_unsealed, is_complete, same_number, tested-view, AreReported, is_delivered}
use Rattle.fb_tasks.proofs.States.{seen}
use Rattle.fb_tasks.proofs.RowsOf.{reported_rows, rows-given, nothing-mute}
use Rattle.fb_tasks.proofs.{Sealed.held_same, Complete.busy_by, Frames.kept-entries}
use Rattle.fb_tasks.proofs.Words.{BeginsIn, AllByRecursion}
use Rattle.fb_tasks.proofs.{Frames.get_other, Frames.set_same, Additions.none-yet, States.cleared-stands, Cuts.range_next}
use Rattle.std.proofs.lemmas.Grind.{flat_map-append}
use Rattle.fb_clean.specs.Segments as clean

pub once : (b : Bool) → (b && not b) ≡ false
once b = grind arith

-- a choice that passes is found by its number
found_by_number : (f : Choice → Bool) (cs : List Choice) → AllByRecursion
    (λ choice. f choice ≡ true → list_any (λ other. (other.segment.number == choice.segment.number) && f other) cs ≡ true) cs
found_by_number f [] = tt
found_by_number f (c ∷ cs) = (
  (λ h. rw (same_number c.segment.number c.segment.number refl, h) refl),
  all_weaker
      (λ (choice : Choice). f choice ≡ true → list_any (λ other. (other.segment.number == choice.segment.number) && f other) cs ≡ true)
      (λ choice. f choice ≡ true → list_any (λ other. (other.segment.number == choice.segment.number) && f other) (c ∷ cs) ≡ true)
      (λ choice i h. rw (i h) (or-true ((c.segment.number == choice.segment.number) && f c))) cs (found_by_number f cs),
)

-- after the rows that a test has to give no other test of the task gives any
module _ (task : ℕ) (v : TaskView) (rows : List BackRow) (given : AreTestRowsOf task v rows) where
  pub reported-tested : AreReported (tested_view task rows v).work
  reported-tested =
      all_weaker (λ choice. is_newly_cleaned v.work choice ≡ true
      → list_any (λ other. (other.segment.number == choice.segment.number) && is_newly_cleaned v.work other) v.choices ≡ true)
      (λ choice. is_newly_cleaned (tested_view task rows v).work choice ≡ false)
      (λ choice found. grind (arith, given.segments choice.segment.number, found)) v.choices
      (found_by_number (is_newly_cleaned v.work) v.choices)

  pub unsealed-tested : (is_unsealed (tested_view task rows v) && is_done v.work) ≡ false
  unsealed-tested = rw given.seals (grind arith)

  -- the segment that is unfinished has no row
  unfinished-unreported : (log : clean.Cleaning) (h : Cleans v.work log) → is_none log.unfinished ≡ not (is_busy v.work)
      → AllByRecursion (λ (now : Choice). (tested_view task rows v).reported now.segment.number ≡ false) (choice_in h.current)
  unfinished-unreported log h work = one h.current h.by where
    others_no : (now : Choice) (cs : List Choice) → AllByRecursion (λ choice. (choice.segment.number == now.segment.number) ≡ false) cs
        → list_any (λ choice. (choice.segment.number == now.segment.number) && is_newly_cleaned v.work choice) cs ≡ false
    others_no now [] d = refl
    others_no now (c ∷ cs) d = rw d.0 (others_no now cs d.1)

    one : (current : Option Choice) → CleansBy v.work log h.done current
        → AllByRecursion (λ now. (tested_view task rows v).reported now.segment.number ≡ false) (choice_in current)
    one None by = tt
    one (Some now) by =
        let open_one : is_cleaned v.work now ≡ false = grind (arith, busy_by by, work, by.unfinished) in
        let unnamed : list_any (is_segment_of task now.segment.number) rows ≡ false = given.segments now.segment.number
        ∙ rw (by.chosen, list_any-append, others_no now h.done by.distinct.0, open_one, and-false) refl in
        (rw (unnamed, by.unreported.0) refl, tt)

  reported-known : (log : clean.Cleaning) → Cleans v.work log → (number : ℕ) → (tested_view task rows v).reported number ≡ true
      → list_any (λ choice. choice.segment.number == number) (v.choices) ≡ true
  reported-known log h number some = grind (arith, given.segments number, h.reported number, named v.choices) where
    named : (cs : List Choice) → list_any (λ choice. (choice.segment.number == number) && is_newly_cleaned v.work choice) cs ≡ true
        → list_any (λ choice. choice.segment.number == number) cs ≡ true
    named [] h = h
    named (c ∷ cs) h = grind (arith, named cs)

  cleans-tested : (log : clean.Cleaning) → is_none log.unfinished ≡ not (is_busy v.work) → Cleans v.work log
      → Cleans (tested_view task rows v).work log
  cleans-tested log work h =
      let unreported = unfinished-unreported log h work in
      let reported = reported-known log h in
      record { done = h.done; current = h.current; by = assumption (unreported, reported, h.by) }

-- all was tested
no_others : (past : Past) (rows : List BackRow) (task : ℕ)
    → (is_unsealed (tested_view task rows (view past task)) && is_done (view past task).work) ≡ false → (now : ℕ)
    → (seal_rows_found (tested rows ∷ past) now task ++ complete_rows (tested rows ∷ past) now task) ≡ []
unfolding view bare_state content_of is_complete
no_others past rows task sealed now = ap₂ (λ a b. (if a then BackSeal (record {
  task = task;
  instant = now;
  content = found_for (work (tested rows ∷ past) task) (filter (λ block. is_delivered ((work (tested rows ∷ past) task).bare block))
      (work (tested rows ∷ past) task).blocks);
}) ∷ [] else []) ++ (if b then BackComplete (record { task = task; instant = now }) ∷ [] else []))
    sealed (once (is_complete past task))

pub up_to_date-tested : (past : Past) (rows : List BackRow)
    → ((task : ℕ) → task < length (tasks past) → AreTestRowsOf task (view past task) rows) → IsUpToDate (tested rows ∷ past)
unfolding test_rows_found is_complete bare_state content_of
up_to_date-tested past rows given = record {
  tested = λ task. refl;
  no_rows = λ now. rw (
    flat_none (segment_rows_found (tested rows ∷ past) now) (task_numbers past)
        (all_range (λ task. segment_rows_found (tested rows ∷ past) now task ≡ []) 0 (length (tasks past))
        (λ task from less. reported_rows (tested rows ∷ past) now task (rw (tested-view past rows task)
        (reported-tested task (view past task) rows (given task (omega (arith, less))))))),
    flat_none (λ task. seal_rows_found (tested rows ∷ past) now task ++ complete_rows (tested rows ∷ past) now task) (task_numbers past)
        (all_range (λ task. (seal_rows_found (tested rows ∷ past) now task ++ complete_rows (tested rows ∷ past) now task) ≡ []) 0
        (length (tasks past))
        (λ task from less. no_others past rows task (unsealed-tested task (view past task) rows (given task (omega (arith, less)))) now)),
  ) refl;
}

-- a backup was sealed where the test had to, and its completion is noted
module _ (task : ℕ) (v : TaskView) (rows : List BackRow) (given : AreTestRowsOf task v rows) (old mid : Session)
    (is : IsSealed (is_unsealed v && is_done v.work) old mid) where
  open_was : is_unsealed (tested_view task rows v) ≡ true → (is_unsealed v ≡ true) × ((is_unsealed v && is_done v.work) ≡ false)
  open_was h = by (is_backup v.terms.kind) v.sealed (is_done v.work) (rw (sym given.seals) h) where
    by : (backup sealed complete : Bool) → (backup && not (((backup && not sealed) && complete) || sealed)) ≡ true
        → ((backup && not sealed) ≡ true) × (((backup && not sealed) && complete) ≡ false)
    by backup sealed complete h = grind arith

  holds_still : (held now : ℕ → Option Content) → ((lbn : ℕ) → now lbn ≡ held lbn) → HoldsImage v.work held → HoldsImage v.work now
  holds_still held now same h = record {
    each = all_weaker (HoldsBlock v.work held) (HoldsBlock v.work now)
        (λ block one delivered. held_same now held block.lbn block.count (λ lbn from to. same lbn) ∙ one delivered) v.blocks h.each;
    only = λ lbn none. same lbn ∙ h.only lbn none;
  }

  pub stands-tested : Stands v old → IsAtWork v.work old
      → (Stands (tested_view task rows v) (record mid { complete = is_done v.work }))
      × (IsAtWork (tested_view task rows v).work (record mid { complete = is_done v.work }))
  stands-tested h work =
      let sealed : ((is_unsealed v && is_done v.work) || old.sealed) ≡ (tested_view task rows v).sealed = rw (given.seals, h.sealed) refl in
      let image : is_unsealed (tested_view task rows v) ≡ true → HoldsImage (tested_view task rows v).work (held_at mid.image) = λ is_open.
      assumption (holds_still (held_at old.image) (held_at mid.image) (is.image (open_was is_open).1) (h.image (open_was is_open).0)) in
      let near : is_unsealed (tested_view task rows v) ≡ true → AllByRecursion (BeginsIn old.chunks) v.blocks =
      λ is_open. h.near (open_was is_open).0 in
      let log = λ (cleans : is_clean old.kind ≡ true). cleans-tested task v rows given old.log (work cleans) (h.log cleans) in
      rw is.same (assumption (sealed, image, near, log, h), work)

-- these rows are all that a test of the tasks has to give
abbrev pub AreAllRows : Past → List BackRow → Type 0
AreAllRows past rows = (task : ℕ) → AreTestRowsOf task (view past task) rows

-- what has chosen before its test
pub chosen_at : {disk : Shape} {past : Past} {old : List Session} {held : List Entry} → HaveChosen disk past old held
    → (k : ℕ) (session : Session) → slice_get old k ≡ Some session → HasChosen disk past k session held
chosen_at h k session at = record { blocks = h.blocks; stands = (h.each k session at).stands; at_work = (h.each k session at).at_work }

-- a quiet task stands as it did after the test, and gives no row
module _ (task : ℕ) (v : TaskView) (rows : List BackRow) (given : AreTestRowsOf task v rows) (session : Session)
    (none : (is_unsealed v && is_done v.work) ≡ false) (noted : session.complete ≡ is_done v.work) where
  pub still-stands : Stands v session → IsAtWork v.work session
      → (Stands (tested_view task rows v) session) × (IsAtWork (tested_view task rows v).work session)
  still-stands stands at_work = subst (λ b. (Stands (tested_view task rows v) (record session { complete = b }))
      × (IsAtWork (tested_view task rows v).work session)) (sym noted)
      (stands-tested task v rows given session session (record { same = rw none refl; image = λ _ lbn. refl }) stands at_work)

pub no-ends : (past : Past) (now task : ℕ) → (is_unsealed (view past task) && is_done (view past task).work) ≡ false
    → (view past task).was_complete ≡ is_done (view past task).work
    → (seal_rows_found past now task ++ complete_rows past now task) ≡ []
unfolding view is_complete
no-ends past now task none same = rw (none, same, once (is_done (work past task))) refl

pub rows_more : {X : Type 0} (f : ℕ → List X) (before was is more : List X) (n : ℕ) → was ≡ before ++ flat_map f (range_with_len 0 n)
    → is ≡ was ++ more → more ≡ f n → is ≡ before ++ flat_map f (range_with_len 0 (n + 1))
rows_more f before was is more n so_far pushed same =
    rw (pushed, so_far, same, range_next n, flat_map-append, append-nil, append_assoc) refl

-- the first sessions are tested, and their rows stand; the others are as they were
pub record AreTested (past : Past) (old now : List Session) (instant : ℕ) (before rows : List BackRow) (n : ℕ) : Type 0 where
  pub as_many : length now ≡ length old
  pub later : (k : ℕ) → n ≤ k → slice_get now k ≡ slice_get old k
  pub earlier : (all : List BackRow) → AreAllRows past all → (k : ℕ) (session : Session) → k < n → slice_get now k ≡ Some session
      → (Stands (view (tested all ∷ past) k) session) × (IsAtWork (view (tested all ∷ past) k).work session)
  pub rows_are : rows ≡ before ++ flat_map (ends_of past instant) (range_with_len 0 n)

pub none_tested : {past : Past} {old : List Session} {instant : ℕ} {rows : List BackRow} → AreTested past old old instant rows rows 0
none_tested {past} {old} {instant} {rows} =
    record {
      as_many = refl;
      later = λ k more. refl;
      earlier = λ all given k session less at. absurd (omega (arith, less));
      rows_are = sym (append-nil rows);
    }

module _ {past : Past} {old now : List Session} {instant : ℕ} {before rows : List BackRow} where
  -- one more is tested, and no more touched; it keeps its chunks if it is an open backup
  pub one_tested : {more : List BackRow} {n : ℕ} {new cleared : Session} → AreTested past old now instant before rows n
      → StandsAfterTest past n instant new rows more → cleared ≡ record new { touched = false; chunks = cleared.chunks }
      → ((is_backup new.kind && not new.sealed) ≡ true → cleared.chunks ≡ new.chunks)
      → AreTested past old (set now n cleared) instant before more (n + 1)
  one_tested {more} {n} {new} {cleared} is test same stays = record {
    as_many = length-set now n cleared ∙ is.as_many;
    later = λ k more. get_other now n k cleared (λ e. absurd (omega arith)) ∙ is.later k (omega arith);
    earlier = λ all given k some less at. let own = test.session all (given n) in
        each_set (λ k s. k < n + 1 → (Stands (view (tested all ∷ past) k) s) × (IsAtWork (view (tested all ∷ past) k).work s)) now n cleared
        (λ _. rw same (cleared-stands cleared.chunks (view (tested all ∷ past) n) new stays own.0, own.1))
        (λ k s differ at less. is.earlier all given k s (grind arith) at) k some at less;
    rows_are = rows_more (ends_of past instant) before rows more (ends_of past instant n) n is.rows_are test.rows refl;
  }

  -- what was not touched has no test to pass
  pub tested-to : {disk : Shape} {held : List Entry} (n m : ℕ) → n ≤ m → m ≤ length now
      → ((k : ℕ) (session : Session) → n ≤ k → k < m → slice_get now k ≡ Some session → session.touched ≡ false)
      → HaveChosen disk past old held
      → AreTested past old now instant before rows n → AreTested past old now instant before rows m
  tested-to n m le within untouched chosen = step_to (AreTested past old now instant before rows) n m le (λ k from to is.
      let found = element_at now k (omega (arith, within)) in
      let was = sym (is.later k (omega arith)) ∙ found.1 in
      let flag = untouched k found.0 from to found.1 in
      let ready = chosen.each k found.0 was in
      let quiet = ready.quiet flag in
      let test : StandsAfterTest past k instant found.0 rows rows = record {
        session = λ all given. rw (tested-view past all k) (still-stands k (view past k) all given found.0 quiet.sealed
            (ready.stands.complete ∙ quiet.tested) ready.stands ready.at_work);
        rows = rw (no-ends past instant k quiet.sealed quiet.tested) (sym (append-nil rows));
      } in
      subst (λ xs. AreTested past old xs instant before rows (k + 1)) (set_same now k found.0 found.1)
      (one_tested is test (ap (λ b. record found.0 { touched = b }) flag) (λ _. refl)))

pub untouched-tested : (disk : Shape) (past : Past) (held : List Entry) (h : HoldsBlocks disk past held) (task : ℕ)
    → length (tasks past) ≤ task → (rows : List BackRow) → AreTestRowsOf task (view past task) rows
    → IsUntouched (tested_view task rows (view past task))
untouched-tested disk past held h task beyond rows given =
    let was = h.unopened task beyond in
    let plain : Terms = record { kind = Plain; weight = 1; block = 1 } in
    let terms : (view past task).terms ≡ plain = (seen past task).terms ∙ get_or_past (tasks past) task plain beyond in
    let never : is_done (view past task).work ≡ false = rw (terms, none-yet disk past task beyond h.on_disk) refl in
    let sealed : (tested_view task rows (view past task)).sealed ≡ false = rw (given.seals, terms) was.sealed in
    let reported : (number : ℕ) → (tested_view task rows (view past task)).reported number ≡ false =
    λ number. rw (given.segments number, was.choices) (was.reported number) in
    assumption (never, sealed, reported, was)

-- after a test of each task the sessions tell the history again
pub tells-tested : {disk : Shape} {past : Past} {held : List Entry} (rows : List BackRow) (sessions : List Session)
    → HoldsBlocks disk past held → length sessions ≡ length (tasks past) → AreAllRows past rows
    → ((task : ℕ) (session : Session) → slice_get sessions task ≡ Some session
    → (Stands (view (tested rows ∷ past) task) session) × (IsAtWork (view (tested rows ∷ past) task).work session))
    → ((task : ℕ) (session : Session) → slice_get sessions task ≡ Some session → session.touched ≡ false → HasNoChoice (view past task))
    → Tells disk (tested rows ∷ past) sessions held
tells-tested {disk} {past} {held} rows sessions h as_many given each chosen = record {
  as_many = as_many;
  each = λ task session at. record {
    stands = (each task session at).0;
    at_work = (each task session at).1;
    reported = rw (tested-view past rows task) (reported-tested task (view past task) rows (given task));
    quiet = λ untouched. rw (tested-view past rows task) (record {
      tested = refl;
      sealed = unsealed-tested task (view past task) rows (given task);
      chosen = chosen task session at untouched;
    });
  };
  blocks = record {
    entries = h.entries ∙ kept-entries (view past) (view (tested rows ∷ past)) (λ t b. rw (tested-view past rows t) refl) (registered past);
    on_disk = h.on_disk;
    placed = λ task. rw (tested-view past rows task) (assumption (h.placed task));
    unopened = λ task more. rw (tested-view past rows task) (untouched-tested disk past held h task more rows (given task));
  };
}

pub all-tested : {disk : Shape} {past : Past} {old now : List Session} {held : List Entry} {instant : ℕ} {before rows : List BackRow}
    → HaveChosen disk past old held
    → AreTested past old now instant before rows (length now)
    → Tells disk (tested (test_rows_found past instant) ∷ past) now held
    × (rows ≡ before ++ flat_map (ends_of past instant) (task_numbers past))
all-tested {disk} {past} {old} {now} {held} {instant} {before} chosen is =
    let all = test_rows_found past instant in
    let given : AreAllRows past all =
    λ task. rows-given past instant [] nothing-mute task (λ more. (chosen.blocks.unopened task more).choices) in (
      tells-tested all now chosen.blocks (is.as_many ∙ chosen.as_many) given
          (λ task session at. is.earlier all given task session (slice_get_within now task session at) at)
          (λ task session at untouched. let found = element_at old task (omega (arith, slice_get_within now task session at, is.as_many)) in
          (chosen.each task found.0 found.1).chosen),
      is.rows_are ∙ ap (λ n. before ++ flat_map (ends_of past instant) (range_with_len 0 n)) (is.as_many ∙ chosen.as_many),
    )
