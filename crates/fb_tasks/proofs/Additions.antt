-- A session is opened, a log segment is added to one, or a range is wanted for one.
use Rattle.fb_units.proofs.Lists.{get_left}
use Rattle.fb_tasks.proofs.Words.{◌≡◌, ℕ, suc, ◌+◌, ◌<◌, ◌≤◌, ◌==◌, not, List, [], ◌∷◌, ◌++◌, false, None, Some, length, slice_get}
use Rattle.fb_tasks.proofs.Words.{filter, append-nil, length-append, refl, ap, sym, ◌∙◌, arith, subst, ◌-◌, ◌*◌, ◌^◌, Bool, true, Option}
use Rattle.fb_tasks.proofs.Words.{map, set, get_or, ◌&&◌, and-false, AllByRecursion, slice_index_or, list_any, flat_map, true≢false}
use Rattle.fb_tasks.proofs.Words.{and_parts, Shape, Open, Segment, Want, Call, Kind, Plain, MayAsk, has_want, held_at, Block, Entry}
use Rattle.fb_tasks.proofs.Words.{Past, Terms, called, calls_of, tasks, terms_of, opened_by, registered, LogSegment, TaskView, view}
use Rattle.fb_tasks.proofs.Words.{is_unsealed, state_in, Choice, added_view, is_over, is_choice_of, wanted_view, is_chosen}
use Rattle.fb_tasks.proofs.Words.{numbered, opened-silent, opened-view, called-silent, added-view, wanted-silent, wanted-view, Session}
use Rattle.fb_tasks.proofs.Words.{Told, Cleans, IsUntouched, IsPlaced, IsBlockOf, IsAtNumber, HoldsBlock, HoldsChoice, choice_in}
use Rattle.fb_tasks.proofs.Words.{kept_segment, IsSegmentOf, HoldsImage, IsQuiet, entry_of, Stands, AreNumbered, Ascend, AreReported}
use Rattle.fb_tasks.proofs.Words.{BeginsIn, IsAmong, chunk_of, Chunks, IsAtWork, IsCutFrom, Tells, MayTake, IsCall, all_weaker, ne_eqb, one_or_other}
use Rattle.fb_tasks.proofs.Words.{all_append, any_of_none, each_push, get_or_push, length-map, map-append, slice_get-get_or}
use Rattle.fb_tasks.proofs.Words.{slice_get_within}
use Rattle.fb_tasks.proofs.Words.{places, is_clean, is_backup, Content, drop-append_seam, cutting, is_within, Wanted, is_delivered}
use Rattle.fb_tasks.proofs.Words.{take_call, blocks_by, HasBegun, is_done, new_entries, entries_by, cuts_are, none_kept}
use Rattle.fb_model.proofs.Histories.{opened_same}
use Rattle.fb_tasks.proofs.Rules.{open_there, terms_there, given_few}
use Rattle.fb_tasks.proofs.{Frames.kept-entries, Frames.one-tells, States.seen}
use Rattle.fb_tasks.proofs.Registered.{named_same, numbered_joined, fresh_wanted, registered-entries}
use Rattle.fb_tasks.proofs.Cuts.{cuts_placed, cuts_ascend, cuts_begin, cuts_numbered, cuts_own, cuts_count}
use Rattle.fb_tasks.proofs.Changes.{open_by}
use Rattle.fb_script.specs.Allowed as allowed
use Rattle.fb_clean.specs.Segments as clean
use Rattle.fb_wanted.specs.Numbering as numbering

-- what a session is when it has just been opened
pub record IsFresh (kind : Kind) (weight block : ℕ) (session : Session) : Type 0 where
  pub terms : (session.kind ≡ kind) × (session.weight ≡ weight) × (session.block ≡ block)
  pub state : (session.suspended ≡ false) × (session.closed ≡ false) × (session.complete ≡ false) × (session.sealed ≡ false)
  pub image : (lbn : ℕ) → held_at session.image lbn ≡ None
  pub log : session.log ≡ record { block = block; segments = []; unfinished = None; taken = [] }

-- a task of which no event has spoken but for its opening
fresh-cleans : (v : TaskView) (block : ℕ) → v.terms.block ≡ block → IsUntouched v → v.blocks ≡ []
    → Cleans v.work (record { block = block; segments = []; unfinished = None; taken = [] })
fresh-cleans v block size now none =
    let blocks : v.blocks ≡ flat_map (λ choice. choice.blocks) v.choices = rw (none, now.choices) refl in
    let cut : AllByRecursion (IsCutFrom block) v.choices = rw now.choices tt in
    let numbers : AllByRecursion (λ choice. choice.segment.number ≤ length v.segments) v.choices = rw now.choices tt in
    let reported : (number : ℕ) → v.reported number ≡ true → list_any (λ choice. choice.segment.number == number) v.choices ≡ true =
    λ number some. absurd (true≢false (sym some ∙ now.reported number)) in
    let over : v.closed ≡ true → AllByRecursion (λ block. is_over (v.bare block) ≡ true) v.blocks =
    λ closed. absurd (true≢false (sym closed ∙ now.closed)) in
    let segments : [] ≡ map (kept_segment v.work) v.segments = rw now.segments refl in
    record { done = []; current = None; by = assumption (sym size, blocks, cut, numbers, reported, over, segments, now.choices) }

fresh-told : (v : TaskView) (kind : Kind) (weight block : ℕ) (session : Session)
    → v.terms ≡ record { kind = kind; weight = weight; block = block } → IsFresh kind weight block session → weight ≤ 1000
    → (0 < block) × (block ≤ 2048) → IsUntouched v → v.blocks ≡ [] → Told v session
fresh-told v kind weight block session terms fresh light size now none = record {
  stands = record {
    terms = rw (fresh.terms.0, fresh.terms.1, fresh.terms.2) terms;
    weight = omega (arith, fresh.terms.1);
    block = (omega (arith, fresh.terms.2, size.0), omega (arith, fresh.terms.2, size.1));
    suspended = fresh.state.0 ∙ sym now.suspended;
    closed = fresh.state.1 ∙ sym now.closed;
    complete = fresh.state.2 ∙ sym now.complete;
    sealed = fresh.state.3 ∙ sym now.sealed;
    ascend = λ backup. rw none tt;
    unwanted = λ backup _. none;
    image = λ is_open. record { each = rw none tt; only = λ lbn _. fresh.image lbn };
    near = λ is_open. rw none tt;
    log = λ cleans. rw fresh.log (fresh-cleans v block (ap (λ t. t.block) terms) now none);
    unchosen = λ other. now.choices;
  };
  at_work = λ cleans. rw (fresh.log, now.choices) refl;
  reported = rw now.choices tt;
  quiet = λ _. let never : is_done v.work ≡ false = grind (arith, none, now.segments) in record {
    tested = now.complete ∙ sym never;
    sealed = rw never (and-false (is_unsealed v));
    chosen = λ chooses free. ap (filter (λ s. not (is_chosen v.choices s))) now.segments;
  };
}

pub none-yet : (disk : Shape) (past : Past) (n : ℕ) → length (tasks past) ≤ n
    → AllByRecursion (IsBlockOf disk (length (tasks past))) (registered past) → (view past n).blocks ≡ []
unfolding view
none-yet disk past n beyond placed = none_kept (λ b. b.task == n) (registered past) (all_weaker (IsBlockOf disk (length (tasks past)))
    (λ b. (b.task == n) ≡ false) (λ b on. ne_eqb b.task n (λ e. absurd (omega (arith, on.task)))) (registered past) placed)

pub opened-tells : (disk : Shape) (past : Past) (call : Call) (kind : Kind) (weight block : ℕ) (items seen more : List Session)
    (session : Session) (held : List Entry) → call.action ≡ Open kind weight block → items ≡ seen
    → more ≡ items ++ session ∷ [] → IsFresh kind weight block session → MayTake disk past seen held call
    → Tells disk (called call [] ∷ past) more held
opened-tells disk past call kind weight block items seen more session held is same pushed fresh may =
    let h = may.tells in
    let asks = subst (λ a. MayAsk disk (calls_of past) call.task a) is may.asks in
    let given : Terms = record { kind = kind; weight = weight; block = block } in
    let next : call.task ≡ length (tasks past) = asks.0 ∙ ap length (opened_same past) in
    let opened : tasks (called call [] ∷ past) ≡ tasks past ++ given ∷ [] = ap (λ a. opened_by a (tasks past)) is in
    let longer : length (tasks (called call [] ∷ past)) ≡ length (tasks past) + 1 = rw opened (length-append (tasks past) (given ∷ [])) in
    let own_now = opened-view past call kind weight block is next call.task refl in
    let others = opened-silent past call kind weight block is next in
    let terms : terms_of (called call [] ∷ past) call.task ≡ given =
    rw opened (get_or_push (tasks past) given (record { kind = Plain; weight = 1; block = 1 }) call.task (sym next)) in
    let before = h.unopened call.task (omega (arith, next)) in
    let none = none-yet disk past call.task (omega (arith, next)) h.on_disk in
    let opened_view : TaskView =
    record (view past call.task) { work = record (view past call.task).work { terms = terms_of (called call [] ∷ past) call.task } } in
    let told =
    fresh-told opened_view kind weight block session terms fresh asks.2 (omega (arith, asks.3), asks.4) (assumption before) none in
    rw (pushed, same) (record {
      as_many = rw (longer, length-append) (omega (arith, h.as_many));
      each = each_push (λ t. Told (view (called call [] ∷ past) t)) seen session (subst (λ k. Told (view (called call [] ∷ past) k) session)
          (next ∙ sym h.as_many) (rw own_now told))
          (λ t s at. let far : (call.task == t) ≡ false =
          ne_eqb call.task t (λ e. absurd (omega (arith, next, h.as_many, slice_get_within seen t s at))) in
          rw (others t far) (h.each t s at));
      blocks = record {
        entries = h.entries ∙ rw append-nil (kept-entries (view past) (view (called call [] ∷ past)) (λ t b. one_or_other
            (λ t. state_in (view past t) b ≡ state_in (view (called call [] ∷ past) t) b) call.task t (rw own_now refl)
            (λ other. rw (others t other) refl)) (registered past));
        on_disk = rw append-nil (all_weaker (IsBlockOf disk (length (tasks past))) (IsBlockOf disk (length (tasks (called call [] ∷ past))))
            (λ b on. let task : b.task < length (tasks (called call [] ∷ past)) = omega (arith, on.task, longer) in assumption (task, on))
            (registered past) h.on_disk);
        placed = λ t. one_or_other (λ t. IsPlaced disk (view (called call [] ∷ past) t).work) call.task t
            (rw own_now (record { numbered = rw none tt; segments = rw before.segments tt })) (λ other. rw (others t other) (h.placed t));
        unopened = λ t beyond. rw (others t (ne_eqb call.task t (λ e. absurd (omega (arith, longer, next)))))
            (h.unopened t (omega (arith, longer, beyond)));
      };
    })

-- nothing was taken as yet for a segment that has just been added
taken_same : (taken : List (List (ℕ × Option Content))) (i : ℕ) → slice_index_or (taken ++ [] ∷ []) i [] ≡ slice_index_or taken i []
taken_same (t ∷ taken) (suc i) = taken_same taken i
taken_same _ _ = grind arith

-- the next segment of a task
abbrev pub next_segment : TaskView → ℕ → ℕ → ℕ → List Bool → LogSegment
next_segment v first blocks age live = record { number = length v.segments + 1; first = first; blocks = blocks; age = age; live = live }

module _ (v : TaskView) (first blocks age : ℕ) (live : List Bool) (going : v.closed ≡ false) where
  added-cleans : (log : clean.Cleaning) → Cleans v.work log
      → Cleans (added_view (next_segment v first blocks age live) v).work (clean.after_add first blocks age live log)
  added-cleans log h =
      let next = next_segment v first blocks age live in
      let now = clean.after_add first blocks age live log in
      let taken = all_weaker (HoldsChoice v.work log) (HoldsChoice v.work now)
      (λ choice d. subst (λ held. AllByRecursion (HoldsBlock v.work held) choice.blocks)
      (ap (λ ranges. λ lbn. held_at ranges lbn) (sym (taken_same log.taken (choice.segment.number - 1)))) d)
      (choice_in h.current) h.taken in
      let numbers = all_weaker (λ (choice : Choice). choice.segment.number ≤ length v.segments)
      (λ choice. choice.segment.number ≤ length (v.segments ++ next ∷ []))
      (λ choice le. omega (arith, le, length-append v.segments (next ∷ []))) v.choices h.numbers in
      let known = all_weaker (IsAtNumber v.segments) (IsAtNumber (v.segments ++ next ∷ []))
      (λ choice at. get_left v.segments (next ∷ []) (choice.segment.number - 1)
      (slice_get_within v.segments (choice.segment.number - 1) choice.segment at) ∙ at) (choice_in h.current) h.known in
      let over : v.closed ≡ true → AllByRecursion (λ block. is_over (v.bare block) ≡ true) v.blocks =
      λ closed. absurd (true≢false (sym closed ∙ going)) in
      let size : length log.segments ≡ length v.segments = rw h.segments (length-map v.segments (kept_segment v.work)) in
      let none : is_chosen v.choices next ≡ false =
      any_of_none (is_choice_of next) v.choices (all_weaker (λ (choice : Choice). choice.segment.number ≤ length v.segments)
      (λ choice. (choice.segment.number == length v.segments + 1) ≡ false)
      (λ choice le. ne_eqb choice.segment.number (length v.segments + 1) (λ e. absurd (omega (arith, le)))) v.choices h.numbers) in
      let segments : now.segments ≡ map (kept_segment v.work) (v.segments ++ next ∷ []) =
      rw (map-append, sym h.segments, size, h.block, none, going) refl in
      record { done = h.done; current = h.current; by = assumption (taken, numbers, known, over, segments, h.by) }

  added-told : (session : Session) → Told v session → Told (added_view (next_segment v first blocks age live) v)
      (record session { touched = true; log = clean.after_add first blocks age live session.log })
  added-told session h =
      let image : is_unsealed v ≡ true → HoldsImage (added_view (next_segment v first blocks age live) v).work (held_at session.image) =
      λ is_open. assumption (h.image is_open) in
      let log = λ (cleans : is_clean session.kind ≡ true). added-cleans session.log (h.log cleans) in
      let quiet : true ≡ false → IsQuiet (added_view (next_segment v first blocks age live) v) =
      λ untouched. absurd (true≢false untouched) in
      assumption (image, log, quiet, h)

-- what a segment call may ask for, of its session
pub record MayAdd (disk : Shape) (past : Past) (task first blocks : ℕ) (live : List Bool) (session : Session) : Type 0 where
  pub opened : task < length (tasks past)
  pub not_closed : (view past task).closed ≡ false
  pub on_disk : first + blocks * session.block ≤ length (places disk)
  pub few : blocks ≤ 4096
  pub size : length live ≡ blocks
  pub log : first + blocks * session.log.block ≤ length (places disk)
  pub room : length session.log.segments < 2 ^ 32 - 1

pub may_add : (disk : Shape) (past : Past) (call : Call) (task first blocks age : ℕ) (live : List Bool) (sessions : List Session)
    (session : Session) (held : List Entry) → IsCall task (Segment first blocks age live) call
    → slice_get sessions task ≡ Some session → MayTake disk past sessions held call → MayAdd disk past task first blocks live session
may_add disk past call task first blocks age live sessions session held is at h =
    let asks = subst (λ a. MayAsk disk (calls_of past) call.task a) is.action h.asks in
    let there = subst (λ t. allowed.IsOpen (calls_of past) t) is.task asks.0 in
    let stands = (h.tells.each task session at).stands in
    let terms = ap (allowed.terms_of (calls_of past)) is.task ∙ (terms_there past task ∙ stands.terms) in
    let is_cleaning : is_clean session.kind ≡ true = ap (λ t. is_clean t.kind) (sym terms) ∙ asks.1 in
    let size = ap (λ t. t.block) terms in
    let log = stands.log is_cleaning in
    let on_disk : first + blocks * session.block ≤ length (places disk) =
    subst (λ b. first + blocks * b ≤ length (places disk)) size asks.2.inside in
    record {
      opened = (open_there past task there).0;
      not_closed = (open_there past task there).1;
      on_disk = on_disk;
      few = asks.3;
      size = asks.5;
      log = subst (λ b. first + blocks * b ≤ length (places disk)) (sym (log.block ∙ ap (λ t. t.block) stands.terms)) on_disk;
      room = omega (
        arith,
        ap length log.segments,
        length-map (view past task).segments (kept_segment (view past task).work),
        given_few past task,
        ap length (seen past task).segments,
        h.few_calls,
      );
    }

pub added-tells : (disk : Shape) (past : Past) (call : Call) (task first blocks age : ℕ) (live : List Bool) (seen : List Session)
    (session : Session) (log : clean.Cleaning) (held : List Entry) → IsCall task (Segment first blocks age live) call → task < length seen
    → session ≡ get_or seen task session
    → log ≡ clean.after_add first blocks age live session.log → MayTake disk past seen held call
    → Tells disk (called call [] ∷ past) (set seen task (record session { touched = true; log = log })) held
added-tells disk past call task first blocks age live seen session log held is within at added h =
    let there = slice_get-get_or seen task session within ∙ ap Some (sym at) in
    let may = may_add disk past call task first blocks age live seen session held is there h in
    let kept : tasks (called call [] ∷ past) ≡ tasks past = ap (λ a. opened_by a (tasks past)) is.action in
    let own_now = added-view past call kept task first blocks age live is.task is.action in
    let others = λ (t : ℕ) (other : (task == t) ≡ false). called-silent past call kept t (ap (λ k. k == t) is.task ∙ other) in
    let placed = h.tells.placed task in
    let told = h.tells.each task session there in
    rw added (one-tells disk past (called call []) task others kept seen
    (record session { touched = true; log = clean.after_add first blocks age live session.log }) held held may.opened
    (rw append-nil h.tells.on_disk)
    (h.tells.entries ∙ rw append-nil (kept-entries (view past) (view (called call [] ∷ past)) (λ t b. one_or_other
    (λ t. state_in (view past t) b ≡ state_in (view (called call [] ∷ past) t) b) task t (rw own_now refl)
    (λ other. rw (others t other) refl)) (registered past)))
    (rw own_now (record {
      numbered = placed.numbered;
      segments = all_append (IsSegmentOf disk (view past task).terms.block) (view past task).segments
          (next_segment (view past task) first blocks age live ∷ []) placed.segments (
            (
              subst (λ b. first + blocks * b
                  ≤ length (places disk)) (ap (λ t. t.block) (sym told.terms)) may.on_disk,
              may.size,
              may.few,
            ),
            tt,
          );
    }))
    (rw own_now (added-told (view past task) first blocks age live may.not_closed session told)) h.tells)

-- an open backup holds nothing as yet, and no other session is an image
wanted-told : (task : ℕ) (added : List Block) (v : TaskView) (session : Session) (chunks : Chunks) → is_clean session.kind ≡ false
    → is_backup session.kind && v.wants ≡ false → Ascend 0 added → AllByRecursion (λ b. b.task ≡ task) added
    → (is_unsealed v ≡ true → AllByRecursion (BeginsIn chunks) added)
    → Told v session → Told (wanted_view task added v) (record session { touched = true; chunks = chunks })
wanted-told task added v session chunks other once ascends own begins h =
    let view = wanted_view task added v in
    let none : is_backup session.kind ≡ true → v.blocks ≡ [] = λ backup. h.unwanted backup (rw backup at once) in
    let wants : is_backup session.kind ≡ true → true ≡ false → v.blocks ++ added ≡ [] = λ backup never. absurd (true≢false never) in
    let ascend : is_backup session.kind ≡ true → Ascend 0 (v.blocks ++ added) = λ backup. rw (none backup) ascends in
    let empty = λ (is_open : is_unsealed v ≡ true).
    none (ap (λ t. is_backup t.kind) (sym h.terms) ∙ (and_parts (is_backup v.terms.kind) (not v.sealed) is_open).0) in
    let near : is_unsealed v ≡ true → AllByRecursion (BeginsIn chunks) (v.blocks ++ added) = λ is_open. rw (empty is_open) (begins is_open) in
    let image : is_unsealed v ≡ true → HoldsImage view.work (held_at session.image) = λ is_open. record {
      each = rw (empty is_open) (all_weaker (λ b. view.bare b ≡ Wanted) (HoldsBlock view.work (held_at session.image))
          (λ b fresh done. absurd (true≢false (sym done ∙ ap is_delivered fresh))) added
          (fresh_wanted task added v.bare view.bare (λ _. refl) own));
      only = λ lbn outside. (h.image is_open).only lbn (ap (list_any (λ b. is_within b.lbn b.count lbn)) (empty is_open));
    } in
    let log : is_clean session.kind ≡ true → Cleans view.work session.log = λ cleans. absurd (true≢false (sym cleans ∙ other)) in
    let at_work : IsAtWork view.work session = λ cleans. absurd (true≢false (sym cleans ∙ other)) in
    let reported : AreReported view.work = rw (h.unchosen other) tt in
    let quiet : true ≡ false → IsQuiet view = λ untouched. absurd (true≢false untouched) in
    assumption (wants, ascend, near, image, log, at_work, reported, quiet, h)

-- what a want may ask for, of its session
pub record MayWant (disk : Shape) (past : Past) (task first count : ℕ) (held : List Entry) (session : Session) : Type 0 where
  pub opened : task < length (tasks past)
  pub other : is_clean session.kind ≡ false
  pub once : is_backup session.kind && (view past task).wants ≡ false
  pub on_disk : first + count ≤ length (places disk)
  pub few : length held + length (cutting disk session.block first count) ≤ 16000000
  pub next : numbering.registered_count task (numbering.blocks_of held) ≡ length (view past task).blocks
  pub taken : blocks_by disk past task (Want first count)
      ≡ numbered task session.weight (length (view past task).blocks) (cutting disk session.block first count)
  pub stands : Stands (view past task) session

pub may_want : (disk : Shape) (past : Past) (call : Call) (task first count : ℕ) (sessions : List Session) (session : Session)
    (held : List Entry) → IsCall task (Want first count) call
    → slice_get sessions task ≡ Some session → MayTake disk past sessions held call → MayWant disk past task first count held session
unfolding view
may_want disk past call task first count sessions session held is at h =
    let asks = subst (λ a. MayAsk disk (calls_of past) call.task a) is.action h.asks in
    let there = open_there past task (subst (λ t. allowed.IsOpen (calls_of past) t) is.task asks.0) in
    let stands = (h.tells.each task session at).stands in
    let terms = ap (allowed.terms_of (calls_of past)) is.task ∙ (terms_there past task ∙ stands.terms) in
    let taken : blocks_by disk past task (Want first count)
    ≡ numbered task session.weight (length (view past task).blocks) (cutting disk session.block first count) = rw stands.terms refl in
    let few : length (registered past) + length (blocks_by disk past task (Want first count)) ≤ 16 * 10 ^ 6 =
    subst (λ t. length (registered past) + length (blocks_by disk past t (Want first count)) ≤ 16 * 10 ^ 6) is.task
    (subst (λ a. length (registered past) + length (blocks_by disk past call.task a) ≤ 16 * 10 ^ 6) is.action h.few) in
    record {
      opened = there.0;
      other = ap (λ t. is_clean t.kind) (sym terms) ∙ asks.1;
      once = subst (λ k. is_backup k && has_want (calls_of past) task ≡ false) (ap (λ t. t.kind) terms)
          (subst (λ t. is_backup (allowed.terms_of (calls_of past) call.task).kind && has_want (calls_of past) t ≡ false) is.task asks.2);
      on_disk = asks.3.inside;
      few = omega (
        arith,
        few,
        ap length taken ∙ cuts_count task session.weight (length (view past task).blocks) (cutting disk session.block first count),
        ap length h.tells.entries,
        length-map (registered past) (entry_of past),
      );
      next = ap (λ es. numbering.registered_count task (numbering.blocks_of es)) h.tells.entries
          ∙ ap (numbering.registered_count task) (named_same past (registered past));
      taken = taken;
      stands = stands;
    }

module _ (disk : Shape) (past : Past) (call : Call) (task first count : ℕ) (is : IsCall task (Want first count) call) (added : List Block)
    (own : AllByRecursion (λ b. b.task ≡ task) added) (chunks : Chunks) where
  pub wanting-tells : (sessions : List Session) (session : Session) (held now : List Entry) → slice_get sessions task ≡ Some session
      → task < length (tasks past) → is_clean session.kind ≡ false → is_backup session.kind && (view past task).wants ≡ false
      → Ascend 0 added → AreNumbered (length (view past task).blocks) added → AllByRecursion (IsBlockOf disk (length (tasks past))) added
      → (is_unsealed (view past task) ≡ true → AllByRecursion (BeginsIn chunks) added)
      → now ≡ held ++ new_entries session added → Tells disk past sessions held
      → Tells disk (called call added ∷ past) (set sessions task (record session { touched = true; chunks = chunks })) now
  wanting-tells sessions session held now there opened other once ascends after on_disk begins pushed h =
      let mine : AllByRecursion (λ b. b.task ≡ call.task) added = rw is.task own in
      let kept : tasks (called call added ∷ past) ≡ tasks past = ap (λ a. opened_by a (tasks past)) is.action in
      let own_now = wanted-view past call first count is.action added mine task is.task in
      let others =
      λ (t : ℕ) (far : (task == t) ≡ false). wanted-silent past call first count is.action added mine t (ap (λ k. k == t) is.task ∙ far) in
      let told = h.each task session there in
      let placed = h.placed task in
      one-tells disk past (called call added) task others kept sessions (record session { touched = true; chunks = chunks }) held now opened
      (all_append (IsBlockOf disk (length (tasks past))) (registered past) added h.on_disk on_disk)
      (registered-entries past (called call added ∷ past) task added others (λ block. ap (λ v. v.bare block) own_now)
      (ap (λ v. v.suspended) own_now) placed.numbered after own session held now told.suspended h.entries pushed)
      (rw own_now (record {
        numbered = numbered_joined 0 (view past task).blocks added placed.numbered (let e : length (view past task).blocks
            ≡ 0 + length (view past task).blocks = omega arith in subst (λ n. AreNumbered n added) e after);
        segments = placed.segments;
      }))
      (rw own_now (wanted-told task added (view past task) session chunks other once ascends own begins told)) h

pub wanted-tells : (disk : Shape) (past : Past) (call : Call) (task first count : ℕ) (seen : List Session)
    (session : Session) (chunks : Chunks) (held now : List Entry) → length (places disk) ≤ 10 ^ 12 → IsCall task (Want first count) call
    → task < length seen → session ≡ get_or seen task session
    → ((is_backup session.kind && not session.sealed) ≡ true → (lbn : ℕ) → first ≤ lbn → lbn < first + count
    → IsAmong chunks (chunk_of lbn))
    → now ≡ held ++ new_entries session (numbered task session.weight (numbering.registered_count task (numbering.blocks_of held))
    (cutting disk session.block first count))
    → MayTake disk past seen held call
    → Tells disk (take_call disk past call) (set seen task (record session { touched = true; chunks = chunks })) now
wanted-tells disk past call task first count seen session chunks held now small is within at begins pushed h =
    let there = slice_get-get_or seen task session within ∙ ap Some (sym at) in
    let may = may_want disk past call task first count seen session held is there h in
    let taken : blocks_by disk past call.task call.action
    ≡ numbered task session.weight (length (view past task).blocks) (cutting disk session.block first count) =
    ap (λ t. blocks_by disk past t call.action) is.task ∙ (ap (blocks_by disk past task) is.action ∙ may.taken) in
    let next = length (view past task).blocks in
    let cuts = cutting disk session.block first count in
    let are = cuts_are disk session.block first count may.stands.block.0 in
    let added_are : numbered task session.weight (numbering.registered_count task (numbering.blocks_of held)) cuts
    ≡ numbered task session.weight next cuts = ap (λ n. numbered task session.weight n cuts) may.next in
    rw taken (wanting-tells disk past call task first count is (numbered task session.weight next cuts)
    (cuts_own task session.weight next cuts) chunks seen session held now there may.opened may.other may.once
    (cuts_ascend disk task session.weight session.block next first (first + count) 0 cuts (omega arith) are)
    (cuts_numbered task session.weight next cuts)
    (cuts_placed disk (length (tasks past)) task session.weight session.block next first
    (first + count) cuts may.opened may.stands.weight may.stands.block.1 may.on_disk (omega (arith, may.on_disk, small)) are)
    (λ is_open. cuts_begin (λ lbn. IsAmong chunks (chunk_of lbn)) disk task session.weight session.block next first first (first + count) cuts
    (omega arith) (begins (sym (open_by (view past task) session may.stands) ∙ is_open)) are)
    (pushed ∙ ap (λ bs. held ++ new_entries session bs) added_are) h.tells)

-- what a want registers are the blocks that the call gives, in their states: so are the first of them
pub wanted_begun : (disk : Shape) (past : Past) (call : Call) (task first count : ℕ) (seen : List Session)
    (session : Session) (chunks : Chunks) (held now : List Entry) → length (places disk) ≤ 10 ^ 12 → IsCall task (Want first count) call
    → task < length seen → session ≡ get_or seen task session
    → ((is_backup session.kind && not session.sealed) ≡ true → (lbn : ℕ) → first ≤ lbn → lbn < first + count
    → IsAmong chunks (chunk_of lbn))
    → MayTake disk past seen held call
    → HasBegun held (new_entries session
    (numbered task session.weight (numbering.registered_count task (numbering.blocks_of held))
    (cutting disk session.block first count))) now
    → HasBegun held (entries_by disk past call) now
wanted_begun disk past call task first count seen session chunks held now small is within at begins h begun =
    let added = new_entries session (numbered task session.weight (numbering.registered_count task (numbering.blocks_of held))
    (cutting disk session.block first count)) in
    let entry = entry_of (take_call disk past call) in
    let tells = wanted-tells disk past call task first count seen session chunks held (held ++ added) small is within at begins refl h in
    let all : held ++ added ≡ map entry (registered past) ++ entries_by disk past call = tells.entries
    ∙ map-append entry (registered past) (blocks_by disk past call.task call.action) in
    let size : length held ≡ length (map entry (registered past)) = rw h.tells.entries (simp length-map) in
    let same : added ≡ entries_by disk past call = sym (drop-append_seam held added)
    ∙ rw (all, size) (drop-append_seam (map entry (registered past)) (entries_by disk past call)) in
    subst (λ due. HasBegun held due now) same begun
