-- Calls and writes that change the states of blocks alone.
use Rattle.fb_tasks.proofs.Words.{◌≡◌, subst, nat_lt, Shape, Resume, Abort, shares, called, Cleans, Stands, IsCall, MayAsk, places, Backup}
use Rattle.fb_tasks.proofs.Words.{ℕ, ◌<◌, [], ◌∷◌, set, ap, sym, ◌∙◌, map, not, inl, inr, Told, Kind}
use Rattle.fb_tasks.proofs.Words.{List, slice_get, ResumeAll, opened_by, choice_in, and_parts, is_backup, all_weaker, and-false, nat_tests}
use Rattle.fb_tasks.proofs.Words.{Bool, true, Some, refl, ◌&&◌, Close, Call, Entry, after, Past, tasks, view, ended, Tells, Block, State}
use Rattle.fb_tasks.proofs.Words.{false, is_delivered, aborted_view, written_view, resumed-view, aborted-view, written-view, list_all_each}
use Rattle.fb_tasks.proofs.Words.{length, get_or, Promote, is_over, is_done, Session, IsQuiet, MayTake, element_at, all_any, held_at}
use Rattle.fb_tasks.proofs.Words.{Request}
use Rattle.fb_tasks.proofs.Words.{arith, Suspend, finished, TaskView, rewanted, IsAtWork, entry_of, IsPlaced, is_clean, each_all, list_all}
use Rattle.fb_tasks.proofs.Words.{append-nil, closed_view, is_unsealed, closed-view, HoldsChoice, kept_segment, AreReported, IsUntouched}
use Rattle.fb_tasks.proofs.Words.{SuspendAll, AbortRange, calls_of, registered, LogSegment, is_cleaned, HoldsImage, true≢false, cases_Bool}
use Rattle.fb_tasks.proofs.Words.{is_complete_as, suspended-view, promoted-silent, written-silent, get_or_from_slice_get, AllByRecursion}
use Rattle.fb_tasks.proofs.{Frames.call-tells, Frames.silent-tells, States.show_suspended, States.show_resumed, States.never_held_back}
use Rattle.fb_tasks.proofs.{States.show_aborted, States.states-told, States.ended-done, States.holds-fewer, Rules.open_there}
use Rattle.fb_tasks.proofs.{Rules.terms_there}
use Rattle.fb_clean.specs.Segments as clean

suspension-told : (held_back : Bool) (v : TaskView) (session : Session) → Told v session
    → Told (record v { suspended = held_back }) (record session { suspended = held_back })
suspension-told held_back v session h =
    let quiet : session.touched ≡ false → IsQuiet (record v { suspended = held_back }) = λ untouched. assumption (h.quiet untouched) in
    assumption (h, quiet)

module _ (disk : Shape) (past : Past) (call : Call) (items seen : List Session) (task : ℕ) (session : Session) (held now : List Entry) where
  pub suspended-tells : IsCall task Suspend call → items ≡ seen → task < length seen → session ≡ get_or items task session
      → now ≡ after task SuspendAll held → Tells disk past seen held
      → Tells disk (called call [] ∷ past) (set items task (record session { suspended = true })) now
  suspended-tells is same opened at is_after =
      let kept : tasks (called call [] ∷ past) ≡ tasks past = ap (λ a. opened_by a (tasks past)) is.action in
      call-tells disk past call items seen task session (record session { suspended = true }) held now SuspendAll
      (record (view past task) { suspended = true }) kept is.task
      (suspended-view past call kept task is.task is.action) same opened at is_after (λ placed. placed)
      (suspension-told true (view past task) session)
      (λ block on. show_suspended ((view past task).bare block) (view past task).suspended)

  pub resumed-tells : IsCall task Resume call → items ≡ seen → task < length seen → session ≡ get_or items task session
      → now ≡ after task ResumeAll held → Tells disk past seen held
      → Tells disk (called call [] ∷ past) (set items task (record session { suspended = false })) now
  resumed-tells is same opened at is_after =
      let kept : tasks (called call [] ∷ past) ≡ tasks past = ap (λ a. opened_by a (tasks past)) is.action in
      call-tells disk past call items seen task session (record session { suspended = false }) held now ResumeAll
      (record (view past task) { suspended = false }) kept is.task
      (resumed-view past call kept task is.task is.action) same opened at is_after (λ placed. placed)
      (suspension-told false (view past task) session)
      (λ block on. show_resumed ((view past task).bare block) (view past task).suspended (never_held_back past task block))

pub promoted-tells : (disk : Shape) (past : Past) (call : Call) (first count : ℕ) (sessions : List Session) (held : List Entry)
    → call.action ≡ Promote first count
    → Tells disk past sessions held → Tells disk (called call [] ∷ past) sessions held
promoted-tells disk past call first count sessions held is h =
    let kept : tasks (called call [] ∷ past) ≡ tasks past = ap (λ a. opened_by a (tasks past)) is in
    silent-tells disk past (called call []) sessions held (λ t. promoted-silent past call kept t first count is) kept
    (append-nil (registered past)) h

pub aborted-tells : (disk : Shape) (past : Past) (call : Call) (task first count : ℕ) (sessions touched : List Session)
    (held now : List Entry) → IsCall task (Abort first count) call → now ≡ after task (AbortRange first count) held
    → ((session : Session) → slice_get sessions task ≡ Some session → touched ≡ set sessions task (record session { touched = true }))
    → MayTake disk past sessions held call → Tells disk (called call [] ∷ past) touched now
aborted-tells disk past call task first count sessions touched held now is is_after flagged may =
    let h = may.tells in
    let asks = subst (λ t. MayAsk disk (calls_of past) t (Abort first count)) is.task
    (subst (MayAsk disk (calls_of past) call.task) is.action may.asks) in
    let opened : task < length sessions = omega (arith, (open_there past task asks.0).0, h.as_many) in
    let found = element_at sessions task opened in
    let session = found.0 in
    let other : is_clean session.kind ≡ false =
    ap (λ t. is_clean t.kind) (sym (terms_there past task ∙ (h.each task session found.1).terms)) ∙ asks.1 in
    let kept : tasks (called call [] ∷ past) ≡ tasks past = ap (λ a. opened_by a (tasks past)) is.action in
    subst (λ xs. Tells disk (called call [] ∷ past) xs now) (sym (flagged session found.1))
    (call-tells disk past call sessions sessions task session (record session { touched = true }) held now (AbortRange first count)
    (aborted_view first count (view past task)) kept is.task (aborted-view past call kept task first count is.task is.action) refl opened
    (sym (get_or_from_slice_get sessions task session session found.1)) is_after (λ placed. assumption placed)
    (states-told (λ block. ended (shares first count block)) (λ block before done. grind arith)
    (view past task) session true (λ untouched. absurd (true≢false untouched)) other)
    (λ block on. show_aborted ((view past task).bare block) (view past task).suspended (shares first count block)) h)

fewer : (block : Block) (before : State) → is_delivered (ended true before) ≡ true → is_delivered before ≡ true
fewer block before done = grind arith

left_all : (v : TaskView) (xs : List LogSegment)
    → map clean.no_longer_waiting (map (kept_segment v.work) xs) ≡ map (kept_segment (closed_view v).work) xs
left_all v [] = refl
left_all v (x ∷ xs) = rw (left_all v xs) (simp and-false)

closed-cleans : (v : TaskView) (log : clean.Cleaning) → Cleans v.work log → Cleans (closed_view v).work (clean.after_drop log)
closed-cleans v log h =
    let cleaned : AllByRecursion (λ choice. is_cleaned (closed_view v).work choice ≡ true) h.done = simp ended-done h.cleaned in
    let taken = all_weaker (HoldsChoice v.work log) (HoldsChoice (closed_view v).work log)
    (λ choice. holds-fewer v.work (λ _. ended true) fewer (clean.taken_for log choice.segment.number) choice.blocks)
    (choice_in h.current) h.taken in
    let over : true ≡ true → AllByRecursion (λ block. is_over ((closed_view v).bare block) ≡ true) v.blocks =
    λ _. all_any (λ block. is_over (ended true (v.bare block)) ≡ true) (λ block. grind arith) v.blocks in
    let segments = ap (map clean.no_longer_waiting) h.segments ∙ left_all v v.segments in
    record { done = h.done; current = h.current; by = assumption (cleaned, taken, over, segments, h.by) }

closed-told : (v : TaskView) (session : Session) → session.touched ≡ true → Told v session
    → Told (closed_view v) (record session { closed = true; log = clean.after_drop session.log })
closed-told v session touched h =
    let image : is_unsealed v ≡ true → HoldsImage (closed_view v).work (held_at session.image) = λ is_open.
    let image = h.image is_open in
    record { each = holds-fewer v.work (λ _. ended true) fewer (held_at session.image) v.blocks image.each; only = image.only } in
    let log = λ (cleans : is_clean session.kind ≡ true). closed-cleans v session.log (h.log cleans) in
    let at_work : IsAtWork (closed_view v).work session = λ cleans. simp ended-done (h.at_work cleans) in
    let reported : AreReported (closed_view v).work = simp ended-done h.reported in
    let quiet : session.touched ≡ false → IsQuiet (closed_view v) = λ untouched. absurd (true≢false (sym touched ∙ untouched)) in
    assumption (image, log, at_work, reported, quiet, h)

pub closed-tells : (disk : Shape) (past : Past) (call : Call) (items seen : List Session) (task n : ℕ)
    (session : Session) (log : clean.Cleaning) (held now : List Entry) → IsCall task Close call → items ≡ seen → task < length seen
    → session ≡ get_or items task session → session.touched ≡ true
    → n ≡ length (places disk) → now ≡ after task (AbortRange 0 n) held → log ≡ clean.after_drop session.log → Tells disk past seen held
    → Tells disk (called call [] ∷ past) (set items task (record session { closed = true; log = log })) now
closed-tells disk past call items seen task n session log held now is same opened at touched count is_after dropped h =
    let kept : tasks (called call [] ∷ past) ≡ tasks past = ap (λ a. opened_by a (tasks past)) is.action in
    rw dropped (call-tells disk past call items seen task session (record session {
      closed = true;
      log = clean.after_drop session.log;
    }) held now (AbortRange 0 n) (closed_view (view past task)) kept is.task
    (closed-view past call kept task is.task is.action) same opened at is_after (λ placed. assumption placed)
    (closed-told (view past task) session touched)
    (λ block on. let shared : shares 0 n block ≡ true = rw count (grind (arith, nat_tests, on.some, on.on_disk)) in
    show_aborted ((view past task).bare block) (view past task).suspended (shares 0 n block) ∙ rw shared refl) h)

backup_other : (k : Kind) → is_backup k ≡ true → is_clean k ≡ false
backup_other k e = grind arith

-- whether a session is an open backup
pub open_by : (v : TaskView) (session : Session) → Stands v session → is_unsealed v ≡ (is_backup session.kind && not session.sealed)
open_by v session h = rw (h.terms, h.sealed) refl

-- what is over was over before
done_before : (request : Request) (v : TaskView) (kind : Kind) → is_backup kind ≡ true
    → is_complete_as (written_view request v).work kind ≡ true → is_complete_as v.work kind ≡ true
done_before request v Backup backup h =
    let parts = and_parts (nat_lt 0 (length v.blocks)) (list_all (λ block. is_over ((written_view request v).bare block)) v.blocks) h in
    rw parts.0 (each_all (λ block. is_over (v.bare block)) v.blocks
    (all_weaker (λ block. is_over ((written_view request v).bare block) ≡ true) (λ block. is_over (v.bare block) ≡ true)
    (λ block over. grind arith) v.blocks (list_all_each (λ block. is_over ((written_view request v).bare block)) v.blocks parts.1)))
done_before request v _ backup h = absurd (grind arith)

-- a write completes nothing: a backup that isn't sealed wasn't complete, and still isn't
written-quiet : (request : Request) (v : TaskView) → is_unsealed v ≡ true → IsQuiet v → IsQuiet (written_view request v)
written-quiet request v is_open h =
    let backup = (and_parts (is_backup v.terms.kind) (not v.sealed) is_open).0 in
    let undone : is_done v.work ≡ false = grind (arith, h.sealed) in
    let still : is_done (written_view request v).work ≡ false = grind (arith, done_before request v v.terms.kind backup) in
    record {
      tested = h.tested ∙ (undone ∙ sym still);
      sealed = rw (is_open, still) refl;
      chosen = λ chooses free. absurd (grind (arith, backup_other v.terms.kind backup));
    }

-- an open backup's image holds less, if anything else
written-told : (request : Request) (v : TaskView) (session : Session) → is_unsealed v ≡ true → Told v session
    → Told (written_view request v) session
written-told request v session is_open = λ h. states-told (λ block. rewanted (shares request.lbn request.count block))
    (λ block before done. grind arith) v session session.touched (λ untouched. written-quiet request v is_open (h.quiet untouched))
    (backup_other session.kind (and_parts (is_backup session.kind) (not session.sealed) (sym (open_by v session h.stands) ∙ is_open)).0) h

module _ (disk : Shape) (past : Past) (request : Request) (write : request.write ≡ true) where
  -- what is so of a task is so after the write, where it is so of a backup that is written to
  either : (P : TaskView → Type 0) (task : ℕ) → (is_unsealed (view past task) ≡ true → P (written_view request (view past task)))
      → P (view past task) → P (view (finished request ∷ past) task)
  either P task written still = elim (cases_Bool (is_unsealed (view past task))) [
    | inl is_open ↦ rw (written-view past request task write is_open) (written is_open)
    | inr other ↦ rw (written-silent past request task other) still
  ]

  pub written-tells : (sessions : List Session) (held now : List Entry) → now ≡ map (entry_of (finished request ∷ past)) (registered past)
      → Tells disk past sessions held → Tells disk (finished request ∷ past) sessions now
  written-tells sessions held now entries h = record {
    as_many = h.as_many;
    each = λ task session at. let told = h.each task session at in
        either (λ v. Told v session) task (λ is_open. written-told request (view past task) session is_open told) told;
    blocks = record {
      entries = entries;
      on_disk = h.on_disk;
      placed = λ task. let p = h.placed task in either (λ v. IsPlaced disk v.work) task (λ _. assumption p) p;
      unopened = λ task more. let u = h.unopened task more in either IsUntouched task (λ _. assumption u) u;
    };
  }
