-- One task changes, and the others stay.
use Rattle.std.proofs.lemmas.List.{set-get_or, set-set, get_or-set_same}
use Rattle.fb_units.proofs.Alike.{same_map}
use Rattle.fb_tasks.proofs.Words.{◌≡◌, ℕ, suc, ◌<◌, ◌≤◌, ◌==◌, if◌then◌else◌, List, [], ◌∷◌, false, Some, length, map, set, get_or}
use Rattle.fb_tasks.proofs.Words.{slice_get, append-nil, refl, ap, sym, ◌∙◌, arith, subst, AllByRecursion, length-set, slice_get-get_or}
use Rattle.fb_tasks.proofs.Words.{Shape, Call, Block, Entry, after, state_after, Event, Past, called, tasks, registered, TaskView, view}
use Rattle.fb_tasks.proofs.Words.{state_in, called-silent, same_number, Session, entry_by, entry_of, Told, IsPlaced, IsBlockOf, Tells}
use Rattle.fb_tasks.proofs.Words.{IsQuiet, true, true≢false, element_at}
use Rattle.fb_tasks.proofs.Words.{all_weaker, ne_eqb, each_set, one_or_other, nat_tests, get_or_from_slice_get}
use Rattle.fb_wanted.specs.declared.block.Change.{Change}

pub get_other : {X : Type 0} (xs : List X) (i k : ℕ) (y : X) → (i ≡ k → ⊥) → slice_get (set xs i y) k ≡ slice_get xs k
get_other (x ∷ xs) (suc i) (suc k) y other = get_other xs i k y (λ e. other (ap suc e))
get_other _ _ _ y other = grind arith

pub set_same : {X : Type 0} (xs : List X) (i : ℕ) (x : X) → slice_get xs i ≡ Some x → set xs i x ≡ xs
set_same xs i x h = ap (set xs i) (sym (get_or_from_slice_get xs i x x h)) ∙ set-get_or xs i x

-- no block changes its state
pub kept-entries : (old new : ℕ → TaskView) → ((t : ℕ) (block : Block) → state_in (old t) block ≡ state_in (new t) block)
    → (bs : List Block)
    → map (entry_by old) bs ≡ map (entry_by new) bs
kept-entries old new same bs = same_map (entry_by old) (entry_by new) (λ b. ap (λ s. record { block = b; state = s }) (same b.task b)) bs

-- the blocks of one task are changed, as far as its new view says
pub changed-entries : (task : ℕ) (change : Change) (old new : ℕ → TaskView) (bs : List Block)
    → ((t : ℕ) → (task == t) ≡ false → new t ≡ old t)
    → AllByRecursion (λ block. state_after change block (state_in (old task) block) ≡ state_in (new task) block) bs
    → after task change (map (entry_by old) bs) ≡ map (entry_by new) bs
changed-entries task change old new [] others own = refl
changed-entries task change old new (b ∷ bs) others own =
    rw (changed-entries task change old new bs others own.1) (ap (λ s. record { block = b; state = s } ∷ map (entry_by new) bs) here) where
      here : (if b.task == task then state_after change b (state_in (old b.task) b) else state_in (old b.task) b) ≡ state_in (new b.task) b
      here = one_or_other (λ t. (if t == task then state_after change b (state_in (old t) b) else state_in (old t) b) ≡ state_in (new t) b)
          task b.task
          (rw (same_number task task refl) own.0)
          (λ other. let far : (b.task == task) ≡ false = grind (arith, nat_tests) in rw (far, others b.task other) refl)

-- an event of one task that opens none
module _ (disk : Shape) (past : Past) (event : Event) (task : ℕ)
    (others : (t : ℕ) → (task == t) ≡ false → view (event ∷ past) t ≡ view past t) (kept : tasks (event ∷ past) ≡ tasks past) where
  pub one-tells : (sessions : List Session) (new : Session) (held now : List Entry) → task < length (tasks past)
      → AllByRecursion (IsBlockOf disk (length (tasks past))) (registered (event ∷ past))
      → now ≡ map (entry_of (event ∷ past)) (registered (event ∷ past))
      → IsPlaced disk (view (event ∷ past) task).work
      → Told (view (event ∷ past) task) new
      → Tells disk past sessions held → Tells disk (event ∷ past) (set sessions task new) now
  one-tells sessions new held now opened on_disk entries placed told h = record {
    as_many = length-set sessions task new ∙ (h.as_many ∙ ap length (sym kept));
    each = each_set (λ t. Told (view (event ∷ past) t)) sessions task new told
        (λ t session differ at. rw (others t (ne_eqb task t differ)) (h.each t session at));
    blocks = record {
      entries = entries;
      on_disk = rw kept on_disk;
      placed =
          λ t. one_or_other (λ t. IsPlaced disk (view (event ∷ past) t).work) task t placed (λ other. rw (others t other) (h.placed t));
      unopened = λ t more. let beyond : length (tasks past) ≤ t = subst (λ ts. length ts ≤ t) kept more in
          rw (others t (ne_eqb task t (λ e. absurd (omega arith)))) (h.unopened t beyond);
    };
  }

-- a session is touched
module _ (sessions : List Session) {touched : List Session} {task : ℕ} (opened : task < length sessions)
    (flagged : (session : Session) → slice_get sessions task ≡ Some session
    → touched ≡ set sessions task (record session { touched = true })) where
  own : (session : Session) × (slice_get sessions task ≡ Some session)
  own = element_at sessions task opened

  is_set : touched ≡ set sessions task (record own.0 { touched = true })
  is_set = flagged own.0 own.1

  pub touched_length : length touched ≡ length sessions
  touched_length = rw is_set (length-set sessions task (record own.0 { touched = true }))

  pub touched-now : (session : Session) → session ≡ get_or touched task session → session.touched ≡ true
  touched-now session at =
      ap (λ (s : Session). s.touched) (rw is_set at at ∙ get_or-set_same sessions task (record own.0 { touched = true }) session opened)

  pub touched-set : (new : Session) → set touched task new ≡ set sessions task new
  touched-set new = rw is_set (set-set sessions task (record own.0 { touched = true }) new)

  -- it tells what it did
  pub touched-tells : {disk : Shape} {past : Past} {held : List Entry} → Tells disk past sessions held → Tells disk past touched held
  touched-tells {past} h =
      let told = h.each task own.0 own.1 in
      let quiet : true ≡ false → IsQuiet (view past task) = λ untouched. absurd (true≢false untouched) in
      record {
        as_many = touched_length ∙ h.as_many;
        each = rw is_set (each_set (λ t. Told (view past t)) sessions task (record own.0 { touched = true }) (assumption (quiet, told))
            (λ t session differ at. h.each t session at));
        blocks = h.blocks;
      }

-- an event that changes no task
pub silent-tells : (disk : Shape) (past : Past) (event : Event) (sessions : List Session) (held : List Entry)
    → ((t : ℕ) → view (event ∷ past) t ≡ view past t) → tasks (event ∷ past) ≡ tasks past → registered (event ∷ past) ≡ registered past
    → Tells disk past sessions held → Tells disk (event ∷ past) sessions held
silent-tells disk past event sessions held same kept blocks h = record {
  as_many = h.as_many ∙ ap length (sym kept);
  each = λ t session at. rw (same t) (h.each t session at);
  blocks = record {
    entries = h.entries ∙ rw blocks (kept-entries (view past) (view (event ∷ past)) (λ t b. rw (same t) refl) (registered past));
    on_disk = rw (kept, blocks) h.on_disk;
    placed = λ t. rw (same t) (h.placed t);
    unopened = λ t more. rw (same t) (h.unopened t (subst (λ ts. length ts ≤ t) kept more));
  };
}

-- a call of an opened task that registers nothing: its session and its blocks change as its view does
pub call-tells : (disk : Shape) (past : Past) (call : Call) (items seen : List Session) (task : ℕ) (session new : Session)
    (held now : List Entry) (change : Change) (changed : TaskView)
    → tasks (called call [] ∷ past) ≡ tasks past → call.task ≡ task → view (called call [] ∷ past) task ≡ changed
    → items ≡ seen → task < length seen → session ≡ get_or items task session → now ≡ after task change held
    → (IsPlaced disk (view past task).work → IsPlaced disk changed.work)
    → (Told (view past task) session → Told changed new)
    → ((block : Block) → IsBlockOf disk (length (tasks past)) block
    → state_after change block (state_in (view past task) block) ≡ state_in changed block)
    → Tells disk past seen held → Tells disk (called call [] ∷ past) (set items task new) now
call-tells disk past call items seen task session new held now change changed kept own is_now same opened at is_after places tells states h =
    let within : task < length (tasks past) = omega (arith, h.as_many) in
    let there : slice_get seen task ≡ Some session =
    subst (λ xs. slice_get xs task ≡ Some session) same (slice_get-get_or items task session (rw same opened) ∙ ap Some (sym at)) in
    let others = λ (t : ℕ) (other : (task == t) ≡ false). called-silent past call kept t (ap (λ k. k == t) own ∙ other) in
    rw same (one-tells disk past (called call []) task others kept seen new held now within
    (rw append-nil h.on_disk)
    (is_after
    ∙ (ap (after task change) h.entries ∙ (changed-entries task change (view past) (view (called call [] ∷ past)) (registered past) others
    (rw is_now (all_weaker (IsBlockOf disk (length (tasks past)))
    (λ block. state_after change block (state_in (view past task) block) ≡ state_in changed block) states (registered past) h.on_disk))
    ∙ ap (map (entry_of (called call [] ∷ past))) (sym (append-nil (registered past))))))
    (rw is_now (places (h.placed task)))
    (rw is_now (tells (h.each task session there))) h)
