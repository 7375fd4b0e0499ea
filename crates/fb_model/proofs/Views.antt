-- How events change the way a task stands.
use Rattle.fb_model.proofs.Words.{◌≡◌, ℕ, zero, suc, length, subst, ◌+◌, List, [], ◌∷◌, ◌++◌, Bool, true, false, inl, inr, append-nil}
use Rattle.fb_model.proofs.Words.{refl, sym, AllByRecursion, list_any, and-true, cases_Bool, nat_tests, arith, filter-append}
use Rattle.fb_model.proofs.Words.{list_any-append, all_weaker, Request, Open, Want, Promote, Call, DeliveryRow, BackRow, Block, Past}
use Rattle.fb_model.proofs.Words.{LogSegment, called, chose, tested, delivered, finished, terms_of, tasks, same_block, bare_state}
use Rattle.fb_model.proofs.Words.{content_of, own_of, is_complete}
use Rattle.std.proofs.Common.{◌==◌, filter}
use Rattle.std.specs.List.{slice_index_or}
use Rattle.std.proofs.Math.Bool.{or-true, or-false, and-false}
use Rattle.fb_units.proofs.Comparing.{same_number}
use Rattle.fb_units.proofs.Filtered.{all_kept}
use Rattle.fb_script.specs.declared.call.Action.TheVariants.{Abort, Suspend, Resume, Close, Segment}
use Rattle.fb_script.specs.declared.call.Kind.{Kind}
use Rattle.fb_script.specs.declared.call.Kind.TheVariants.{Plain}
use Rattle.fb_model.specs.Completion.{view, is_unsealed, closed_view, aborted_view, written_view, added_view, wanted_view}
use Rattle.fb_model.specs.Completion.{chosen_view, delivered_view, tested_view}

-- a call that opens no task
module _ (past : Past) (call : Call) (kept : tasks (called call [] ∷ past) ≡ tasks past) (task : ℕ) where
  -- is another task's
  pub called-silent : (call.task == task) ≡ false → view (called call [] ∷ past) task ≡ view past task
  unfolding view bare_state content_of
  called-silent other = rw (kept, append-nil, list_any-append, other, or-false) refl

  pub suspended-view : call.task ≡ task → call.action ≡ Suspend
      → view (called call [] ∷ past) task ≡ record (view past task) { suspended = true }
  unfolding view bare_state content_of
  suspended-view own is = rw (append-nil, list_any-append, is, same_number call.task task own, or-false) refl

  pub resumed-view : call.task ≡ task → call.action ≡ Resume
      → view (called call [] ∷ past) task ≡ record (view past task) { suspended = false }
  unfolding view bare_state content_of
  resumed-view own is = rw (append-nil, list_any-append, is, same_number call.task task own, or-false) refl

  pub closed-view : call.task ≡ task → call.action ≡ Close → view (called call [] ∷ past) task ≡ closed_view (view past task)
  unfolding view bare_state content_of
  closed-view own is = rw (append-nil, list_any-append, is, same_number call.task task own, or-false) refl

  pub aborted-view : (first count : ℕ) → call.task ≡ task → call.action ≡ Abort first count
      → view (called call [] ∷ past) task ≡ aborted_view first count (view past task)
  unfolding view bare_state content_of
  aborted-view first count own is = rw (append-nil, list_any-append, is, same_number call.task task own, or-false) refl

  pub promoted-silent : (first count : ℕ) → call.action ≡ Promote first count → view (called call [] ∷ past) task ≡ view past task
  unfolding view bare_state content_of
  promoted-silent first count is = elim (cases_Bool (call.task == task)) [
    | inl own ↦ rw (append-nil, list_any-append, is, own, or-false) refl
    | inr other ↦ called-silent other
  ]

  pub added-view : (first blocks age : ℕ) (live : List Bool) → call.task ≡ task → call.action ≡ Segment first blocks age live
      → view (called call [] ∷ past) task
      ≡ added_view (record { number = length (view past task).segments + 1; first = first; blocks = blocks; age = age; live = live })
      (view past task)
  unfolding view bare_state content_of
  added-view first blocks age live own is = rw (append-nil, list_any-append, is, same_number call.task task own, or-false) refl

-- one element more leaves those at other indexes
pub index_other : {X : Type 0} (xs : List X) (x d : X) (i : ℕ) → (length xs == i) ≡ false
    → slice_index_or (xs ++ x ∷ []) i d ≡ slice_index_or xs i d
index_other [] x d zero h = absurd (grind (arith, nat_tests))
index_other [] x d (suc i) h = refl
index_other (y ∷ ys) x d zero h = refl
index_other (y ∷ ys) x d (suc i) h = index_other ys x d i (grind (arith, nat_tests))

module _ (past : Past) (call : Call) (kind : Kind) (weight block : ℕ) (is : call.action ≡ Open kind weight block)
    (next : call.task ≡ length (tasks past)) (task : ℕ) where
  pub opened-silent : (call.task == task) ≡ false → view (called call [] ∷ past) task ≡ view past task
  unfolding view bare_state content_of
  opened-silent other =
      let terms = index_other (tasks past) (record { kind = kind; weight = weight; block = block })
      (record { kind = Plain; weight = 1; block = 1 }) task (rw (sym next) other) in
      rw (is, terms, append-nil, list_any-append, other, or-false) refl

  pub opened-view : call.task ≡ task → view (called call [] ∷ past) task
      ≡ record (view past task) { work = record (view past task).work { terms = terms_of (called call [] ∷ past) task } }
  unfolding view bare_state content_of
  opened-view own = rw (is, append-nil, list_any-append, same_number call.task task own, or-false) refl

-- all blocks of one task are blocks of that task
pub all_filtered : (task : ℕ) (bs : List Block) → AllByRecursion (λ b. b.task ≡ task) bs → filter (λ block. block.task == task) bs ≡ bs
all_filtered task bs h = all_kept (λ (b : Block). b.task == task) bs
    (all_weaker (λ (b : Block). b.task ≡ task) (λ b. (b.task == task) ≡ true) (λ b own. same_number b.task task own) bs h)

no_own : (block : Block) (task : ℕ) (bs : List Block) → (task == block.task) ≡ false → AllByRecursion (λ b. b.task ≡ task) bs
    → list_any (same_block block) bs ≡ false
no_own block task [] other h = refl
no_own block task (b ∷ bs) other h = let differ : (block.task == b.task) ≡ false = other_task block.task task b.task other h.0 in
    rw differ (no_own block task bs other h.1) where
      other_task : (a t b : ℕ) → (t == a) ≡ false → b ≡ t → (a == b) ≡ false
      other_task a t b other e = grind (arith, nat_tests)

no_filtered : (task own : ℕ) (bs : List Block) → (own == task) ≡ false → AllByRecursion (λ b. b.task ≡ own) bs
    → filter (λ block. block.task == task) bs ≡ []
no_filtered task own [] other h = refl
no_filtered task own (b ∷ bs) other h = let differ : (b.task == task) ≡ false = rw h.0 other in
    rw differ (no_filtered task own bs other h.1)

module _ (past : Past) (call : Call) (first count : ℕ) (is : call.action ≡ Want first count) (blocks : List Block)
    (mine : AllByRecursion (λ b. b.task ≡ call.task) blocks) (task : ℕ) where
  pub wanted-silent : (call.task == task) ≡ false → view (called call blocks ∷ past) task ≡ view past task
  unfolding view bare_state content_of
  wanted-silent other =
      let none = λ (b : Block). no_own (own_of task b) call.task blocks other mine in
      rw (is, filter-append, no_filtered task call.task blocks other mine, append-nil, list_any-append, other, or-false) (simp none)

  pub wanted-view : call.task ≡ task → view (called call blocks ∷ past) task ≡ wanted_view task blocks (view past task)
  unfolding view bare_state content_of
  wanted-view own = rw (
    is,
    filter-append,
    all_filtered task blocks (subst (λ t. AllByRecursion (λ b. b.task ≡ t) blocks) own mine),
    list_any-append,
    same_number call.task task own,
    or-true,
  ) refl

module _ (past : Past) (chooser : ℕ) (segment : LogSegment) (blocks : List Block) (mine : AllByRecursion (λ b. b.task ≡ chooser) blocks)
    (task : ℕ) where
  pub chosen-silent : (chooser == task) ≡ false → view (chose chooser segment blocks ∷ past) task ≡ view past task
  unfolding view bare_state content_of
  chosen-silent other =
      let none = λ (b : Block). no_own (own_of task b) chooser blocks other mine in
      rw (filter-append, no_filtered task chooser blocks other mine, append-nil, other) (simp none)

  pub chosen-view : chooser ≡ task
      → view (chose chooser segment blocks ∷ past) task ≡ chosen_view task (record { segment = segment; blocks = blocks }) (view past task)
  unfolding view bare_state content_of
  chosen-view own = rw (
    filter-append,
    all_filtered task blocks (subst (λ t. AllByRecursion (λ b. b.task ≡ t) blocks) own mine),
    same_number chooser task own,
  ) refl

-- a block is delivered
module _ (past : Past) (row : DeliveryRow) (task : ℕ) where
  pub delivered-silent : (row.block.task == task) ≡ false → view (delivered row ∷ past) task ≡ view past task
  unfolding view bare_state content_of
  delivered-silent other = rw other refl

  pub delivered-view : row.block.task ≡ task → view (delivered row ∷ past) task ≡ delivered_view row (view past task)
  unfolding view bare_state content_of
  delivered-view own = rw (same_number row.block.task task own) refl

pub tested-view : (past : Past) (rows : List BackRow) (task : ℕ) → view (tested rows ∷ past) task ≡ tested_view task rows (view past task)
unfolding view bare_state content_of is_complete
tested-view past rows task = refl

-- a request has passed
module _ (past : Past) (request : Request) (task : ℕ) where
  pub read-silent : request.write ≡ false → view (finished request ∷ past) task ≡ view past task
  unfolding view bare_state content_of
  read-silent read = rw read refl

  pub written-silent : is_unsealed (view past task) ≡ false → view (finished request ∷ past) task ≡ view past task
  unfolding view bare_state content_of
  written-silent other = rw other (simp and-false)

  pub written-view : request.write ≡ true → is_unsealed (view past task) ≡ true
      → view (finished request ∷ past) task ≡ written_view request (view past task)
  unfolding view bare_state content_of
  written-view write is_open = rw (write, is_open) (simp and-true)
