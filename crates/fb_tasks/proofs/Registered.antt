-- Blocks that an event registers.
use Rattle.fb_tasks.proofs.Words.{State, ◌≡◌, ℕ, suc, ◌+◌, ◌<◌, ◌==◌, if◌then◌else◌, List, [], ◌∷◌, ◌++◌, true, false, inl, inr, length}
use Rattle.fb_tasks.proofs.Words.{filter, map, refl, ap, sym, ◌∙◌, arith, subst, or-true, AllByRecursion, list_any, cases_Bool, map-append}
use Rattle.fb_tasks.proofs.Words.{Block, Entry, Wanted, wanted_unless, Past, registered, same_block, view, own_of, state_in, same_number}
use Rattle.fb_tasks.proofs.Words.{Session, new_entries, entry_of, AreNumbered, entry_in, all_weaker, all_pass, all_with, map_same}
use Rattle.fb_tasks.proofs.Words.{eqb-true, other_number, one_or_other, nat_tests}
use Rattle.fb_tasks.proofs.States.{seen}
use Rattle.fb_model.specs.History.{blocks_of}
use Rattle.fb_wanted.specs.Numbering as numbering

pub itself : (block : Block) → same_block block block ≡ true
itself block = rw (same_number block.task block.task refl, same_number block.index block.index refl) refl

-- each block is one of them
pub all_member : (added : List Block) → AllByRecursion (λ block. list_any (same_block block) added ≡ true) added
all_member [] = tt
all_member (b ∷ bs) = (
  rw (itself b) refl,
  all_weaker (λ block. list_any (same_block block) bs ≡ true) (λ block. list_any (same_block block) (b ∷ bs) ≡ true)
      (λ block h. rw h (or-true (same_block block b))) bs (all_member bs),
)

-- blocks that are numbered on from n have no smaller number
pub no_smaller : (block : Block) (n : ℕ) (added : List Block) → block.index < n → AreNumbered n added
    → list_any (same_block block) added ≡ false
no_smaller block n [] less h = refl
no_smaller block n (b ∷ bs) less h = grind (arith, nat_tests, h.0, no_smaller block (n + 1) bs (omega arith) h.1)

pub no_own : (block : Block) (task : ℕ) (added : List Block) → (block.task ≡ task → ⊥) → AllByRecursion (λ b. b.task ≡ task) added
    → list_any (same_block block) added ≡ false
no_own block task [] other h = refl
no_own block task (b ∷ bs) other h = grind (arith, nat_tests, h.0, no_own block task bs other h.1)

-- the numbers of a task's blocks are below their number
pub numbered_below : (task n total : ℕ) (bs : List Block) → n + length (filter (λ b. b.task == task) bs) ≡ total
    → AreNumbered n (filter (λ b. b.task == task) bs) → AllByRecursion (λ block. block.task ≡ task → block.index < total) bs
numbered_below task n total [] e h = tt
numbered_below task n total (b ∷ bs) e h = elim (cases_Bool (b.task == task)) [
  | inl own ↦ let k = rw own at h in let f = rw own at e in
      ((λ mine. omega (arith, k.0, f)), numbered_below task (n + 1) total bs (omega (arith, f)) k.1)
  | inr other ↦ ((λ mine. absurd (other_number b.task task other mine)), numbered_below task n total bs (rw other at e) (rw other at h))
]

-- no block that is registered already is registered again
pub none_again : (past : Past) (task : ℕ) (added : List Block) → AreNumbered 0 (blocks_of past task)
    → AreNumbered (length (blocks_of past task)) added → AllByRecursion (λ b. b.task ≡ task) added
    → AllByRecursion (λ block. list_any (same_block block) added ≡ false) (registered past)
none_again past task added before after own =
    all_weaker (λ block. block.task ≡ task → block.index < length (blocks_of past task))
    (λ block. list_any (same_block block) added ≡ false)
    (λ block less. elim (cases_Bool (block.task == task)) [
      | inl mine ↦ no_smaller block (length (blocks_of past task)) added (less (eqb-true block.task task mine)) after
      | inr other ↦ no_own block task added (other_number block.task task other) own
    ]) (registered past) (numbered_below task 0 (length (blocks_of past task)) (registered past) (omega arith) before)

-- the blocks of a task are its own
pub own : (past : Past) (task : ℕ) → AllByRecursion (λ block. block.task ≡ task) (view past task).blocks
unfolding view
own past task = all_weaker (λ block. (block.task == task) ≡ true) (λ block. block.task ≡ task) (λ block. eqb-true block.task task)
    (blocks_of past task) (all_pass (λ block. block.task == task) (registered past))

pub numbered_joined : (n : ℕ) (xs ys : List Block) → AreNumbered n xs → AreNumbered (n + length xs) ys → AreNumbered n (xs ++ ys)
numbered_joined n [] ys p q = subst (λ k. AreNumbered k ys) (let e : n + 0 ≡ n = omega arith in e) q
numbered_joined n (x ∷ xs) ys p q = (
  p.0,
  numbered_joined (n + 1) xs ys p.1 (subst (λ k. AreNumbered k ys) (let e : n + suc (length xs) ≡ n + 1 + length xs = omega arith in e) q),
)

-- the registered blocks are the history's
pub named_same : (past : Past) (bs : List Block) → numbering.blocks_of (map (entry_of past) bs) ≡ bs
named_same past [] = refl
named_same past (b ∷ bs) = rw (named_same past bs) refl

-- blocks that were just registered are wanted
pub fresh_wanted : (task : ℕ) (added : List Block) (before now : Block → State)
    → ((block : Block) → now block ≡ (if list_any (same_block (own_of task block)) added then Wanted else before block))
    → AllByRecursion (λ b. b.task ≡ task) added → AllByRecursion (λ block. now block ≡ Wanted) added
fresh_wanted task added before now bare own =
    all_with (λ block. list_any (same_block block) added ≡ true) (λ b. b.task ≡ task) (λ block. now block ≡ Wanted)
    (λ block one mine. bare block ∙ rw (ap (λ t. list_any (same_block (own_of t block)) added) (sym mine) ∙ one) refl) added
    (all_member added) own

-- an event registers blocks of a task, and suspends or resumes nothing
module _ (past new : Past) (task : ℕ) (added : List Block)
    (others : (t : ℕ) → (task == t) ≡ false → view new t ≡ view past t)
    (bare : (block : Block)
    → (view new task).bare block ≡ (if list_any (same_block (own_of task block)) added then Wanted else (view past task).bare block))
    (still : (view new task).suspended ≡ (view past task).suspended)
    (before : AreNumbered 0 (view past task).blocks) (after : AreNumbered (length (view past task).blocks) added)
    (own : AllByRecursion (λ b. b.task ≡ task) added) where
  pub old_bare : AllByRecursion (λ block. block.task ≡ task → (view new task).bare block ≡ (view past task).bare block) (registered past)
  old_bare = all_weaker (λ block. list_any (same_block block) added ≡ false)
      (λ block. block.task ≡ task → (view new task).bare block ≡ (view past task).bare block)
      (λ block none mine. bare block ∙ rw (ap (λ t. list_any (same_block (own_of t block)) added) (sym mine) ∙ none) refl) (registered past)
      (none_again past task added (rw (sym (seen past task).blocks) before) (rw (sym (seen past task).blocks) after) own)

  -- those before stay as they are
  pub old-entries : map (entry_of past) (registered past) ≡ map (entry_of new) (registered past)
  old-entries = map_same (entry_of past) (entry_of new) (registered past)
      (all_weaker (λ block. block.task ≡ task → (view new task).bare block ≡ (view past task).bare block)
      (λ block. entry_of past block ≡ entry_of new block) old_entry (registered past) old_bare) where
        old_entry : (block : Block) → (block.task ≡ task → (view new task).bare block ≡ (view past task).bare block)
            → entry_of past block ≡ entry_of new block
        old_entry block same =
            one_or_other (λ t. (block.task ≡ t) → entry_in (view past t) block ≡ entry_in (view new t) block) task block.task
            (λ mine. rw (same mine, still) refl) (λ other _. rw (others block.task other) refl) refl

  pub registered-entries : (session : Session) (held now : List Entry) → session.suspended ≡ (view past task).suspended
      → held ≡ map (entry_of past) (registered past) → now ≡ held ++ new_entries session added
      → now ≡ map (entry_of new) (registered past ++ added)
  registered-entries session held now says entries pushed =
      let news = map_same (λ block. record { block = block; state = wanted_unless session.suspended }) (entry_of new) added
      (all_with (λ block. (view new task).bare block ≡ Wanted) (λ b. b.task ≡ task)
      (λ block. ◌≡◌ {A = Entry} (record { block = block; state = wanted_unless session.suspended }) (entry_of new block)) new_entry added
      (fresh_wanted task added (view past task).bare (view new task).bare bare own) own) in
      rw (pushed, entries, old-entries, map-append) (ap (λ es. map (entry_of new) (registered past) ++ es) news) where
        new_entry : (block : Block) → (view new task).bare block ≡ Wanted → block.task ≡ task
            → ◌≡◌ {A = Entry} (record { block = block; state = wanted_unless session.suspended }) (entry_of new block)
        new_entry block wanted mine = ap (λ s. record { block = block; state = s }) (rw (says, sym still)
            (subst (λ t. wanted_unless (view new task).suspended ≡ state_in (view new t) block) (sym mine) (rw wanted refl)))
