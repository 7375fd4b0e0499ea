-- The numbers of blocks in their tasks.
use Rattle.fb_wanted.proofs.Words.{◌≡◌, ℕ, ◌≤◌, inl, inr, ◌==◌, List, [], ◌∷◌, ◌++◌, true, Some, if◌then◌else◌, filter, slice_get, refl}
use Rattle.fb_wanted.proofs.Words.{ap, sym, ◌∙◌, arith, subst, option_map, cases_Bool, nat_tests, filter-append, slice_get-map}
use Rattle.fb_wanted.proofs.Words.{old_or_last, Block, Entry, AreInOrder, AreSmall, blocks_of, registered_count, is_of_task, indexes_of}
use Rattle.std.proofs.Common.{append-nil}
use Rattle.fb_wanted.specs.States.{is_block}
use Rattle.fb_wanted.proofs.Standing.{among}

pub blocks-more : (es : List Entry) (e : Entry) → blocks_of (es ++ e ∷ []) ≡ blocks_of es ++ e.block ∷ []
blocks-more [] e = refl
blocks-more (x ∷ es) e = ap (λ l. x.block ∷ l) (blocks-more es e)

-- the blocks of a task are those of its entries
pub task-blocks : (task : ℕ) (es : List Entry) → filter (λ block. block.task == task) (blocks_of es)
    ≡ blocks_of (filter (is_of_task task) es)
task-blocks task [] = refl
task-blocks task (e ∷ es) = elim (cases_Bool (e.block.task == task)) [
  | inl yes' ↦ rw yes' (ap (λ l. e.block ∷ l) (task-blocks task es))
  | inr no' ↦ rw no' (task-blocks task es)
]

in_order-more : (bs : List Block) (b : Block) → AreInOrder bs → b.index ≡ registered_count b.task bs → AreInOrder (bs ++ b ∷ [])
in_order-more bs b h new task k block at =
    let split = filter-append (λ other. other.task == task) bs (b ∷ []) in
    elim (cases_Bool (b.task == task)) [
      | inl own ↦
          let same : b.task ≡ task = grind (arith, nat_tests) in
          let list : filter (λ other. other.task == task) (bs ++ b ∷ []) ≡ filter (λ other. other.task == task) bs ++ b ∷ [] = split
          ∙ ap (λ v. filter (λ other. other.task == task) bs ++ (if v then b ∷ [] else [])) own in
          elim (old_or_last (filter (λ other. other.task == task) bs) b block k (ap (λ l. slice_get l k) (sym list) ∙ at)) [
            | inl old ↦ h task k block old.1
            | inr last ↦ ap (λ c. c.index) last.1 ∙ (new ∙ (ap (λ t. registered_count t bs) same ∙ sym last.0))
          ]
      | inr other ↦
          let list : filter (λ other. other.task == task) (bs ++ b ∷ []) ≡ filter (λ other. other.task == task) bs = split
          ∙ (ap (λ v. filter (λ other. other.task == task) bs ++ (if v then b ∷ [] else [])) other ∙ append-nil _) in
          h task k block (ap (λ l. slice_get l k) (sym list) ∙ at)
    ]

pub numbered-more : (es : List Entry) (e : Entry) → AreInOrder (blocks_of es)
    → e.block.index ≡ registered_count e.block.task (blocks_of es)
    → AreInOrder (blocks_of (es ++ e ∷ []))
numbered-more es e h new = subst AreInOrder (sym (blocks-more es e)) (in_order-more (blocks_of es) e.block h new)

pub small-more : (es : List Entry) (e : Entry) → AreSmall (blocks_of es) → e.block.weight ≤ 1000 → e.block.count ≤ 2048
    → AreSmall (blocks_of (es ++ e ∷ []))
small-more es e h light short = subst AreSmall (sym (blocks-more es e)) (λ i b at. elim (old_or_last (blocks_of es) e.block b i at) [
  | inl old ↦ h i b old.1
  | inr new ↦ subst (λ c. (c.weight ≤ 1000) × (c.count ≤ 2048)) (sym new.1) (light, short)
])

-- the block of an entry stands where the entry does
pub block_there : (es : List Entry) (i : ℕ) (e : Entry) → slice_get es i ≡ Some e → slice_get (blocks_of es) i ≡ Some e.block
block_there es i e at = slice_get-map (λ x. x.block) es i ∙ ap (option_map (λ x. x.block)) at

-- the weight and the size of a registered block are within limits
pub small_at : (es : List Entry) (i : ℕ) (e : Entry) → AreSmall (blocks_of es) → slice_get es i ≡ Some e
    → (e.block.weight ≤ 1000) × (e.block.count ≤ 2048)
small_at es i e h at = h i e.block (block_there es i e at)

-- the k-th block of a task has the number k
pub number_at : (es : List Entry) (task k : ℕ) (e : Entry) → AreInOrder (blocks_of es) → slice_get (filter (is_of_task task) es) k ≡ Some e
    → e.block.index ≡ k
number_at es task k e h at = h task k e.block
    (ap (λ l. slice_get l k) (task-blocks task es) ∙ block_there (filter (is_of_task task) es) k e at)

pub block_is : (task number : ℕ) (e : Entry) → is_block task number e ≡ true → (is_of_task task e ≡ true) × (e.block.index ≡ number)
block_is task number e h = (grind (arith, nat_tests), grind (arith, nat_tests))

-- the block with a number in its task is found at that index among the blocks of the task
pub found : (es : List Entry) (task number i : ℕ) (e : Entry) → AreInOrder (blocks_of es) → slice_get es i ≡ Some e
    → is_block task number e ≡ true
    → (slice_get (indexes_of (is_of_task task) es) number ≡ Some i) × (slice_get (filter (is_of_task task) es) number ≡ Some e)
found es task number i e h at is =
    let own = block_is task number e is in
    let it = among (is_of_task task) es i e at own.0 in
    let same : it.0 ≡ number = sym (number_at es task it.0 e h it.2) ∙ own.1 in
    (ap (slice_get (indexes_of (is_of_task task) es)) (sym same) ∙ it.1, ap (slice_get (filter (is_of_task task) es)) (sym same) ∙ it.2)
