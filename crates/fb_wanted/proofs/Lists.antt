-- Lists of lists.
use Rattle.fb_wanted.proofs.Words.{◌≡◌, ℕ, inl, inr, ◌==◌, List, [], ◌∷◌, true, get_or, refl, ap, ◌∙◌, arith, cases_Bool, nat_tests}
use Rattle.fb_wanted.proofs.Words.{Counts, Entry, OfTask, counts_of, no_counts, IsTaskChanged, no_blocks, joined, counted_anew, grown_task}

-- if the index that was added last to a task is removed again, all tasks are as before
pub taken_back : (old one two : List OfTask) (n index : ℕ)
    → IsTaskChanged old one n (joined index)
    → ((blocks : OfTask) (last : ℕ) → get_or one n no_blocks ≡ joined last blocks → IsTaskChanged one two n (λ _. blocks))
    → (k : ℕ) → get_or two k no_blocks ≡ get_or old k no_blocks
taken_back old one two n index added back k =
    let itself : (n == n) ≡ true = grind (arith, nat_tests) in
    let last : get_or one n no_blocks ≡ joined index (get_or old n no_blocks) = added n ∙ rw itself refl in
    elim (cases_Bool (n == k)) [
      | inl here ↦ let same : n ≡ k = grind (arith, nat_tests) in back (get_or old n no_blocks) index last k
          ∙ rw here (ap (λ j. get_or old j no_blocks) same)
      | inr other ↦ back (get_or old n no_blocks) index last k ∙ rw other (added k ∙ rw other refl)
    ]

-- the index of a block is added to its task, and the block is counted
pub joined_counted : (old one two : List OfTask) (index : ℕ) (e : Entry) (lost gained : Counts) → lost ≡ no_counts
    → gained ≡ counts_of e.block.task (e ∷ []) → IsTaskChanged old one e.block.task (joined index)
    → IsTaskChanged one two e.block.task (counted_anew lost gained) → IsTaskChanged old two e.block.task (grown_task index e)
joined_counted old one two index e lost gained none more added counted k = elim (cases_Bool (e.block.task == k)) [
  | inl here ↦
      let blocks = joined index (get_or old k no_blocks) in
      counted k ∙ rw here (ap (counted_anew lost gained) (added k ∙ rw here refl)
      ∙ (ap (λ x. counted_anew x gained blocks) none ∙ ap (λ x. counted_anew no_counts x blocks) more))
  | inr other ↦ counted k ∙ rw other (added k ∙ rw other refl)
]
