-- Changes of those blocks of a task whose numbers are chosen.
use Rattle.fb_wanted.proofs.Words.{◌≡◌, ℕ, zero, suc, ◌⊎◌, inl, inr, ◌==◌, ◌||◌, List, [], ◌∷◌, Bool, true, false, Some, if◌then◌else◌}
use Rattle.fb_wanted.proofs.Words.{filter, map, slice_get, refl, ap, sym, ◌∙◌, arith, cases_Bool, nat_tests, Change, Entry, State, after}
use Rattle.fb_wanted.proofs.Words.{entry_after, AreInOrder, blocks_of, is_of_task, lbns, IsStable, changed_where, change_nth}
use Rattle.fb_wanted.proofs.Standing.{nth_alone}
use Rattle.fb_wanted.proofs.Numbers.{number_at}
use Rattle.fb_wanted.proofs.OfTask.{others_after}

same_map : (f g : Entry → Entry) (es : List Entry) → ((e : Entry) → f e ≡ g e) → map f es ≡ map g es
same_map f g [] same = refl
same_map f g (e ∷ es) same = ap (λ x. x ∷ map f es) (same e) ∙ ap (λ l. g e ∷ l) (same_map f g es same)

twice : (f g : Entry → Entry) (es : List Entry) → map f (map g es) ≡ map (λ e. f (g e)) es
twice f g [] = refl
twice f g (e ∷ es) = ap (λ l. f (g e) ∷ l) (twice f g es)

-- no block is chosen: nothing changes
pub none_chosen : (task : ℕ) (change : Change) (es : List Entry) → changed_where (λ k. false) task change es ≡ es
none_chosen task change [] = refl
none_chosen task change (e ∷ es) = ap (λ l. e ∷ l) (none_chosen task change es)

-- each block is chosen, or left as it is by the change
pub all_chosen : (chosen : ℕ → Bool) (task : ℕ) (change : Change) (es : List Entry)
    → ((i : ℕ) (e : Entry) → slice_get es i ≡ Some e → (chosen e.block.index ≡ true) ⊎ (entry_after task change e ≡ e))
    → changed_where chosen task change es ≡ after task change es
all_chosen chosen task change [] each = refl
all_chosen chosen task change (e ∷ es) each =
    let rest = all_chosen chosen task change es (λ i x at. each (suc i) x at) in
    elim (each 0 e refl) [
      | inl own ↦ rw own (ap (λ l. entry_after task change e ∷ l) rest)
      | inr same ↦ elim (cases_Bool (chosen e.block.index)) [
        | inl own ↦ rw own (ap (λ l. entry_after task change e ∷ l) rest)
        | inr other ↦ rw other (ap (λ x. x ∷ changed_where chosen task change es) (sym same) ∙ ap (λ l. entry_after task change e ∷ l) rest)
      ]
    ]

-- beside the chosen blocks some are picked that the change leaves as they are
pub more_chosen : (chosen picked : ℕ → Bool) (task : ℕ) (change : Change) (es : List Entry)
    → ((i : ℕ) (e : Entry) → slice_get (changed_where chosen task change es) i ≡ Some e → picked e.block.index ≡ true
    → entry_after task change e ≡ e)
    → changed_where chosen task change es ≡ changed_where (λ k. chosen k || picked k) task change es
more_chosen chosen picked task change [] each = refl
more_chosen chosen picked task change (e ∷ es) each =
    let rest = more_chosen chosen picked task change es (λ i x at. each (suc i) x at) in
    elim (cases_Bool (chosen e.block.index)) [
      | inl own ↦ rw own (ap (λ l. entry_after task change e ∷ l) rest)
      | inr other ↦ elim (cases_Bool (picked e.block.index)) [
        | inl here ↦ rw (other, here) (ap (λ x. x ∷ changed_where chosen task change es) (sym (each 0 e (rw other refl) here))
            ∙ ap (λ l. entry_after task change e ∷ l) rest)
        | inr not_here ↦ rw (other, not_here) (ap (λ l. e ∷ l) rest)
      ]
    ]

pub blocks_stay : (chosen : ℕ → Bool) (task : ℕ) (change : Change) (es : List Entry)
    → blocks_of (changed_where chosen task change es) ≡ blocks_of es
blocks_stay chosen task change [] = refl
blocks_stay chosen task change (e ∷ es) = elim (cases_Bool (chosen e.block.index)) [
  | inl own ↦ rw own (ap (λ l. e.block ∷ l) (blocks_stay chosen task change es))
  | inr other ↦ rw other (ap (λ l. e.block ∷ l) (blocks_stay chosen task change es))
]

-- the LBNs of a task are those of its blocks
lbns-blocks : (task : ℕ) (es : List Entry) → lbns task es ≡ map (λ block. block.lbn) (filter (λ block. block.task == task) (blocks_of es))
lbns-blocks task [] = refl
lbns-blocks task (e ∷ es) = elim (cases_Bool (e.block.task == task)) [
  | inl own ↦ rw own (ap (λ l. e.block.lbn ∷ l) (lbns-blocks task es))
  | inr other ↦ rw other (lbns-blocks task es)
]

pub lbns_stay : (chosen : ℕ → Bool) (task other : ℕ) (change : Change) (es : List Entry)
    → lbns other (changed_where chosen task change es) ≡ lbns other es
lbns_stay chosen task other change es = lbns-blocks other (changed_where chosen task change es)
    ∙ (ap (λ bs. map (λ block. block.lbn) (filter (λ block. block.task == other) bs)) (blocks_stay chosen task change es)
    ∙ sym (lbns-blocks other es))

nth_same : (p : Entry → Bool) (f g : Entry → Entry) (k : ℕ) (es : List Entry)
    → ((e : Entry) → slice_get (filter p es) k ≡ Some e → f e ≡ g e) → change_nth p f k es ≡ change_nth p g k es
nth_same p f g k [] same = refl
nth_same p f g zero (e ∷ es) same = elim (cases_Bool (p e)) [
  | inl yes' ↦ rw yes' (ap (λ x. x ∷ es) (same e (rw yes' refl)))
  | inr no' ↦ rw no' (ap (λ l. e ∷ l) (nth_same p f g zero es (λ x at. same x (rw no' at))))
]
nth_same p f g (suc k) (e ∷ es) same = elim (cases_Bool (p e)) [
  | inl yes' ↦ rw yes' (ap (λ l. e ∷ l) (nth_same p f g k es (λ x at. same x (rw yes' at))))
  | inr no' ↦ rw no' (ap (λ l. e ∷ l) (nth_same p f g (suc k) es (λ x at. same x (rw no' at))))
]

-- to change the k-th block of a task is to choose number k
nth_chosen : (task k : ℕ) (change : Change) (es : List Entry) → AreInOrder (blocks_of es)
    → change_nth (is_of_task task) (entry_after task change) k es ≡ changed_where (λ i. i == k) task change es
nth_chosen task k change es in_order =
    let one = λ (e : Entry). if e.block.index == k then entry_after task change e else e in
    nth_same (is_of_task task) (entry_after task change) one k es (λ e at.
    let is = number_at es task k e in_order at in
    let here : (e.block.index == k) ≡ true = grind (arith, nat_tests) in rw here refl)
    ∙ nth_alone (is_of_task task) one k es
    (λ e other. elim (cases_Bool (e.block.index == k)) [
      | inl here ↦ rw here (others_after task change e other)
      | inr not_here ↦ rw not_here refl
    ])
    (λ j e at ne.
    let is = number_at es task j e in_order at in
    let not_here : (e.block.index == k) ≡ false = grind (arith, nat_tests) in rw not_here refl)

stable_after : (task : ℕ) (change : Change) (e : Entry) → IsStable change
    → entry_after task change (entry_after task change e) ≡ entry_after task change e
stable_after task change e stable = elim (cases_Bool (e.block.task == task)) [
  | inl own ↦ rw own (ap (λ (s : State). let x : Entry = record { block = e.block; state = s } in x) (stable e.block e.state))
  | inr other ↦ rw other refl
]

-- one more block is changed
pub one_more : (chosen : ℕ → Bool) (task k : ℕ) (change : Change) (es : List Entry) → AreInOrder (blocks_of es) → IsStable change
    → change_nth (is_of_task task) (entry_after task change) k (changed_where chosen task change es)
    ≡ changed_where (λ i. chosen i || (i == k)) task change es
one_more chosen task k change es in_order stable =
    let f = entry_after task change in
    nth_chosen task k change (changed_where chosen task change es) (rw (blocks_stay chosen task change es) in_order)
    ∙ (twice (λ e. if e.block.index == k then f e else e) (λ e. if chosen e.block.index then f e else e) es
    ∙ same_map _ _ es (λ e. elim (cases_Bool (chosen e.block.index)) [
      | inl own ↦ rw own (elim (cases_Bool (e.block.index == k)) [
        | inl here ↦ rw here (stable_after task change e stable)
        | inr not_here ↦ rw not_here refl
      ])
      | inr other ↦ rw other refl
    ]))
