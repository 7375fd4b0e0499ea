-- The counts of the blocks that pass a test, such as those of a task, as a block is added or comes into another state.
use Rattle.fb_wanted.proofs.Words.{◌≡◌, ℕ, ◌+◌, ◌≤◌, ◌==◌, inl, inr, List, [], ◌∷◌, ◌++◌, true, false, Bool, length, length-append, filter}
use Rattle.fb_wanted.proofs.Words.{slice_get, Some, refl, ap, ◌∙◌, arith, cases_Bool, filter-append, filter-le, Block, Counts, Entry}
use Rattle.fb_wanted.proofs.Words.{State, Wanted, Suspended, Delivered, Aborted, Abort, after, shares, is_open, is_delivered, is_aborted}
use Rattle.fb_wanted.proofs.Words.{counted, counts_of, no_counts, sum_of, recounted, AreNoMore, with_state}
use Rattle.fb_wanted.specs.States.{is_abortable}
use Rattle.fb_wanted.proofs.Sums.{sum-with_state, sum_at}

-- counts are equal if each of them is
pub same_counts : (a b : Counts) → a.registered ≡ b.registered → a.delivered ≡ b.delivered → a.aborted ≡ b.aborted → a ≡ b
same_counts a b x y z = rw (x, y, z) refl

pub filtered-append : (p q : Entry → Bool) (xs ys : List Entry)
    → length (filter p (filter q (xs ++ ys))) ≡ length (filter p (filter q xs)) + length (filter p (filter q ys))
filtered-append p q xs ys = ap (λ l. length (filter p l)) (filter-append q xs ys)
    ∙ (ap length (filter-append p (filter q xs) (filter q ys)) ∙ length-append (filter p (filter q xs)) (filter p (filter q ys)))

pub counts-append : (test : Block → Bool) (xs ys : List Entry) → counted test (xs ++ ys) ≡ sum_of (counted test xs) (counted test ys)
counts-append test xs ys =
    let own = λ (e : Entry). test e.block in
    let a = ap length (filter-append own xs ys) ∙ length-append (filter own xs) (filter own ys) in
    let b = filtered-append (λ e. is_delivered e.state) own xs ys in
    let c = filtered-append (λ e. is_aborted e.state) own xs ys in
    rw (a, b, c) refl

-- no more are delivered or aborted than there are
pub counts-few : (test : Block → Bool) (es : List Entry)
    → ((counted test es).registered ≤ length es) × ((counted test es).delivered ≤ length es) × ((counted test es).aborted ≤ length es)
counts-few test es =
    let registered = filter-le (λ e. test e.block) es in
    let delivered = filter-le (λ e. is_delivered e.state) (filter (λ e. test e.block) es) in
    let aborted = filter-le (λ e. is_aborted e.state) (filter (λ e. test e.block) es) in
    (registered, omega (arith, registered, delivered), omega (arith, registered, aborted))

pub counts_elsewhere : (test : Block → Bool) (e : Entry) → test e.block ≡ false → counted test (e ∷ []) ≡ no_counts
counts_elsewhere test e other = rw other refl

counts-cons : (test : Block → Bool) (x : Entry) (xs : List Entry) → counted test (x ∷ xs) ≡ sum_of (counted test (x ∷ [])) (counted test xs)
counts-cons test x xs = counts-append test (x ∷ []) xs

-- a block adds the same to the counts for each test that it passes
pub counts_alike : (p q : Block → Bool) (e : Entry) → p e.block ≡ true → q e.block ≡ true → counted p (e ∷ []) ≡ counted q (e ∷ [])
counts_alike p q e one two = rw (one, two) refl

-- if nothing is lost and nothing gained, the counts are the same
pub recounted_none : (lost gained counts : Counts) → lost ≡ no_counts → gained ≡ no_counts → counts ≡ recounted lost gained counts
recounted_none lost gained counts x y =
    same_counts _ _ (omega (arith, ap (λ n. n.registered) x, ap (λ n. n.registered) y))
    (omega (arith, ap (λ n. n.delivered) x, ap (λ n. n.delivered) y)) (omega (arith, ap (λ n. n.aborted) x, ap (λ n. n.aborted) y))

-- one more block is counted
pub counts-grown : (test : Block → Bool) (es : List Entry) (e : Entry)
    → recounted no_counts (counted test (e ∷ [])) (counted test es) ≡ counted test (es ++ e ∷ [])
counts-grown test es e =
    let all = counts-append test es (e ∷ []) in
    same_counts _ _ (omega (arith, ap (λ n. n.registered) all)) (omega (arith, ap (λ n. n.delivered) all))
    (omega (arith, ap (λ n. n.aborted) all))

-- the counts of one block are part of those of all
pub counts_at : (test : Block → Bool) (n : ℕ) (e : Entry) (es : List Entry) → slice_get es n ≡ Some e
    → AreNoMore (counted test (e ∷ [])) (counted test es)
counts_at test n e es at = (
  sum_at (λ xs. (counted test xs).registered) (λ x xs. ap (λ a. a.registered) (counts-cons test x xs)) n e es at,
  sum_at (λ xs. (counted test xs).delivered) (λ x xs. ap (λ a. a.delivered) (counts-cons test x xs)) n e es at,
  sum_at (λ xs. (counted test xs).aborted) (λ x xs. ap (λ a. a.aborted) (counts-cons test x xs)) n e es at,
)

-- one more block that fails doesn't change the counts
pub counts-grown_other : (test : Block → Bool) (es : List Entry) (e : Entry) → test e.block ≡ false
    → counted test es ≡ counted test (es ++ e ∷ [])
counts-grown_other test es e other = recounted_none no_counts _ (counted test es) refl (counts_elsewhere test e other)
    ∙ counts-grown test es e

module _ (test : Block → Bool) (s : State) (n : ℕ) (e : Entry) (es : List Entry) (at : slice_get es n ≡ Some e) where
  -- when a block changes its state, the counts lose its part before and gain its part after
  pub counts-with_state : recounted (counted test (e ∷ [])) (counted test (record { block = e.block; state = s } ∷ []))
      (counted test es) ≡ counted test (with_state s n es)
  counts-with_state =
      let part = counts_at test n e es at in
      same_counts _ _
      (omega (
        arith,
        part.0,
        sum-with_state (λ xs. (counted test xs).registered) (λ x xs. ap (λ a. a.registered) (counts-cons test x xs))
            s n e es at,
      ))
      (omega (
        arith,
        part.1,
        sum-with_state (λ xs. (counted test xs).delivered) (λ x xs. ap (λ a. a.delivered) (counts-cons test x xs)) s
            n e es at,
      ))
      (omega (
        arith,
        part.2,
        sum-with_state (λ xs. (counted test xs).aborted) (λ x xs. ap (λ a. a.aborted) (counts-cons test x xs)) s n e
            es at,
      ))

  -- a block that fails doesn't change the counts
  pub counts-with_other : test e.block ≡ false → counted test es ≡ counted test (with_state s n es)
  counts-with_other other = recounted_none _ _ (counted test es) (counts_elsewhere test e other)
      (counts_elsewhere test (record { block = e.block; state = s }) other) ∙ counts-with_state

open_not_aborted : (s : State) → is_open s ≡ true → is_aborted s ≡ false
open_not_aborted Wanted h = refl
open_not_aborted Suspended h = refl
open_not_aborted Delivered h = refl
open_not_aborted Aborted h = grind arith

-- after an abort so many more blocks of the task are aborted as it changes
pub aborted-after : (task first count : ℕ) (es : List Entry)
    → (counts_of task (after task (Abort first count) es)).aborted
    ≡ (counts_of task es).aborted + length (filter (is_abortable task first count) es)
aborted-after task first count [] = refl
aborted-after task first count (e ∷ es) =
    let rest = aborted-after task first count es in
    elim (cases_Bool (e.block.task == task)) [
      | inl own ↦ elim (cases_Bool (shares first count e.block)) [
        | inl inside ↦ elim (cases_Bool (is_open e.state)) [
          | inl unread ↦ rw (own, inside, unread, open_not_aborted e.state unread) (omega (arith, rest))
          | inr over ↦ elim (cases_Bool (is_aborted e.state)) [
            | inl was ↦ rw (own, inside, over, was) (omega (arith, rest))
            | inr not_aborted ↦ rw (own, inside, over, not_aborted) rest
          ]
        ]
        | inr outside ↦ elim (cases_Bool (is_aborted e.state)) [
          | inl was ↦ rw (own, outside, was) (omega (arith, rest))
          | inr not_aborted ↦ rw (own, outside, not_aborted) rest
        ]
      ]
      | inr other ↦ rw other rest
    ]
