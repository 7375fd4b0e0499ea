-- A request that joins, among those that wait.
use Rattle.fb_fastq.proofs.Words.{◌≡◌, ◌<◌, List, [], ◌∷◌, ◌++◌, refl, ap, arith, true, false, inl, inr, nat_lt, AllByRecursion, cases_Bool}
use Rattle.fb_fastq.proofs.Words.{nat_tests, Waiting, number_of, join_in, in_order}

pub join_before_last : (w x : Waiting) (ws : List Waiting) → number_of w < number_of x → join_in w (ws ++ x ∷ []) ≡ join_in w ws ++ x ∷ []
join_before_last w x [] h = let t : nat_lt (number_of w) (number_of x) ≡ true = grind (arith, nat_tests) in rw t refl
join_before_last w x (y ∷ ws) h = elim (cases_Bool (nat_lt (number_of w) (number_of y))) [
  | inl less ↦ rw less refl
  | inr more ↦ rw more (ap (λ l. y ∷ l) (join_before_last w x ws h))
]

pub all_join : (P : Waiting → Type 0) (w : Waiting) (ws : List Waiting) → P w → AllByRecursion P ws → AllByRecursion P (join_in w ws)
all_join P w [] p h = (p, tt)
all_join P w (x ∷ ws) p h = elim (cases_Bool (nat_lt (number_of w) (number_of x))) [
  | inl less ↦ rw less (p, h)
  | inr more ↦ rw more (h.0, all_join P w ws p h.1)
]

pub all_in_order : (P : Waiting → Type 0) (ws : List Waiting) → AllByRecursion P ws → AllByRecursion P (in_order ws)
all_in_order P [] h = tt
all_in_order P (w ∷ ws) h = all_join P w (in_order ws) h.0 (all_in_order P ws h.1)

pub joins_last : (x : Waiting) (ws : List Waiting) → AllByRecursion (λ w. number_of w < number_of x) ws → join_in x ws ≡ ws ++ x ∷ []
joins_last x [] h = refl
joins_last x (w ∷ ws) h =
    let under : number_of w < number_of x = h.0 in
    let t : nat_lt (number_of x) (number_of w) ≡ false = grind (arith, nat_tests) in
    rw t (ap (λ l. w ∷ l) (joins_last x ws h.1))
