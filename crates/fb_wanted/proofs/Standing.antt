-- The indexes of blocks among the registered ones.
use Rattle.fb_wanted.proofs.Words.{◌≡◌, ℕ, zero, suc, ◌<◌, inl, inr, List, [], ◌∷◌, ◌++◌, Bool, true, false, Some, if◌then◌else◌, set}
use Rattle.fb_wanted.proofs.Words.{length, filter, map, slice_get, get_or, refl, ap, sym, ◌∙◌, arith, cases_Bool, length-map, map-append}
use Rattle.fb_wanted.proofs.Words.{same_Some, none-some, slice_get_within, slice_get-get_or, filter_from, element_at, Entry, Block, State}
use Rattle.fb_wanted.proofs.Words.{blocks_of, indexes_of, with_state, change_nth}

pub length-indexes_of : (p : Entry → Bool) (es : List Entry) → length (indexes_of p es) ≡ length (filter p es)
length-indexes_of p [] = refl
length-indexes_of p (e ∷ es) = elim (cases_Bool (p e)) [
  | inl yes' ↦ rw yes' (ap (λ n. suc n) (length-map (indexes_of p es) (λ n. suc n) ∙ length-indexes_of p es))
  | inr no' ↦ rw no' (length-map (indexes_of p es) (λ n. suc n) ∙ length-indexes_of p es)
]

pub indexes_of-more_yes : (p : Entry → Bool) (es : List Entry) (e : Entry) → p e ≡ true
    → indexes_of p (es ++ e ∷ []) ≡ indexes_of p es ++ length es ∷ []
indexes_of-more_yes p [] e pass = rw pass refl
indexes_of-more_yes p (x ∷ es) e pass =
    let rest = ap (map (λ n. suc n)) (indexes_of-more_yes p es e pass) ∙ map-append (λ n. suc n) (indexes_of p es) (length es ∷ []) in
    elim (cases_Bool (p x)) [
      | inl yes' ↦ rw yes' (ap (λ l. 0 ∷ l) rest)
      | inr no' ↦ rw no' rest
    ]

pub indexes_of-more_no : (p : Entry → Bool) (es : List Entry) (e : Entry) → p e ≡ false → indexes_of p (es ++ e ∷ []) ≡ indexes_of p es
indexes_of-more_no p [] e fail = rw fail refl
indexes_of-more_no p (x ∷ es) e fail =
    let rest = ap (map (λ n. suc n)) (indexes_of-more_no p es e fail) in
    elim (cases_Bool (p x)) [
      | inl yes' ↦ rw yes' (ap (λ l. 0 ∷ l) rest)
      | inr no' ↦ rw no' rest
    ]

-- an index that was raised by one, as the list got an element at its front
pub raised : (ps : List ℕ) (k j : ℕ) → slice_get (map (λ n. suc n) ps) k ≡ Some j → (i : ℕ) × (slice_get ps k ≡ Some i) × (j ≡ suc i)
raised [] k j h = absurd (none-some j h)
raised (p ∷ ps) zero j h = (p, refl, sym (same_Some (suc p) j h))
raised (p ∷ ps) (suc k) j h = raised ps k j h

pub raised_at : (ps : List ℕ) (k j : ℕ) → slice_get ps k ≡ Some j → slice_get (map (λ n. suc n) ps) k ≡ Some (suc j)
raised_at [] k j h = absurd (none-some j h)
raised_at (p ∷ ps) zero j h = ap (λ n. Some (suc n)) (same_Some p j h)
raised_at (p ∷ ps) (suc k) j h = raised_at ps k j h

-- the entry at the k-th index is the k-th that passes the test
at_step : (p : Entry → Bool) (x : Entry) (es : List Entry) (b : Bool) (k j : ℕ)
    → ((i n : ℕ) → slice_get (indexes_of p es) i ≡ Some n → slice_get (filter p es) i ≡ slice_get es n)
    → slice_get (if b then 0 ∷ map (λ n. suc n) (indexes_of p es) else map (λ n. suc n) (indexes_of p es)) k ≡ Some j
    → slice_get (if b then x ∷ filter p es else filter p es) k ≡ slice_get (x ∷ es) j
at_step p x es true zero j rest h = ap (slice_get (x ∷ es)) (same_Some 0 j h)
at_step p x es true (suc k) j rest h = let r = raised (indexes_of p es) k j h in rest k r.0 r.1 ∙ ap (slice_get (x ∷ es)) (sym r.2)
at_step p x es false k j rest h = let r = raised (indexes_of p es) k j h in rest k r.0 r.1 ∙ ap (slice_get (x ∷ es)) (sym r.2)

pub at_index : (p : Entry → Bool) (es : List Entry) (k j : ℕ) → slice_get (indexes_of p es) k ≡ Some j
    → slice_get (filter p es) k ≡ slice_get es j
at_index p [] k j h = absurd (none-some j h)
at_index p (x ∷ es) k j h = at_step p x es (p x) k j (at_index p es) h

-- each index is one of the list's
pub index_within : (p : Entry → Bool) (es : List Entry) (k j : ℕ) → slice_get (indexes_of p es) k ≡ Some j → j < length es
index_within p es k j h =
    let lt = slice_get_within (indexes_of p es) k j h in
    let inside : k < length (filter p es) = omega (arith, lt, length-indexes_of p es) in
    let e = element_at (filter p es) k inside in
    slice_get_within es j e.0 (sym (at_index p es k j h) ∙ e.1)

-- a list of these indexes is as long as the list of those that pass
pub index_there : (p : Entry → Bool) (es : List Entry) (ps : List ℕ) (k : ℕ) → ps ≡ indexes_of p es → k < length (filter p es)
    → k < length ps
index_there p es ps k same lt = omega (arith, lt, ap length same, length-indexes_of p es)

pub index_read : (p : Entry → Bool) (es : List Entry) (ps : List ℕ) (k : ℕ) → ps ≡ indexes_of p es → k < length (filter p es)
    → slice_get (indexes_of p es) k ≡ Some (get_or ps k 0)
index_read p es ps k same lt = ap (λ l. slice_get l k) (sym same) ∙ slice_get-get_or ps k 0 (index_there p es ps k same lt)

-- the k-th entry that passes is the entry at the k-th index
pub read_at : (p : Entry → Bool) (es : List Entry) (ps : List ℕ) (k : ℕ) (d : Entry) → ps ≡ indexes_of p es → k < length (filter p es)
    → slice_get (filter p es) k ≡ Some (get_or es (get_or ps k 0) d)
read_at p es ps k d same lt =
    let at = index_read p es ps k same lt in
    at_index p es k (get_or ps k 0) at ∙ slice_get-get_or es (get_or ps k 0) d (index_within p es k (get_or ps k 0) at)

-- an entry that passes is found among those that pass
pub among : (p : Entry → Bool) (es : List Entry) (j : ℕ) (e : Entry) → slice_get es j ≡ Some e → p e ≡ true
    → (k : ℕ) × (slice_get (indexes_of p es) k ≡ Some j) × (slice_get (filter p es) k ≡ Some e)
among p [] j e h pass = absurd (none-some e h)
among p (x ∷ es) zero e h pass = let hit = ap p (same_Some x e h) ∙ pass in (0, rw hit refl, rw hit h)
among p (x ∷ es) (suc j) e h pass =
    let r = among p es j e h pass in
    let up = raised_at (indexes_of p es) r.0 j r.1 in
    elim (cases_Bool (p x)) [
      | inl yes' ↦ (suc r.0, rw yes' up, rw yes' r.2)
      | inr no' ↦ (r.0, rw no' up, rw no' r.2)
    ]

-- the list with an entry in another state is as long, and has the same blocks
pub length-with_state : (s : State) (n : ℕ) (es : List Entry) → length (with_state s n es) ≡ length es
length-with_state s n [] = refl
length-with_state s zero (e ∷ es) = refl
length-with_state s (suc n) (e ∷ es) = ap (λ k. suc k) (length-with_state s n es)

pub blocks-with_state : (s : State) (n : ℕ) (es : List Entry) → blocks_of (with_state s n es) ≡ blocks_of es
blocks-with_state s n [] = refl
blocks-with_state s zero (e ∷ es) = refl
blocks-with_state s (suc n) (e ∷ es) = ap (λ l. e.block ∷ l) (blocks-with_state s n es)

-- a change of state doesn't change the indexes that pass a test of the block alone
pub indexes_of-with_state : (p : Block → Bool) (s : State) (n : ℕ) (es : List Entry)
    → indexes_of (λ e. p e.block) (with_state s n es) ≡ indexes_of (λ e. p e.block) es
indexes_of-with_state p s n [] = refl
indexes_of-with_state p s zero (e ∷ es) = refl
indexes_of-with_state p s (suc n) (e ∷ es) =
    ap (λ ps. if p e.block then 0 ∷ map (λ k. suc k) ps else map (λ k. suc k) ps) (indexes_of-with_state p s n es)

-- writing an entry with its new state changes the state alone
pub items-with_state : (s : State) (n : ℕ) (e : Entry) (es : List Entry) → slice_get es n ≡ Some e
    → set es n (record { block = e.block; state = s }) ≡ with_state s n es
items-with_state s n e [] h = absurd (none-some e h)
items-with_state s zero e (x ∷ es) h = let same = same_Some x e h in
    ap (λ (y : Entry). let z : Entry = record { block = y.block; state = s } in z ∷ es) (sym same)
items-with_state s (suc n) e (x ∷ es) h = ap (λ l. x ∷ l) (items-with_state s n e es h)

-- changing the state at the k-th index is the change of the k-th entry that passes
nth_step : (p : Entry → Bool) (f : Entry → Entry) (s : State) (x e : Entry) (es : List Entry) (b : Bool) (k j : ℕ)
    → ((i n : ℕ) → slice_get (indexes_of p es) i ≡ Some n → slice_get es n ≡ Some e → with_state s n es ≡ change_nth p f i es)
    → p x ≡ b → f e ≡ record { block = e.block; state = s }
    → slice_get (if b then 0 ∷ map (λ n. suc n) (indexes_of p es) else map (λ n. suc n) (indexes_of p es)) k ≡ Some j
    → slice_get (x ∷ es) j ≡ Some e → with_state s j (x ∷ es) ≡ change_nth p f k (x ∷ es)
nth_step p f s x e es true zero j rest is new h at =
    let first : j ≡ 0 = sym (same_Some 0 j h) in
    let same : x ≡ e = same_Some x e (ap (slice_get (x ∷ es)) (sym first) ∙ at) in
    rw (first, is) (ap (λ y. y ∷ es) (ap (λ (y : Entry). let z : Entry = record { block = y.block; state = s } in z) same
    ∙ (sym new ∙ ap f (sym same))))
nth_step p f s x e es true (suc k) j rest is new h at =
    let r = raised (indexes_of p es) k j h in
    rw (r.2, is) (ap (λ l. x ∷ l) (rest k r.0 r.1 (ap (slice_get (x ∷ es)) (sym r.2) ∙ at)))
nth_step p f s x e es false zero j rest is new h at =
    let r = raised (indexes_of p es) zero j h in
    rw (r.2, is) (ap (λ l. x ∷ l) (rest zero r.0 r.1 (ap (slice_get (x ∷ es)) (sym r.2) ∙ at)))
nth_step p f s x e es false (suc k) j rest is new h at =
    let r = raised (indexes_of p es) (suc k) j h in
    rw (r.2, is) (ap (λ l. x ∷ l) (rest (suc k) r.0 r.1 (ap (slice_get (x ∷ es)) (sym r.2) ∙ at)))

pub nth_changed : (p : Entry → Bool) (f : Entry → Entry) (s : State) (e : Entry) (es : List Entry) (k j : ℕ)
    → f e ≡ record { block = e.block; state = s }
    → slice_get (indexes_of p es) k ≡ Some j → slice_get es j ≡ Some e → with_state s j es ≡ change_nth p f k es
nth_changed p f s e [] k j new h at = refl
nth_changed p f s e (x ∷ es) k j new h at = nth_step p f s x e es (p x) k j (λ i n. nth_changed p f s e es i n new) refl new h at

pub passes : (p : Entry → Bool) (es : List Entry) (k : ℕ) (e : Entry) → slice_get (filter p es) k ≡ Some e → p e ≡ true
passes p es k e h = (filter_from p es k e h).2

-- if no other entry is changed, changing the k-th is changing all
all_stay : (p : Entry → Bool) (f : Entry → Entry) (es : List Entry) → ((e : Entry) → p e ≡ false → f e ≡ e)
    → ((j : ℕ) (e : Entry) → slice_get (filter p es) j ≡ Some e → f e ≡ e) → es ≡ map f es
all_stay p f [] others own = refl
all_stay p f (x ∷ es) others own = elim (cases_Bool (p x)) [
  | inl yes' ↦ ap (λ y. y ∷ es) (sym (own 0 x (rw yes' refl)))
      ∙ ap (λ l. f x ∷ l) (all_stay p f es others (λ j e at. own (suc j) e (rw yes' at)))
  | inr no' ↦ ap (λ y. y ∷ es) (sym (others x no')) ∙ ap (λ l. f x ∷ l) (all_stay p f es others (λ j e at. own j e (rw no' at)))
]

pub nth_alone : (p : Entry → Bool) (f : Entry → Entry) (k : ℕ) (es : List Entry) → ((e : Entry) → p e ≡ false → f e ≡ e)
    → ((j : ℕ) (e : Entry) → slice_get (filter p es) j ≡ Some e → (j ≡ k → ⊥) → f e ≡ e)
    → change_nth p f k es ≡ map f es
nth_alone p f k [] others own = refl
nth_alone p f zero (x ∷ es) others own = elim (cases_Bool (p x)) [
  | inl yes' ↦ rw yes' (ap (λ l. f x ∷ l) (all_stay p f es others (λ j e at. own (suc j) e (rw yes' at) (λ same. omega arith))))
  | inr no' ↦ rw no' (ap (λ y. y ∷ change_nth p f 0 es) (sym (others x no'))
      ∙ ap (λ l. f x ∷ l) (nth_alone p f 0 es others (λ j e at. own j e (rw no' at))))
]
nth_alone p f (suc k) (x ∷ es) others own = elim (cases_Bool (p x)) [
  | inl yes' ↦ rw yes' (ap (λ y. y ∷ change_nth p f k es) (sym (own 0 x (rw yes' refl) (λ same. omega arith)))
      ∙ ap (λ l. f x ∷ l) (nth_alone p f k es others (λ j e at ne. own (suc j) e (rw yes' at) (λ same. ne (omega arith)))))
  | inr no' ↦ rw no' (ap (λ y. y ∷ change_nth p f (suc k) es) (sym (others x no'))
      ∙ ap (λ l. f x ∷ l) (nth_alone p f (suc k) es others (λ j e at. own j e (rw no' at))))
]

-- a change of one entry leaves as many that pass
pub passing-nth : (p : Entry → Bool) (f : Entry → Entry) → ((e : Entry) → p (f e) ≡ p e) → (k : ℕ) (es : List Entry)
    → length (filter p (change_nth p f k es)) ≡ length (filter p es)
passing-nth p f stays k [] = refl
passing-nth p f stays zero (e ∷ es) = elim (cases_Bool (p e)) [
  | inl yes' ↦ rw (yes', stays e ∙ yes') refl
  | inr no' ↦ rw (no', no') (passing-nth p f stays 0 es)
]
passing-nth p f stays (suc k) (e ∷ es) = elim (cases_Bool (p e)) [
  | inl yes' ↦ rw yes' (ap (λ n. suc n) (passing-nth p f stays k es))
  | inr no' ↦ rw no' (passing-nth p f stays (suc k) es)
]

-- a change that leaves the k-th entry as it is changes nothing
pub nth_stays : (p : Entry → Bool) (f : Entry → Entry) (k : ℕ) (es : List Entry)
    → ((e : Entry) → slice_get (filter p es) k ≡ Some e → f e ≡ e) → change_nth p f k es ≡ es
nth_stays p f k [] same = refl
nth_stays p f zero (e ∷ es) same = elim (cases_Bool (p e)) [
  | inl yes' ↦ rw yes' (ap (λ x. x ∷ es) (same e (rw yes' refl)))
  | inr no' ↦ rw no' (ap (λ l. e ∷ l) (nth_stays p f zero es (λ x at. same x (rw no' at))))
]
nth_stays p f (suc k) (e ∷ es) same = elim (cases_Bool (p e)) [
  | inl yes' ↦ rw yes' (ap (λ l. e ∷ l) (nth_stays p f k es (λ x at. same x (rw yes' at))))
  | inr no' ↦ rw no' (ap (λ l. e ∷ l) (nth_stays p f (suc k) es (λ x at. same x (rw no' at))))
]
