-- What a sector holds, according to where the ranges begin.
use Rattle.fb_store.proofs.Words.{◌≡◌, ℕ, ◌<◌, ◌≤◌, Option, Some, None, refl, false, arith, sym, ap, ap₂, ◌∙◌, suc, zero, inl, inr}
use Rattle.fb_store.proofs.Words.{unwrap_or, IsSome, nat_cmp, is_at, cases_lt, nat_tests, Content, held_of}
use Rattle.std.proofs.Common.{◌≢◌, Less, rules}
use Rattle.std.specs.Ordering.{is_gt, is_lt}

abbrev Begins : Type 0
Begins = ℕ → Option (Option Content)

pub none_there : (o : Option (Option Content)) → (IsSome o → ⊥) → o ≡ None
none_there None never = refl
none_there (Some w) never = absurd (never (search rules))

pub some_there : (o : Option (Option Content)) (w : Option Content) → o ≡ Some w → IsSome o
some_there None w e = absurd (grind arith)
some_there (Some v) w e = search rules

-- a sector holds the content of the range that begins at it
pub held_here : (begins : Begins) (lbn : ℕ) (w : Option Content) → begins lbn ≡ Some w → held_of begins lbn ≡ w
held_here begins zero w e = ap (λ o. unwrap_or o None) e
held_here begins (suc n) w e = ap (λ o. unwrap_or o (held_of begins n)) e

held_before : (begins : Begins) (n : ℕ) → begins (suc n) ≡ None → held_of begins (suc n) ≡ held_of begins n
held_before begins n e = ap (λ o. unwrap_or o (held_of begins n)) e

-- sectors hold the same as long as no other range begins
pub steady : (begins : Begins) (first lbn : ℕ) → first ≤ lbn → ((begin : ℕ) → first < begin → begin ≤ lbn → begins begin ≡ None)
    → held_of begins lbn ≡ held_of begins first
steady begins first zero le none = let same : zero ≡ first = omega arith in ap (held_of begins) same
steady begins first (suc n) le none = elim (cases_lt n first) [
  | inl less ↦ let same : suc n ≡ first = omega arith in ap (held_of begins) same
  | inr more ↦ held_before begins n (none (suc n) (omega arith) (omega arith))
      ∙ steady begins first n more (λ begin a b. none begin a (omega arith))
]

pub none_held : (begins : Begins) (lbn : ℕ) → ((begin : ℕ) → begin ≤ lbn → begins begin ≡ None) → held_of begins lbn ≡ None
none_held begins zero none = ap (λ o. unwrap_or o None) (none zero (omega arith))
none_held begins (suc n) none = held_before begins n (none (suc n) (omega arith)) ∙ none_held begins n (λ begin b. none begin (omega arith))

-- a sector holds the same with other ranges if the same ranges begin up to it
agree_below : (begins others : Begins) (lbn : ℕ) → ((begin : ℕ) → begin ≤ lbn → others begin ≡ begins begin)
    → held_of others lbn ≡ held_of begins lbn
agree_below begins others zero same = ap (λ o. unwrap_or o None) (same zero (omega arith))
agree_below begins others (suc n) same =
    ap₂ (λ o w. unwrap_or o w) (same (suc n) (omega arith)) (agree_below begins others n (λ begin b. same begin (omega arith)))

-- a sector holds the same with other ranges if one before it does, and the same ranges begin after that one
agree_from : (begins others : Begins) (at lbn : ℕ) → at ≤ lbn → held_of others at ≡ held_of begins at
    → ((begin : ℕ) → at < begin → others begin ≡ begins begin) → held_of others lbn ≡ held_of begins lbn
agree_from begins others at zero le here same = let e : at ≡ zero = omega arith in
    ap (held_of others) (sym e) ∙ (here ∙ ap (held_of begins) e)
agree_from begins others at (suc n) le here same = elim (cases_lt n at) [
  | inl less ↦ let e : at ≡ suc n = omega arith in ap (held_of others) (sym e) ∙ (here ∙ ap (held_of begins) e)
  | inr more ↦ ap₂ (λ o w. unwrap_or o w) (same (suc n) (omega arith)) (agree_from begins others at n more here same)
]

pub not_above : (a b : ℕ) → is_gt (nat_cmp a b) ≡ false → a ≤ b
not_above a b e = grind (arith, nat_tests)

pub is_not_above : (a b : ℕ) → a ≤ b → is_gt (nat_cmp a b) ≡ false
is_not_above a b le = grind (arith, nat_tests)

pub is_below : (a b : ℕ) → a < b → nat_cmp a b ≡ Less
is_below a b less = grind (arith, nat_tests)

pub not_below : (a b : ℕ) → is_lt (nat_cmp a b) ≡ false → b ≤ a
not_below a b e = grind (arith, nat_tests)

-- a sector holds the content of the last range that begins at it or before it
pub held_last : (begins : Begins) (begin lbn : ℕ) (w : Option Content) → begins begin ≡ Some w → is_gt (nat_cmp begin lbn) ≡ false
    → ((later : ℕ) → is_gt (nat_cmp later lbn) ≡ false → IsSome (begins later) → is_lt (nat_cmp begin later) ≡ false)
    → w ≡ held_of begins lbn
held_last begins begin lbn w here le last =
    sym (steady begins begin lbn (not_above begin lbn le)
    (λ later a b. none_there (begins later)
    (λ some. let no : later ≤ begin = not_below begin later (last later (is_not_above later lbn b) some) in absurd (omega arith)))
    ∙ held_here begins begin w here)

other_key : (at begin : ℕ) → begin ≢ at → is_at (nat_cmp at) begin ≡ false
other_key at begin apart = grind (arith, nat_tests)

-- a cut doesn't change what sectors hold
pub cut_same : (begins others : Begins) (at : ℕ) → others at ≡ Some (held_of begins at)
    → ((begin : ℕ) → is_at (nat_cmp at) begin ≡ false → others begin ≡ begins begin)
    → (lbn : ℕ) → held_of others lbn ≡ held_of begins lbn
cut_same begins others at here others_stay lbn = elim (cases_lt lbn at) [
  | inl less ↦ agree_below begins others lbn (λ begin b. others_stay begin (other_key at begin (λ e. absurd (omega arith))))
  | inr more ↦ agree_from begins others at lbn more (held_here others at (held_of begins at) here)
      (λ begin b. others_stay begin (other_key at begin (λ e. absurd (omega arith))))
]

-- what sectors hold after a write: `begins` are the ranges before it, `put` those with the new one, `left` those without the ones in it
module _ (begins put left : Begins) (first end : ℕ) (w : Option Content) (some : first < end)
    (here : put first ≡ Some w) (put_stays : (begin : ℕ) → is_at (nat_cmp first) begin ≡ false → put begin ≡ begins begin)
    (inside : (begin : ℕ) → first < begin → begin < end → left begin ≡ None) (below : (begin : ℕ) → begin ≤ first → left begin ≡ put begin)
    (above : (begin : ℕ) → end ≤ begin → left begin ≡ put begin) where
  pub wrote_inside : (lbn : ℕ) → first ≤ lbn → lbn < end → held_of left lbn ≡ w
  wrote_inside lbn from to =
      steady left first lbn from (λ begin a b. inside begin a (omega arith)) ∙ held_here left first w (below first (omega arith) ∙ here)

  pub wrote_before : (lbn : ℕ) → lbn < first → held_of left lbn ≡ held_of begins lbn
  wrote_before lbn less = agree_below begins left lbn
      (λ begin b. below begin (omega arith) ∙ put_stays begin (other_key first begin (λ e. absurd (omega arith))))

  pub wrote_after : begins end ≡ Some (held_of begins end) → (lbn : ℕ) → end ≤ lbn → held_of left lbn ≡ held_of begins lbn
  wrote_after at_end lbn more = agree_from begins left end lbn more
      (held_here left end (held_of begins end)
      (above end (omega arith) ∙ (put_stays end (other_key first end (λ e. absurd (omega arith))) ∙ at_end)))
      (λ begin b. above begin (omega arith) ∙ put_stays begin (other_key first begin (λ e. absurd (omega arith))))

-- if all ranges that begin within some sectors have one content, all these sectors hold it
value_or : (o : Option (Option Content)) (before w : Option Content) → before ≡ w → (IsSome o → o ≡ Some w) → unwrap_or o before ≡ w
value_or None before w e same = e
value_or (Some x) before w e same = ap (λ o. unwrap_or o before) (same (search rules))

pub assigned_inside : (begins : Begins) (first lbn : ℕ) (w : Option Content) → begins first ≡ Some w → first ≤ lbn
    → ((begin : ℕ) → first < begin → begin ≤ lbn → IsSome (begins begin) → begins begin ≡ Some w) → held_of begins lbn ≡ w
assigned_inside begins first zero w here le same = let e : zero ≡ first = omega arith in held_here begins zero w (ap begins e ∙ here)
assigned_inside begins first (suc n) w here le same = elim (cases_lt n first) [
  | inl less ↦ let e : suc n ≡ first = omega arith in held_here begins (suc n) w (ap begins e ∙ here)
  | inr more ↦ value_or (begins (suc n)) (held_of begins n) w (assigned_inside begins first n w here more
      (λ begin a b. same begin a (omega arith))) (same (suc n) (omega arith) (omega arith))
]

pub assigned_before : (begins others : Begins) (first lbn : ℕ) → lbn < first → ((begin : ℕ) → begin < first → others begin ≡ begins begin)
    → held_of others lbn ≡ held_of begins lbn
assigned_before begins others first lbn less same = agree_below begins others lbn (λ begin b. same begin (omega arith))

same_here : (begins others : Begins) (at : ℕ) (o : Option (Option Content)) → begins at ≡ o → IsSome o → others at ≡ begins at
    → held_of others at ≡ held_of begins at
same_here begins others at None e some same = absurd (search rules)
same_here begins others at (Some w) e some same = held_here others at w (same ∙ e) ∙ sym (held_here begins at w e)

pub assigned_after : (begins others : Begins) (end lbn : ℕ) → IsSome (begins end) → end ≤ lbn
    → ((begin : ℕ) → end ≤ begin → others begin ≡ begins begin) → held_of others lbn ≡ held_of begins lbn
assigned_after begins others end lbn some le same = agree_from begins others end lbn le (same_here begins others end (begins end) refl some
    (same end (omega arith))) (λ begin b. same begin (omega arith))
