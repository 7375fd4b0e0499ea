-- One request more, or less, among those that wait.
use Rattle.fb_fastq.proofs.Words.{get_or, slice_get_read, ◌≡◌, ◌≢◌, ℕ, zero, suc, ◌+◌, ◌<◌, ◌≤◌, List, [], ◌∷◌, ◌++◌, map, refl, sym, ap}
use Rattle.fb_fastq.proofs.Words.{subst, ◌∙◌, arith, inl, inr, ◌⊎◌, Some, append_assoc, append-nil, slice_get, length, take, drop, set}
use Rattle.fb_fastq.proofs.Words.{Option, None, IsSome, true, false, remove, option_and_then, AllByRecursion}
use Rattle.fb_fastq.proofs.Words.{match_ordering, nat_cmp, Ordering, Less, Equal, Greater, insert_entry, is_at, BTreeSet, contains}
use Rattle.fb_fastq.proofs.Words.{remove_entry, true≢false, cases_Bool, nat_tests, slice_get_within, Request, first_least, order, Waiting}
use Rattle.fb_fastq.proofs.Words.{number_of, join_in, in_order, pending_of, NumbersDiffer, HaveOwnNumbers, IsFirst, Position, IsMore, Row}
use Rattle.fb_fastq.proofs.Words.{all_from_index, all_get, all_of_rows, Among}
use Rattle.fb_fastq.proofs.Words.{at_position, IsOnCylinder, AreRows, AreOccupied, lookup, none-some, length-append, map-append, all_weaker}
use Rattle.fb_fastq.proofs.{Swept.some_injective, Keys.same_number, Keys.here_equal, Keys.same_key}
use Rattle.fb_fastq.proofs.{Joins.all_in_order, Joins.joins_last, Joins.join_before_last, Least.without, Least.without_joined}
use Rattle.fb_fastq.proofs.{Least.without_other, Least.in_order_rising, Least.least_rising, Least.from_order, Least.at_key, InRows.row_on}

pub all_put : (P : Waiting → Type 0) (w : Waiting) (before behind : List Waiting) → P w → AllByRecursion P (before ++ behind)
    → AllByRecursion P (before ++ w ∷ behind)
all_put P w [] behind p h = (p, h)
all_put P w (x ∷ before) behind p h = (h.0, all_put P w before behind p h.1)

pub all_drawn : (P : Waiting → Type 0) (w : Waiting) (before behind : List Waiting) → AllByRecursion P (before ++ w ∷ behind)
    → P w × AllByRecursion P (before ++ behind)
all_drawn P w [] behind h = h
all_drawn P w (x ∷ before) behind h = let rest = all_drawn P w before behind h.1 in (rest.0, (h.0, rest.1))

in_order_put : (w : Waiting) (before behind : List Waiting) → AllByRecursion (λ x. number_of x < number_of w) (before ++ behind)
    → in_order (before ++ w ∷ behind) ≡ in_order (before ++ behind) ++ w ∷ []
in_order_put w [] behind h = joins_last w (in_order behind) (all_in_order (λ x. number_of x < number_of w) behind h)
in_order_put w (x ∷ before) behind h =
    ap (join_in x) (in_order_put w before behind h.1) ∙ join_before_last x w (in_order (before ++ behind)) h.0

in_order_drawn : (w : Waiting) (before behind : List Waiting) → NumbersDiffer (before ++ w ∷ behind)
    → in_order (before ++ behind) ≡ without (number_of w) (in_order (before ++ w ∷ behind))
in_order_drawn w [] behind h = sym (without_joined w (in_order behind) (all_in_order (λ y. number_of y ≢ number_of w) behind h.0))
in_order_drawn w (x ∷ before) behind h =
    let other = (all_drawn (λ y. number_of y ≢ number_of x) w before behind h.0).0 in
    ap (join_in x) (in_order_drawn w before behind h.1) ∙ sym (without_other (number_of w) x (in_order (before ++ w ∷ behind))
    (λ s. other (sym s)) (in_order_rising (before ++ w ∷ behind) h.1))

numbered_put : (w : Waiting) (before behind : List Waiting) → AllByRecursion (λ x. number_of x < number_of w) (before ++ behind)
    → NumbersDiffer (before ++ behind) → NumbersDiffer (before ++ w ∷ behind)
numbered_put w [] behind h apart = (
  all_weaker (λ x. number_of x < number_of w) (λ x. number_of x ≢ number_of w)
      (λ x under e. omega (arith, under, e)) behind h,
  apart,
)
numbered_put w (x ∷ before) behind h apart = (
  all_put (λ y. number_of y ≢ number_of x) w before behind
      (λ e. let under : number_of x < number_of w = h.0 in omega (arith, under, e)) apart.0,
  numbered_put w before behind h.1 apart.1,
)

numbered_drawn : (w : Waiting) (before behind : List Waiting) → NumbersDiffer (before ++ w ∷ behind) → NumbersDiffer (before ++ behind)
numbered_drawn w [] behind h = h.1
numbered_drawn w (x ∷ before) behind h =
    ((all_drawn (λ y. number_of y ≢ number_of x) w before behind h.0).1, numbered_drawn w before behind h.1)

module _ (w : Waiting) (less more : List Waiting) (is : IsMore w less more) where
  pub all_more : (P : Waiting → Type 0) → P w → AllByRecursion P less → AllByRecursion P more
  all_more P p h = subst (AllByRecursion P) (sym is.more_is) (all_put P w is.before is.behind p (subst (AllByRecursion P) is.less_is h))

  pub all_less : (P : Waiting → Type 0) → AllByRecursion P more → AllByRecursion P less
  all_less P h = subst (AllByRecursion P) (sym is.less_is) (all_drawn P w is.before is.behind (subst (AllByRecursion P) is.more_is h)).1

  -- one that joins comes last
  pub pending_more : AllByRecursion (λ x. number_of x < number_of w) less → pending_of more ≡ pending_of less ++ w.1 ∷ []
  pending_more h =
      ap pending_of is.more_is
      ∙ (ap (map (λ x. x.1)) (in_order_put w is.before is.behind (subst (AllByRecursion (λ x. number_of x < number_of w)) is.less_is h))
      ∙ (map-append (λ x. x.1) (in_order (is.before ++ is.behind)) (w ∷ []) ∙ ap (λ ws. pending_of ws ++ w.1 ∷ []) (sym is.less_is)))

  pub numbers_more : HaveOwnNumbers less (number_of w) → HaveOwnNumbers more (number_of w + 1)
  numbers_more h = record {
    given = all_more (λ x. number_of x < number_of w + 1) (omega arith)
        (all_weaker (λ x. number_of x < number_of w) (λ x. number_of x < number_of w + 1) (λ x under. omega (arith, under)) less h.given);
    numbered = subst NumbersDiffer (sym is.more_is)
        (numbered_put w is.before is.behind (subst (AllByRecursion (λ x. number_of x < number_of w)) is.less_is h.given)
        (subst NumbersDiffer is.less_is h.numbered));
  }

  pub numbers_less : (joined : ℕ) → HaveOwnNumbers more joined → HaveOwnNumbers less joined
  numbers_less joined h = record {
    given = all_less (λ x. number_of x < joined) h.given;
    numbered = subst NumbersDiffer (sym is.less_is) (numbered_drawn w is.before is.behind (subst NumbersDiffer is.more_is h.numbered));
  }

  -- the first of least rank is what the plain replay takes
  pub least_more : (rank : Request → ℕ) → NumbersDiffer more → IsFirst rank w more
      → first_least rank (pending_of more) ≡ Some (w.1, pending_of less)
  least_more rank apart first =
      let own = subst NumbersDiffer is.more_is apart in
      let ws = is.before ++ w ∷ is.behind in
      let its = subst (IsFirst rank w) is.more_is first in
      let all = from_order (Among (in_order ws)) ws (all_from_index (Among (in_order ws)) (in_order ws) (λ k x at. (k, at))) in
      ap (λ xs. first_least rank (pending_of xs)) is.more_is
      ∙ (least_rising rank w (in_order ws) (in_order_rising ws own) (all_drawn (Among (in_order ws)) w is.before is.behind all).0
      (all_in_order (λ x. (rank w.1 < rank x.1) ⊎ ((rank w.1 ≡ rank x.1) × (number_of w ≤ number_of x))) ws its)
      ∙ ap (λ l. Some (w.1, map (λ x. x.1) l)) (sym (in_order_drawn w is.before is.behind own) ∙ ap in_order (sym is.less_is)))

  -- beside others
  pub more_left : (others : List Waiting) → IsMore w (others ++ less) (others ++ more)
  more_left others = record {
    before = others ++ is.before;
    behind = is.behind;
    less_is = ap (λ ws. others ++ ws) is.less_is ∙ sym (append_assoc others is.before is.behind);
    more_is = ap (λ ws. others ++ ws) is.more_is ∙ sym (append_assoc others is.before (w ∷ is.behind));
  }

  pub more_right : (others : List Waiting) → IsMore w (less ++ others) (more ++ others)
  more_right others = record {
    before = is.before;
    behind = is.behind ++ others;
    less_is = ap (λ ws. ws ++ others) is.less_is ∙ append_assoc is.before is.behind others;
    more_is = ap (λ ws. ws ++ others) is.more_is ∙ append_assoc is.before (w ∷ is.behind) others;
  }

-- a request joins a map
pub insert_more : (l n : ℕ) (r : Request) (ws : List Waiting) → AllByRecursion (λ w. number_of w < n) ws
    → IsMore ((l, n), r) ws (insert_entry order ws (l, n) r)
insert_more l n r [] h = record { before = []; behind = []; less_is = refl; more_is = refl }
insert_more l n r (w ∷ ws) h = at (insert_more l n r ws h.1) (order (l, n) w.0) refl
  where
    at : IsMore ((l, n), r) ws (insert_entry order ws (l, n) r) → (o : Ordering) → order (l, n) w.0 ≡ o
        → IsMore ((l, n), r) (w ∷ ws) (match_ordering o (((l, n), r) ∷ w ∷ ws) ((w.0, r) ∷ ws) (w ∷ insert_entry order ws (l, n) r))
    at rest Less e = record { before = []; behind = w ∷ ws; less_is = refl; more_is = refl }
    at rest Equal e = let same : n ≡ w.0.1 = same_number l n w.0.0 w.0.1 e in let under : w.0.1 < n = h.0 in absurd (omega arith)
    at rest Greater e = record {
      before = w ∷ rest.before;
      behind = rest.behind;
      less_is = ap (λ xs. w ∷ xs) rest.less_is;
      more_is = ap (λ xs. w ∷ xs) rest.more_is;
    }

-- and is taken out of it
pub remove_more : (w : Waiting) (ws : List Waiting) → NumbersDiffer ws → Among ws w → IsMore w (remove_entry (is_at (order w.0)) ws) ws
remove_more w [] h e = absurd (none-some w e.1)
remove_more w (x ∷ ws) h (zero, at) = subst (λ y. IsMore w (remove_entry (is_at (order w.0)) (y ∷ ws)) (y ∷ ws))
    (sym (some_injective x w at))
    (let t = here_equal w.0.0 w.0.1 in rw t (record { before = []; behind = ws; less_is = refl; more_is = refl }))
remove_more w (x ∷ ws) h (suc k, at) =
    let other : number_of w ≢ number_of x = all_get (λ y. number_of y ≢ number_of x) ws k w h.0 at in
    let t = same_key w.0.0 w.0.1 x.0.0 x.0.1 other in
    let rest = remove_more w ws h.1 (k, at) in
    rw t (record {
      before = x ∷ rest.before;
      behind = rest.behind;
      less_is = ap (λ xs. x ∷ xs) rest.less_is;
      more_is = ap (λ xs. x ∷ xs) rest.more_is;
    })

pub taken_more : (ws : List Waiting) (key : ℕ × ℕ) → NumbersDiffer ws → IsSome (lookup (is_at (order key)) ws)
    → (r : Request) × IsMore (key, r) (remove_entry (is_at (order key)) ws) ws
taken_more ws key apart has = let there = at_key ws key has in (there.0, remove_more (key, there.0) ws apart there.1)

-- a request joins a row at its end
pub push_more : (w : Waiting) (ws more : List Waiting) → more ≡ ws ++ w ∷ [] → IsMore w ws more
push_more w ws more is = record { before = ws; behind = []; less_is = sym (append-nil ws); more_is = is }

split_at : (ws : List Waiting) (k : ℕ) (w : Waiting) → slice_get ws k ≡ Some w → ws ≡ take k ws ++ w ∷ drop (suc k) ws
split_at [] k w e = absurd (none-some w e)
split_at (x ∷ ws) zero w e = ap (λ y. y ∷ ws) (some_injective x w e)
split_at (x ∷ ws) (suc k) w e = ap (λ xs. x ∷ xs) (split_at ws k w e)

-- and is taken out of it
pub removed_more : (w : Waiting) (ws less : List Waiting) (k : ℕ) → less ≡ remove ws k → slice_get ws k ≡ Some w → IsMore w less ws
removed_more w ws less k is there = record { before = take k ws; behind = drop (suc k) ws; less_is = is; more_is = split_at ws k w there }

-- the row at a position
pub row_there : (rows : List Row) (i : ℕ) (row : Row) → i < length rows → row ≡ get_or rows i row → slice_get rows i ≡ Some row
row_there rows i row within is = slice_get_read rows (length rows) i row refl within is

-- one row instead of another
pub set_same : (rows : List Row) (i : ℕ) (row new : Row) → slice_get rows i ≡ Some row → new.items ≡ row.items
    → all_of_rows (set rows i new) ≡ all_of_rows rows
set_same [] i row new there is = refl
set_same (x ∷ rows) zero row new there is = ap (λ ws. ws ++ all_of_rows rows)
    (is ∙ ap (λ (r : Row). r.items) (sym (some_injective x row there)))
set_same (x ∷ rows) (suc i) row new there is = ap (λ ws. x.items ++ ws) (set_same rows i row new there is)

pub set_more : (w : Waiting) (rows : List Row) (i : ℕ) (row new : Row) → slice_get rows i ≡ Some row → IsMore w row.items new.items
    → IsMore w (all_of_rows rows) (all_of_rows (set rows i new))
set_more w [] i row new there is = absurd (none-some row there)
set_more w (x ∷ rows) zero row new there is =
    let same = some_injective x row there in
    more_right w x.items new.items (subst (λ (r : Row). IsMore w r.items new.items) (sym same) is) (all_of_rows rows)
set_more w (x ∷ rows) (suc i) row new there is =
    more_left w (all_of_rows rows) (all_of_rows (set rows i new)) (set_more w rows i row new there is) x.items

pub set_less : (w : Waiting) (rows : List Row) (i : ℕ) (row new : Row) → slice_get rows i ≡ Some row → IsMore w new.items row.items
    → IsMore w (all_of_rows (set rows i new)) (all_of_rows rows)
set_less w [] i row new there is = absurd (none-some row there)
set_less w (x ∷ rows) zero row new there is =
    let same = some_injective x row there in
    more_right w new.items x.items (subst (λ (r : Row). IsMore w new.items r.items) (sym same) is) (all_of_rows rows)
set_less w (x ∷ rows) (suc i) row new there is =
    more_left w (all_of_rows (set rows i new)) (all_of_rows rows) (set_less w rows i row new there is) x.items

pub set_rows : (cylinder : ℕ) (rows : List Row) (i : ℕ) (new : Row) → AreRows cylinder rows
    → AllByRecursion (λ w. IsOnCylinder (cylinder + i) w.0.0) new.items → AreRows cylinder (set rows i new)
set_rows cylinder [] i new h on = tt
set_rows cylinder (x ∷ rows) zero new h on =
    let own : cylinder + 0 ≡ cylinder = omega arith in
    (subst (λ c. AllByRecursion (λ (w : Waiting). IsOnCylinder c w.0.0) new.items) own on, h.1)
set_rows cylinder (x ∷ rows) (suc i) new h on =
    let next : cylinder + suc i ≡ cylinder + 1 + i = omega arith in
    (h.0, set_rows (cylinder + 1) rows i new h.1 (subst (λ c. AllByRecursion (λ (w : Waiting). IsOnCylinder c w.0.0) new.items) next on))

pub length_more : (w : Waiting) (less more : List Waiting) → IsMore w less more → length more ≡ length less + 1
length_more w less more is =
    let a = ap length is.less_is in let b = ap length is.more_is in
    omega (arith, a, b, length-append is.before is.behind, length-append is.before (w ∷ is.behind))

-- a position that has a request is in one of the rows
pub position_within : (rows : List Row) (position : Position) → IsSome (at_position rows position) → position.row < length rows
position_within rows position has = go (slice_get rows position.row) refl has
  where
    go : (o : Option Row) → slice_get rows position.row ≡ o → IsSome (option_and_then (λ (r : Row). slice_get r.items position.index) o)
        → position.row < length rows
    go None e h = absurd (true≢false (sym h))
    go (Some row) e h = slice_get_within rows position.row row e

-- the request at a position is taken out of its row
pub record IsTakenFrom (rows : List Row) (position : Position) (row new : Row) : Type 0 where
  pub w : Waiting
  pub there : slice_get rows position.row ≡ Some row
  pub at : at_position rows position ≡ Some w
  pub less : IsMore w new.items row.items

pub taken_from : (rows : List Row) (position : Position) (row new : Row) → IsSome (at_position rows position)
    → row ≡ get_or rows position.row row
    → new.items ≡ remove row.items position.index → IsTakenFrom rows position row new
taken_from rows position row new has is items = go (at_position rows position) refl has
  where
    there : slice_get rows position.row ≡ Some row
    there = row_there rows position.row row (position_within rows position has) is

    go : (o : Option Waiting) → at_position rows position ≡ o → IsSome o → IsTakenFrom rows position row new
    go None e h = absurd (true≢false (sym h))
    go (Some w) e h = record {
      w = w;
      there = there;
      at = e;
      less = removed_more w row.items new.items position.index items
          (sym (ap (option_and_then (λ (r : Row). slice_get r.items position.index)) there) ∙ e);
    }

-- a row that has one request less, or one more of its cylinder
pub less_rows : (rows : List Row) (i : ℕ) (row new : Row) → slice_get rows i ≡ Some row → (w : Waiting) → IsMore w new.items row.items
    → AreRows 0 rows → AreRows 0 (set rows i new)
less_rows rows i row new there w less h = set_rows 0 rows i new h (all_less w new.items row.items less (λ x. IsOnCylinder (0 + i) x.0.0)
    (row_on 0 rows i row h there))

pub more_rows : (w : Waiting) (rows : List Row) (i : ℕ) (row new : Row) → slice_get rows i ≡ Some row → IsMore w row.items new.items
    → IsOnCylinder i w.0.0 → AreRows 0 rows → AreRows 0 (set rows i new)
more_rows w rows i row new there is on h =
    let own : i ≡ 0 + i = omega arith in
    set_rows 0 rows i new h (all_more w row.items new.items is (λ x. IsOnCylinder (0 + i) x.0.0) (subst (λ n. IsOnCylinder n w.0.0) own on)
    (row_on 0 rows i row h there))

pub same_rows : (rows : List Row) (i : ℕ) (row new : Row) → slice_get rows i ≡ Some row → new.items ≡ row.items → AreRows 0 rows
    → AreRows 0 (set rows i new)
same_rows rows i row new there is h =
    set_rows 0 rows i new h (subst (AllByRecursion (λ (w : Waiting). IsOnCylinder (0 + i) w.0.0)) (sym is) (row_on 0 rows i row h there))

-- a row with no request is one more
pub no_more : (rows : List Row) (new : Row) → new.items ≡ [] → all_of_rows (rows ++ new ∷ []) ≡ all_of_rows rows
no_more [] new none = ap (λ ws. ws ++ []) none
no_more (x ∷ rows) new none = ap (λ ws. x.items ++ ws) (no_more rows new none)

pub no_more_rows : (cylinder : ℕ) (rows : List Row) (new : Row) → new.items ≡ [] → AreRows cylinder rows
    → AreRows cylinder (rows ++ new ∷ [])
no_more_rows cylinder [] new none h = (subst (AllByRecursion (λ (w : Waiting). IsOnCylinder cylinder w.0.0)) (sym none) tt, tt)
no_more_rows cylinder (x ∷ rows) new none h = (h.0, no_more_rows (cylinder + 1) rows new none h.1)

-- a row of rows of which one is new
set_get : (rows : List Row) (i k : ℕ) (new row : Row) → slice_get (set rows i new) k ≡ Some row
    → ((k ≡ i) × (row ≡ new)) ⊎ ((k ≢ i) × (slice_get rows k ≡ Some row))
set_get [] i k new row e = absurd (none-some row e)
set_get (x ∷ rows) zero zero new row e = inl (refl, sym (some_injective new row e))
set_get (x ∷ rows) zero (suc k) new row e = inr ((λ s. omega (arith, s)), e)
set_get (x ∷ rows) (suc i) zero new row e = inr ((λ s. omega (arith, s)), e)
set_get (x ∷ rows) (suc i) (suc k) new row e = elim (set_get rows i k new row e) [
  | inl one ↦ inl (ap suc one.0, one.1)
  | inr other ↦ inr ((λ s. other.0 (omega (arith, s))), other.1)
]

-- a row without requests has none
none_there : (row new : Row) → row ≡ new → new.items ≡ [] → 0 < length row.items → ⊥
none_there row new same none some =
    let left : length row.items ≡ 0 = ap (λ (r : Row). length r.items) same ∙ ap length none in omega (arith, some, left)

end_get : (rows : List Row) (k : ℕ) (new row : Row) → slice_get (rows ++ new ∷ []) k ≡ Some row
    → (row ≡ new) ⊎ (slice_get rows k ≡ Some row)
end_get [] zero new row e = inl (sym (some_injective new row e))
end_get [] (suc k) new row e = absurd (none-some row e)
end_get (x ∷ rows) zero new row e = inr e
end_get (x ∷ rows) (suc k) new row e = end_get rows k new row e

-- the rows that have requests
pub occupied_set : (occupied : BTreeSet ℕ) (rows : List Row) (i : ℕ) (new : Row)
    → (0 < length new.items → contains nat_cmp occupied i ≡ true) → AreOccupied occupied rows → AreOccupied occupied (set rows i new)
occupied_set occupied rows i new own are = λ k row there some. elim (set_get rows i k new row there) [
  | inl one ↦ subst (λ n. contains nat_cmp occupied n ≡ true) (sym one.0) (own (subst (λ (r : Row). 0 < length r.items) one.1 some))
  | inr other ↦ are k row other.1 some
]

pub occupied_end : (occupied : BTreeSet ℕ) (rows : List Row) (new : Row) → new.items ≡ [] → AreOccupied occupied rows
    → AreOccupied occupied (rows ++ new ∷ [])
occupied_end occupied rows new none are = λ k row there some. elim (end_get rows k new row there) [
  | inl one ↦ absurd (none_there row new one none some)
  | inr other ↦ are k row other some
]

pub occupied_less : (occupied less : BTreeSet ℕ) (rows : List Row) (i : ℕ) (new : Row) → new.items ≡ []
    → ((k : ℕ) → is_at (nat_cmp i) k ≡ false → contains nat_cmp less k ≡ contains nat_cmp occupied k)
    → AreOccupied occupied rows → AreOccupied less (set rows i new)
occupied_less occupied less rows i new none kept are = λ k row there some. elim (set_get rows i k new row there) [
  | inl one ↦ absurd (none_there row new one.1 none some)
  | inr other ↦ elim (cases_Bool (is_at (nat_cmp i) k)) [
    | inl here ↦ absurd (other.0 (grind (arith, nat_tests)))
    | inr apart ↦ kept k apart ∙ are k row other.1 some
  ]
]
