-- Lists of values beside the data that they stand for.
use Rattle.fb_params.proofs.Words.{◌≡◌, ℕ, zero, suc, ◌<◌, ◌≤◌, length, slice_index, get_or, true, arith, Bool, List, [], ◌∷◌, map, take}
use Rattle.fb_params.proofs.Words.{Some, unwrap_or, refl, sym, ap, subst, ◌∙◌, list_all, and_parts, take_all, Data, string}
use Rattle.fb_params.proofs.Words.{integer, float, boolean, datetime, array, table, Items, as_array, view, items_of, Value, nth, elements}
use Rattle.fb_params.proofs.Words.{listed, map_more, map_push, number_of}

pub listed_items_of : (values : List Data) → listed (items_of values) ≡ values
listed_items_of [] = refl
listed_items_of (value ∷ values) = ap (λ rest. value ∷ rest) (listed_items_of values)

-- what a value's elements are where it is an array
pub elements_array : (value : Data) (items : Items) → Some items ≡ as_array value → listed items ≡ elements value
elements_array (array found) items is = ap (λ o. listed (unwrap_or o items)) is
elements_array (string s) items is = absurd (cc)
elements_array (integer z) items is = absurd (cc)
elements_array (float x) items is = absurd (cc)
elements_array (boolean b) items is = absurd (cc)
elements_array (datetime d) items is = absurd (cc)
elements_array (table t) items is = absurd (cc)

all-at : (passes : Data → Bool) (values : List Value) → list_all passes (map view values) ≡ true → (i : ℕ) (d : Value) → i < length values
    → passes (view (get_or values i d)) ≡ true
all-at passes [] all i d inside = absurd (omega arith)
all-at passes (value ∷ values) all zero d inside = (and_parts _ _ all).0
all-at passes (value ∷ values) all (suc i) d inside = all-at passes values (and_parts _ _ all).1 i d (omega arith)

-- where all values pass, the i-th does
pub list_all_at : (passes : Data → Bool) (values : List Value) (i : ℕ) (value : Value) → list_all passes (map view values) ≡ true
    → i < length values → value ≡ get_or values i value → passes (view value) ≡ true
list_all_at passes values i value all inside is = subst (λ v. passes (view v) ≡ true) (sym is) (all-at passes values all i value inside)

number-at : (values : List Value) (i : ℕ) (d : Value) → i < length values
    → slice_index (map number_of (map view values)) i ≡ number_of (view (get_or values i d))
number-at [] i d inside = absurd (omega arith)
number-at (value ∷ values) zero d inside = refl
number-at (value ∷ values) (suc i) d inside = number-at values i d (omega arith)

-- the i-th number of a row that has these elements
pub nth_at : (row : Data) (values : List Value) (i : ℕ) (value : Value) → map view values ≡ elements row → i < length values
    → value ≡ get_or values i value → nth i row ≡ number_of (view value)
nth_at row values i value seen inside is =
    ap (λ found. slice_index (map number_of found) i) (sym seen) ∙ (number-at values i value inside ∙ ap (λ v. number_of (view v)) (sym is))

pub given_all : {A : Type 0} (f : Data → A) (values : List Value) (n : ℕ) → length values ≤ n
    → map f (map view (take n values)) ≡ map f (map view values)
given_all f values n past = ap (λ xs. map f (map view xs)) (take_all n values past)

-- how a list made row by row grows, and what it is in the end
pub ruleset each_row = (list_all_at, map_more, map_push, given_all)
