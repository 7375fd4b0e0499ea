-- The searches of the code beside those of the definitions.
use Rattle.std.specs.List.Sorted.{IsStrictlySortedBy}
use Rattle.std.specs.Cmp.Lexicographic.{slice_cmp}
use Rattle.std.specs.String.{string_cmp}
use Rattle.std.proofs.lemmas.Cmp.{nat_list_cmp_total}
use Rattle.std.specs.Map.{keys_of}
use Rattle.std.proofs.lemmas.List.{drop_more}
use Rattle.fb_params.proofs.Words.{◌≡◌, ℕ, ◌+◌, ◌<◌, Bool, not, List, [], ◌∷◌, ◌++◌, length, get_or, drop, map, Option, Some, None, Less}
use Rattle.fb_params.proofs.Words.{Greater, option_map, String, Global, string_bytes, refl, sym, ap, append_assoc, ◌∙◌, inl, inr, find}
use Rattle.fb_params.proofs.Words.{filter, filter_map, cons_option, AllByRecursion, nat_cmp, ordering_reverse, least, lesser}
use Rattle.fb_params.proofs.Words.{option_or, option_and_then, option_to_list, cases_Bool, Members, as_table, get_member, view}
use Rattle.fb_params.proofs.Words.{members_view, Value, names_of, Key, key_of, DeclaredKey, Rule, Known, Present, OfKind, InRange, breaks}
use Rattle.fb_params.proofs.Words.{is_name_of, comes_before, first_in, first_some}
use Rattle.fb_params.proofs.Kept.{none-option_or}

pub find-map : {A B : Type 0} (f : A → B) (p : B → Bool) (xs : List A) → find p (map f xs) ≡ option_map f (find (λ x. p (f x)) xs)
find-map f p [] = refl
find-map f p (x ∷ xs) = elim (cases_Bool (p (f x))) [
  | inl hit ↦ rw hit refl
  | inr miss ↦ rw miss (find-map f p xs)
]

option_map-map : (found : Option DeclaredKey)
    → option_map (λ key. key.name) (option_map key_of found) ≡ option_map (λ key. key.name.now) found
option_map-map None = refl
option_map-map (Some key) = refl

-- the names of a table are the keys of its map
pub names_of-view : (entries : List (String Global × Value)) → names_of (members_view entries) ≡ map string_bytes (keys_of entries)
names_of-view [] = refl
names_of-view (entry ∷ entries) = ap (λ names. string_bytes entry.0 ∷ names) (names_of-view entries)

-- a name before all those that a search goes through is before the one that it finds
before_found : (p : List ℕ → Bool) (k : String Global) (ks : List (String Global)) → AllByRecursion (λ other. string_cmp k other ≡ Less) ks
    → lesser comes_before (string_bytes k) (option_map string_bytes (find (λ other. p (string_bytes other)) ks)) ≡ Some (string_bytes k)
before_found p k [] before = refl
before_found p k (other ∷ ks) before = elim (cases_Bool (p (string_bytes other))) [
  | inl hit ↦
      let behind : slice_cmp nat_cmp (string_bytes other) (string_bytes k) ≡ Greater =
      nat_list_cmp_total.antisymm (string_bytes other) (string_bytes k) ∙ ap ordering_reverse before.0 in
      rw (hit, behind) refl
  | inr miss ↦ rw miss (before_found p k ks before.1)
]

-- in names that ascend the least that passes is the first
least-find : (p : List ℕ → Bool) (ks : List (String Global)) → IsStrictlySortedBy string_cmp ks
    → least comes_before (filter p (map string_bytes ks)) ≡ option_map string_bytes (find (λ k. p (string_bytes k)) ks)
unfolding IsStrictlySortedBy
least-find p [] sorted = refl
least-find p (k ∷ ks) sorted = elim (cases_Bool (p (string_bytes k))) [
  | inl hit ↦ rw (hit, least-find p ks sorted.1) (before_found p k ks sorted.0)
  | inr miss ↦ rw miss (least-find p ks sorted.1)
]

-- the least unknown name of a table, and the first of its map
pub unknown-view : (keys : List Key) (entries : List (String Global × Value)) (found : Option (String Global))
    → found ≡ find (λ name. not (is_name_of keys (string_bytes name))) (keys_of entries) → IsStrictlySortedBy string_cmp (keys_of entries)
    → option_map string_bytes found ≡ first_in Known keys (members_view entries)
unknown-view keys entries found is sorted =
    ap (option_map string_bytes) is
    ∙ (sym (least-find (λ name. not (is_name_of keys name)) (keys_of entries) sorted)
    ∙ ap (λ names. least comes_before (filter (λ name. not (is_name_of keys name)) names)) (sym (names_of-view entries)))

broken-first_in : (rule : Rule) (keys : List Key) (table : Members) → (rule ≡ Known → ⊥)
    → option_map (λ key. key.name) (find (λ key. breaks rule key (get_member key.name table)) keys) ≡ first_in rule keys table
broken-first_in Known keys table other = absurd (other refl)
broken-first_in Present keys table other = refl
broken-first_in OfKind keys table other = refl
broken-first_in InRange keys table other = refl

-- the first key of the code's table that breaks a rule
pub broken-key_of : (rule : Rule) (keys : List DeclaredKey) (table : Members) → (rule ≡ Known → ⊥)
    → option_map (λ key. key.name.now) (find (λ key. breaks rule (key_of key) (get_member key.name.now table)) keys)
    ≡ first_in rule (map key_of keys) table
broken-key_of rule keys table other =
    sym (ap (option_map (λ key. key.name)) (find-map key_of (λ key. breaks rule key (get_member key.name table)) keys) ∙ option_map-map _)
    ∙ broken-first_in rule (map key_of keys) table other

first_some-cons_option : {A B : Type 0} (f : A → Option B) (o : Option A) (xs : List A)
    → first_some f (cons_option o xs) ≡ option_or (option_and_then f o) (first_some f xs)
first_some-cons_option f None xs = refl
first_some-cons_option f (Some x) xs = refl

-- what the zones from the i-th value on give first
pub first_some-drop : {B : Type 0} (f : Members → Option B) (values : List Value) (i : ℕ) (d : Value) → i < length values
    → first_some f (filter_map as_table (map view (drop i values)))
    ≡ option_or (option_and_then f (as_table (view (get_or values i d))))
    (first_some f (filter_map as_table (map view (drop (i + 1) values))))
first_some-drop f values i d inside = rw (drop_more values i d inside) (first_some-cons_option f (as_table (view (get_or values i d))) _)

-- what a search of the zones that found nothing says of the i-th value and of those behind it
pub first_some-none : {B : Type 0} (f : Members → Option B) (values : List Value) (i : ℕ) (value : Value) → i < length values
    → value ≡ get_or values i value
    → first_some f (filter_map as_table (map view (drop i values))) ≡ None
    → (option_and_then f (as_table (view value)) ≡ None) × (first_some f (filter_map as_table (map view (drop (i + 1) values))) ≡ None)
first_some-none f values i value inside is none =
    let parts = none-option_or _ _ (sym (first_some-drop f values i value inside) ∙ none) in
    (ap (λ v. option_and_then f (as_table (view v))) is ∙ parts.0, parts.1)

map-cons_option : {A B : Type 0} (f : A → B) (o : Option A) (xs : List A)
    → map f (cons_option o xs) ≡ option_to_list (option_map f o) ++ map f xs
map-cons_option f None xs = refl
map-cons_option f (Some x) xs = refl

zones-drop : {B : Type 0} (f : Members → B) (values : List Value) (i : ℕ) (d : Value) → i < length values
    → map f (filter_map as_table (map view (drop i values)))
    ≡ option_to_list (option_map f (as_table (view (get_or values i d)))) ++ map f (filter_map as_table (map view (drop (i + 1) values)))
zones-drop f values i d inside = rw (drop_more values i d inside) (map-cons_option f (as_table (view (get_or values i d))) _)

-- the zones so far, and then those from the i-th value on
pub zones-more : {B : Type 0} (f : Members → B) (whole done : List B) (values : List Value) (i : ℕ) (value : Value) → i < length values
    → value ≡ get_or values i value
    → whole ≡ done ++ map f (filter_map as_table (map view (drop i values)))
    → whole ≡ (done ++ option_to_list (option_map f (as_table (view value))))
    ++ map f (filter_map as_table (map view (drop (i + 1) values)))
zones-more f whole done values i value inside is so_far =
    so_far
    ∙ (ap (λ rest. done ++ rest) (zones-drop f values i value inside)
    ∙ (sym (append_assoc done (option_to_list (option_map f (as_table (view (get_or values i value))))) _)
    ∙ ap (λ v. (done ++ option_to_list (option_map f (as_table (view v)))) ++ map f (filter_map as_table (map view (drop (i + 1) values))))
    (sym is)))
