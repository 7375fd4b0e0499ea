-- The numbers of names.
use Rattle.std.proofs.Common.{◌≡◌, ℕ, ◌≤◌, Bool, true, false, cond, List, [], ◌∷◌, ◌++◌, length, None, Some, sym, ◌∙◌, subst, arith, inl, inr}
use Rattle.std.specs.List.{position_or_len}
use Rattle.std.specs.Str.{bytes_eq}
use Rattle.std.proofs.lemmas.Bool.{cases_Bool}
use Rattle.std.proofs.lemmas.Bool.Decides.{nat_tests}
use Rattle.std.proofs.lemmas.Cmp.{nat_list_eq_equiv}
use Rattle.std.proofs.lemmas.List.{length_push}
use Rattle.std.proofs.lemmas.List.Folds.{position_or_len_push}
use Rattle.std.proofs.lemmas.Slice.Eq.{bytes_eq-Decides}
use Rattle.std.proofs.Common.{Vec}
use Rattle.std.specs.BTreeMap.{BTreeMap, Updates, get_by}
use Rattle.std.specs.Cmp.Lexicographic.{slice_cmp}
unfoldable use Rattle.std.specs.Map.{KeepsOthers}
use Rattle.std.specs.Map.{lookup, IsKeyTest, AreApart}
use Rattle.std.specs.Ordering.{is_eq, nat_cmp}
use Rattle.std.specs.declared.alloc.Global.{Global}
use Rattle.std.proofs.lemmas.Cmp.{eq_by_cmp_equiv, nat_list_cmp_total}
use Rattle.std.proofs.lemmas.Map.Text.{is_eq-slice_cmp}
use Rattle.fb_calls.specs.Sessions.{task_of}
use Rattle.fb_calls.specs.TaskNames.{AreNumbers}

position_or_len-le : {X : Type 0} (test : X → Bool) (xs : List X) → position_or_len test xs ≤ length xs
position_or_len-le test [] = omega arith
position_or_len-le test (x ∷ xs) = let rest = position_or_len-le test xs in elim (cases_Bool (test x)) [
  | inl hit ↦ rw hit (omega arith)
  | inr miss ↦ rw miss (omega (arith, rest))
]

-- a new name gets the next number, and the other names keep theirs
pub task_of-push : (names : List (List ℕ)) (name : List ℕ) → task_of names name ≡ None → (other : List ℕ)
    → task_of (names ++ name ∷ []) other ≡ cond (bytes_eq name other) (Some (length names)) (task_of names other)
task_of-push names name new other =
    let same = nat_list_eq_equiv.symm name other in
    let push = position_or_len_push (bytes_eq other) names name in
    let most = position_or_len-le (bytes_eq other) names in
    let long = length_push names name in
    elim (cases_Bool (bytes_eq name other)) [
      | inl is ↦
          let none : task_of names other ≡ None = subst (λ n. task_of names n ≡ None) ((bytes_eq-Decides name other).0 is) new in
          grind (arith, nat_tests, is, same, push, most, long, none)
      | inr apart ↦ grind (arith, nat_tests, apart, same, push, most, long)
    ]

apart_in_order : (name other key : List ℕ) → bytes_eq name other ≡ false → is_eq (slice_cmp nat_cmp name key) ≡ true
    → is_eq (slice_cmp nat_cmp other key) ≡ false
apart_in_order name other key apart here =
    let at : bytes_eq name key ≡ true = sym (is_eq-slice_cmp name key) ∙ here in
    is_eq-slice_cmp other key ∙ (nat_list_eq_equiv.symm other key ∙ (sym (nat_list_eq_equiv.congr name key other at) ∙ apart))

others_kept : {K X : Type 0} (eq : K → K → Bool) (test : K → Bool) (old new : List (K × X)) → KeepsOthers eq test old new
    → (other : K → Bool) → IsKeyTest eq other → AreApart test other → lookup other new ≡ lookup other old
unfolding KeepsOthers
others_kept eq test old new kept = kept

-- with a new name the table has the numbers of all names still
pub numbers_push : (old new : BTreeMap (Vec ℕ Global) ℕ) (names : List (List ℕ)) (key : Vec ℕ Global) (name : List ℕ)
    → AreNumbers old names → key.items ≡ name → task_of names name ≡ None
    → Updates (λ x y. slice_cmp nat_cmp x.items y.items) old new key (Some (length names)) → AreNumbers new (names ++ name ∷ [])
numbers_push old new names key name are is none updates = λ other.
    let push = task_of-push names name none other in
    elim (cases_Bool (bytes_eq name other)) [
      | inl same ↦
          let equal = (bytes_eq-Decides name other).0 same in
          let found : get_by (λ (k : Vec ℕ Global). slice_cmp nat_cmp other k.items) new ≡ Some (length names) =
          subst (λ n. get_by (λ (k : Vec ℕ Global). slice_cmp nat_cmp n k.items) new ≡ Some (length names)) (is ∙ equal) updates.1 in
          found ∙ sym (rw same at push)
      | inr apart ↦
          let kept : get_by (λ (k : Vec ℕ Global). slice_cmp nat_cmp other k.items) new ≡ get_by (λ (k : Vec ℕ Global). slice_cmp nat_cmp other k.items) old =
          others_kept _ _ old.entries new.entries updates.3 _
          (λ x y. (eq_by_cmp_equiv nat_list_cmp_total).congr other x.items y.items)
          (λ k. apart_in_order key.items other k.items (subst (λ n. bytes_eq n other ≡ false) (sym is) apart)) in
          kept ∙ (are other ∙ sym (rw apart at push))
    ]
