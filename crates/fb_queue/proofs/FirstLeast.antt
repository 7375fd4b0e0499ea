-- The first request of least key, found by index.
use Rattle.std.proofs.Common.{◌≡◌, ℕ, zero, suc, ◌+◌, ◌<◌, ◌≤◌, List, [], ◌∷◌, length, refl, ap, subst}
use Rattle.std.proofs.Common.{◌∙◌, arith, Some, None, Option, Bool, true, false, inl, inr, ◌⊎◌}
use Rattle.std.specs.Prelude.{slice_get, nat_le, remove, if◌then◌else◌}
use Rattle.std.proofs.lemmas.Bool.{cases_lt}
use Rattle.std.proofs.lemmas.Bool.Decides.{nat_tests}
use Rattle.std.proofs.lemmas.Option.{same_Some, slice_get_within}
use Rattle.fb_units.proofs.Lists.{element_at as within, one_element}
use Rattle.fb_units.specs.declared.types.Request.{Request}
use Rattle.fb_model.specs.PlainReplay.{first_least, better}
use Rattle.fb_queue.specs.Least.{IsFirstLeastAt}

-- one more request, which is not better
pub keeps_best : (key : Request → ℕ) (rs : List Request) (i best least : ℕ) (r b : Request) → IsFirstLeastAt key rs i best
    → slice_get rs best ≡ Some b → least ≡ key b → slice_get rs i ≡ Some r → least ≤ key r
    → IsFirstLeastAt key rs (i + 1) best
keeps_best key rs i best least r b h at_best e at_i le = record {
  within = omega (arith, h.within);
  least = λ k x q lt at_k at_q. elim (cases_lt k i) [
    | inl l ↦ h.least k x q l at_k at_q
    | inr l ↦ let kx : x ≡ r = one_element (slice_get rs i) x r (ap (slice_get rs) (omega arith) ∙ at_k) at_i in
        let kq : q ≡ b = one_element (slice_get rs best) q b at_q at_best in omega (arith, ap key kx, ap key kq)
  ];
  first = h.first;
}

-- one more request, which is better
pub takes_best : (key : Request → ℕ) (rs : List Request) (i best least : ℕ) (r b : Request) → IsFirstLeastAt key rs i best
    → slice_get rs best ≡ Some b → least ≡ key b → slice_get rs i ≡ Some r → key r < least
    → IsFirstLeastAt key rs (i + 1) i
takes_best key rs i best least r b h at_best e at_i lt = record {
  within = omega arith;
  least = λ k x q l at_k at_q.
      let kq : q ≡ r = one_element (slice_get rs i) q r at_q at_i in
      elim (cases_lt k i) [
        | inl m ↦ omega (arith, h.least k x b m at_k at_best, ap key kq)
        | inr m ↦ let kx : x ≡ r = one_element (slice_get rs i) x r (ap (slice_get rs) (omega arith) ∙ at_k) at_i in
            omega (arith, ap key kx, ap key kq)
      ];
  first = λ k x q l at_k at_q. let kq : q ≡ r = one_element (slice_get rs i) q r at_q at_i in
      omega (arith, h.least k x b l at_k at_best, ap key kq);
}

front_better : (key : Request → ℕ) (r : Request) (rs : List Request) (best : Option (Request × List Request))
    → ((b : Request × List Request) → best ≡ Some b → key r ≤ key b.0) → better key r rs best ≡ Some (r, rs)
front_better key r rs None h = refl
front_better key r rs (Some b) h = let le : key r ≤ key b.0 = h b refl in
    let t : nat_le (key r) (key b.0) ≡ true = grind (arith, nat_tests) in rw t refl

-- the best one stays so before one that isn't better
pub later_better : (key : Request → ℕ) (r q : Request) (rs qs : List Request) (best : Option (Request × List Request)) → best ≡ Some (q, qs)
    → key q < key r → better key r rs best ≡ Some (q, r ∷ qs)
later_better key r q rs qs best e lt = let t : nat_le (key r) (key q) ≡ false = grind (arith, nat_tests) in
    ap (better key r rs) e ∙ ap (λ b. if b then Some (r, rs) else Some (q, r ∷ qs)) t

abbrev IsIn : List Request → Option (Request × List Request) → Type 0
IsIn rs None = Unit {0}
IsIn rs (Some b) = (k : ℕ) × (slice_get rs k ≡ Some b.0)

in_better : (key : Request → ℕ) (r : Request) (rs : List Request) (best : Option (Request × List Request)) → IsIn rs best
    → IsIn (r ∷ rs) (better key r rs best)
in_better key r rs None h = (0, refl)
in_better key r rs (Some b) h = chosen (nat_le (key r) (key b.0))
  where
    chosen : (t : Bool) → IsIn (r ∷ rs) (if t then Some (r, rs) else Some (b.0, r ∷ b.1))
    chosen true = (0, refl)
    chosen false = (suc h.0, h.1)

is_in : (key : Request → ℕ) (rs : List Request) → IsIn rs (first_least key rs)
is_in key [] = tt
is_in key (r ∷ rs) = in_better key r rs (first_least key rs) (is_in key rs)

-- what is picked is among them
pub picked_is_there : (key : Request → ℕ) (rs : List Request) (b : Request × List Request) → first_least key rs ≡ Some b
    → (k : ℕ) × (slice_get rs k ≡ Some b.0)
picked_is_there key rs b e = subst (IsIn rs) e (is_in key rs)

-- the first of least key is what the plain replay takes
pub first_least_at : (key : Request → ℕ) (rs : List Request) (index : ℕ) (q : Request) → IsFirstLeastAt key rs (length rs) index
    → slice_get rs index ≡ Some q → first_least key rs ≡ Some (q, remove rs index)
first_least_at key [] index q h at_q = absurd (omega (arith, h.within))
first_least_at key (r ∷ rs) zero q h at_q =
    let same : r ≡ q = same_Some r q at_q in
    front_better key r rs (first_least key rs) (λ b e. let there = picked_is_there key rs b e in
    h.least (suc there.0) b.0 r (omega (arith, slice_get_within rs there.0 b.0 there.1)) there.1 refl)
    ∙ ap (λ x. Some (x, rs)) same
first_least_at key (r ∷ rs) (suc index) q h at_q =
    later_better key r q rs (remove rs index) (first_least key rs)
    (first_least_at key rs index q (record {
      within = omega (arith, h.within);
      least = λ k x y lt at_k at_y. h.least (suc k) x y (omega arith) at_k at_y;
      first = λ k x y lt at_k at_y. h.first (suc k) x y (omega arith) at_k at_y;
    }) at_q)
    (h.first 0 r q (omega arith) refl at_q)

pub first_is_best : (key : Request → ℕ) (rs : List Request) → IsFirstLeastAt key rs 1 0
first_is_best key rs = record {
  within = omega arith;
  least = λ k r q lt at_k at_q. let same : r ≡ q = one_element (slice_get rs 0) r q (ap (slice_get rs) (omega arith) ∙ at_k) at_q in
      omega (arith, ap key same);
  first = λ k r q lt at_k at_q. absurd (omega arith);
}

-- the best so far, and its key
pub record IsBest (key : Request → ℕ) (rs : List Request) (i at value : ℕ) : Type 0 where
  pub best : IsFirstLeastAt key rs i at
  pub least : (q : Request) → slice_get rs at ≡ Some q → value ≡ key q

pub goes_on : (key : Request → ℕ) (rs : List Request) (i at least at' least' next : ℕ) → IsBest key rs i at least → i < length rs
    → ((r : Request) → slice_get rs i ≡ Some r → next ≡ key r)
    → ((next < least) × (at' ≡ i) × (least' ≡ next)) ⊎ ((least ≤ next) × (at' ≡ at) × (least' ≡ least)) → IsBest key rs (i + 1) at' least'
goes_on key rs i at least at' least' next h lt is (inl new) =
    let r = within rs i lt in
    let b = within rs at (omega (arith, h.best.within)) in
    let taken = takes_best key rs i at least r.0 b.0 h.best b.1 (h.least b.0 b.1) r.1 (omega (arith, is r.0 r.1, new.0)) in
    rw (new.1, new.2) (record { best = taken; least = is })
goes_on key rs i at least at' least' next h lt is (inr old) =
    let r = within rs i lt in
    let b = within rs at (omega (arith, h.best.within)) in
    let kept = keeps_best key rs i at least r.0 b.0 h.best b.1 (h.least b.0 b.1) r.1 (omega (arith, is r.0 r.1, old.0)) in
    rw (old.1, old.2) (record { best = kept; least = h.least })
