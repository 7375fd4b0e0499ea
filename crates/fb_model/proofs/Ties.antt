-- The order of plans.
use Rattle.fb_model.proofs.Words.{ℕ, inl, inr, List, refl, arith, sym, ◌∙◌, subst, ◌≡◌, ◌⊎◌, true, false, or_cases, nat_tests, same_fields}
use Rattle.fb_model.proofs.Words.{Track, Disk, Block, Gap, Plan, Direct, Detour, is_track_before, IsPlan, IsNoLater, IsNoWorse}
use Rattle.fb_model.proofs.Words.{IsTrackBefore, IsBest}
use Rattle.std.proofs.Common.{nat_lt}
use Rattle.std.proofs.lemmas.Bool.{cases_order}

pub before_is : (a b : Track) → is_track_before a b ≡ true → IsTrackBefore a b
before_is a b h = elim (or_cases (nat_lt a.cylinder b.cylinder) _ h) [
  | inl less ↦ inl (grind (arith, nat_tests))
  | inr same ↦ inr (grind (arith, nat_tests), grind (arith, nat_tests))
]

-- the second comes first, or it is the same
pub not_before : (a b : Track) → is_track_before a b ≡ false → IsTrackBefore b a ⊎ (a ≡ b)
not_before a b h = elim (cases_order a.cylinder b.cylinder) [
  | inl same ↦ elim (cases_order a.head b.head) [
    | inl both ↦ inr (same_fields a b same both)
    | inr differ ↦ elim differ [ inl less ↦ absurd (grind (arith, nat_tests)) | inr more ↦ inl (inr (sym same, more)) ]
  ]
  | inr differ ↦ elim differ [ inl less ↦ absurd (grind (arith, nat_tests)) | inr more ↦ inl (inl more) ]
]

before-trans : (a b c : Track) → IsTrackBefore a b → IsTrackBefore b c → IsTrackBefore a c
before-trans a b c h k = elim h [
  | inl x ↦ elim k [ inl y ↦ inl (omega arith) | inr y ↦ inl (omega (arith, y.0)) ]
  | inr x ↦ elim k [ inl y ↦ inl (omega (arith, x.0)) | inr y ↦ inr (x.0 ∙ y.0, omega (arith, x.1, y.1)) ]
]

detour-trans : (a : Track) (t : ℕ) (b : Track) (u : ℕ) (c : Track) (v : ℕ) → IsNoLater (Detour a t) (Detour b u)
    → IsNoLater (Detour b u) (Detour c v) → IsNoLater (Detour a t) (Detour c v)
detour-trans a t b u c v h k = elim h [
  | inl x ↦ elim k [ inl y ↦ inl (before-trans a b c x y) | inr y ↦ inl (subst (λ d. IsTrackBefore a d) y.0 x) ]
  | inr x ↦ elim k [ inl y ↦ inl (subst (λ d. IsTrackBefore d c) (sym x.0) y) | inr y ↦ inr (x.0 ∙ y.0, omega (arith, x.1, y.1)) ]
]

pub later-trans : (p q r : Plan) → IsNoLater p q → IsNoLater q r → IsNoLater p r
later-trans (Direct t) (Direct u) (Direct v) h k = omega arith
later-trans (Direct t) (Direct u) (Detour c v) h k = tt
later-trans (Direct t) (Detour b u) (Direct v) h k = absurd k
later-trans (Direct t) (Detour b u) (Detour c v) h k = tt
later-trans (Detour a t) (Direct u) r h k = absurd h
later-trans (Detour a t) (Detour b u) (Direct v) h k = absurd k
later-trans (Detour a t) (Detour b u) (Detour c v) h k = detour-trans a t b u c v h k

pub later-self : (p : Plan) → IsNoLater p p
later-self (Direct u) = omega arith
later-self (Detour c u) = inr (refl, omega arith)

module _ (disk : Disk) (gap : Gap) (wanted : List Block) where
  pub no_worse-self : (p : Plan) → IsNoWorse disk gap wanted p p
  no_worse-self p = inr (refl, later-self p)

  pub no_worse-trans : (p q r : Plan) → IsNoWorse disk gap wanted p q → IsNoWorse disk gap wanted q r → IsNoWorse disk gap wanted p r
  no_worse-trans p q r h k = elim h [
    | inl x ↦ elim k [ inl y ↦ inl (omega arith) | inr y ↦ inl (omega (arith, y.0)) ]
    | inr x ↦ elim k [ inl y ↦ inl (omega (arith, x.0)) | inr y ↦ inr (y.0 ∙ x.0, later-trans p q r x.1 y.1) ]
  ]

  pub best-of : (p : Plan) → IsPlan disk gap p → ((q : Plan) → IsPlan disk gap q → IsNoWorse disk gap wanted p q) → IsBest disk gap wanted p
  best-of p is no_worse = record {
    is_plan = is;
    greatest = λ q h. elim (no_worse q h) [ inl x ↦ omega arith | inr x ↦ omega (arith, x.0) ];
    first = λ q h e. elim (no_worse q h) [ inl x ↦ absurd (omega arith) | inr x ↦ x.1 ];
  }
