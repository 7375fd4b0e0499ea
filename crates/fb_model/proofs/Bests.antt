-- The best of a list is no worse than any of it.
use Rattle.fb_model.proofs.Words.{◌≡◌, List, [], ◌∷◌, Bool, true, false, cond, refl, AllByRecursion, best_of}

-- a test that says which of two is better, and what follows for an order of which one may always be no worse
module _ {X : Type 0} (better : X → X → Bool) (NoWorse : X → X → Type 0) (itself : (x : X) → NoWorse x x)
    (trans : (x y z : X) → NoWorse x y → NoWorse y z → NoWorse x z)
    (is : (x y : X) → better x y ≡ true → NoWorse x y) (else : (x y : X) → better x y ≡ false → NoWorse y x) where
  -- it is no worse than others and one more
  abbrev pub IsBestAmong : X → X → List X → Type 0
  IsBestAmong best first others = NoWorse best first × AllByRecursion (NoWorse best) others

  one_among : (first other : X) (others : List X) (takes : Bool) → better other first ≡ takes
      → (let best = best_of better (cond takes other first) others in
      IsBestAmong best (cond takes other first) others → IsBestAmong best first (other ∷ others))
  one_among first other others true takes rest =
      (trans (best_of better other others) other first rest.0 (is other first takes), (rest.0, rest.1))
  one_among first other others false keeps rest =
      (rest.0, (trans (best_of better first others) first other rest.0 (else other first keeps), rest.1))

  pub best_among : (first : X) (others : List X) → IsBestAmong (best_of better first others) first others
  best_among first [] = (itself first, tt)
  best_among first (other ∷ others) =
      one_among first other others (better other first) refl (best_among (cond (better other first) other first) others)
