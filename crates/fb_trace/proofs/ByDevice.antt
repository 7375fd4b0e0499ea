-- What is said of each device in turn.
use Rattle.std.proofs.Common.{◌≡◌, ◌≢◌, ℕ, zero, suc, ◌+◌, ◌<◌, ◌≤◌, List, [], ◌∷◌, length, get_or, take, set, map, refl, sym, ap, ◌∙◌}
use Rattle.std.proofs.Common.{arith, Result, Ok, Err}
use Rattle.std.specs.Prelude.{replicate}
use Rattle.std.specs.List.{AllByRecursion, range_with_len}
use Rattle.fb_units.specs.Judging.{◌>>=◌}
use Rattle.fb_trace.specs.Devices.{all_of}
use Rattle.fb_trace.specs.Progress.{by_device}

-- if what follows comes to a refusal, so does the whole, unless the first was refused
refused_later : {A E : Type 0} (first : Result A E) (others some : Result (List A) E) (fault : E) → others ≡ (some >>= λ values. Err fault)
    → (first >>= λ value. others >>= λ values. Ok (value ∷ values))
    ≡ ((first >>= λ value. some >>= λ values. Ok (value ∷ values)) >>= λ values. Err fault)
refused_later (Err e) others some fault same = refl
refused_later (Ok value) others (Ok values) fault same = rw same refl
refused_later (Ok value) others (Err e) fault same = rw same refl

module _ {X Y : Type 0} (f g : ℕ → X → Y) (e : ℕ) (P : X → Type 0)
    (other : (device : ℕ) (x : X) → device ≢ e → P x → f device x ≡ g device x) where
  -- the same is said of devices that are all above this one
  pub same_above : (device : ℕ) (xs : List X) → e < device → AllByRecursion P xs → by_device f device xs ≡ by_device g device xs
  same_above device [] above all = refl
  same_above device (x ∷ xs) above all =
      ap (λ y. y ∷ by_device f (device + 1) xs) (other device x (λ same. absurd (omega arith)) all.0)
      ∙ ap (λ ys. g device x ∷ ys) (same_above (device + 1) xs (omega arith) all.1)

  -- the same is said of devices that are all below this one
  pub same_below : (device : ℕ) (xs : List X) → device + length xs ≤ e → AllByRecursion P xs → by_device f device xs ≡ by_device g device xs
  same_below device [] below all = refl
  same_below device (x ∷ xs) below all =
      ap (λ y. y ∷ by_device f (device + 1) xs) (other device x (λ same. absurd (omega arith)) all.0)
      ∙ ap (λ ys. g device x ∷ ys) (same_below (device + 1) xs (omega arith) all.1)

  -- the same is said of all devices, if it is said of this one after its own change
  pub same_after : (device k : ℕ) (xs : List X) (own next : X) → device + k ≡ e → k < length xs → own ≡ get_or xs k own → f e own ≡ g e next
      → AllByRecursion P xs
      → by_device f device xs ≡ by_device g device (set xs k next)
  same_after device k [] own next at inside is changed all = absurd (omega arith)
  same_after device zero (x ∷ xs) own next at inside is changed all =
      let here : device ≡ e = omega arith in
      ap (λ y. y ∷ by_device f (device + 1) xs) (ap (f device) (sym is) ∙ ap (λ d. f d own) here ∙ changed ∙ ap (λ d. g d next) (sym here))
      ∙ ap (λ ys. g device next ∷ ys) (same_above (device + 1) xs (omega arith) all.1)
  same_after device (suc k) (x ∷ xs) own next at inside is changed all =
      ap (λ y. y ∷ by_device f (device + 1) xs) (other device x (λ same. absurd (omega arith)) all.0)
      ∙ ap (λ ys. g device x ∷ ys) (same_after (device + 1) k xs own next (omega arith) (omega arith) is changed all.1)

module _ {X A E : Type 0} (f g : ℕ → X → Result A E) (e : ℕ) (P : X → Type 0)
    (other : (device : ℕ) (x : X) → device ≢ e → P x → f device x ≡ g device x) where
  -- a device that is refused is the first refusal, unless one below it is refused
  pub refused_at : (device k : ℕ) (xs : List X) (own : X) (fault : E) → device + k ≡ e → k < length xs → own ≡ get_or xs k own
      → f e own ≡ Err fault → AllByRecursion P xs
      → all_of (by_device f device xs) ≡ (all_of (by_device g device (take k xs)) >>= λ values. Err fault)
  refused_at device k [] own fault at inside is refused all = absurd (omega arith)
  refused_at device zero (x ∷ xs) own fault at inside is refused all =
      let here : device ≡ e = omega arith in
      ap (λ r. r >>= λ value. all_of (by_device f (device + 1) xs) >>= λ values. Ok (value ∷ values))
      (ap (f device) (sym is) ∙ ap (λ d. f d own) here ∙ refused)
  refused_at device (suc k) (x ∷ xs) own fault at inside is refused all =
      ap (λ r. r >>= λ value. all_of (by_device f (device + 1) xs) >>= λ values. Ok (value ∷ values))
      (other device x (λ same. absurd (omega arith)) all.0)
      ∙ refused_later (g device x) (all_of (by_device f (device + 1) xs)) (all_of (by_device g (device + 1) (take k xs))) fault
      (refused_at (device + 1) k xs own fault (omega arith) (omega arith) is refused all.1)

-- devices that have the same are told apart by their numbers alone
pub each_device : {X Y : Type 0} (f : ℕ → X → Y) (x : X) (device n : ℕ)
    → by_device f device (replicate n x) ≡ map (λ d. f d x) (range_with_len device n)
each_device f x device zero = refl
each_device f x device (suc n) = ap (λ ys. f device x ∷ ys) (each_device f x (device + 1) n)

-- what is accepted of each
pub all_accepted : {X A E : Type 0} (f : ℕ → X → Result A E) (value : X → A) → ((device : ℕ) (x : X) → f device x ≡ Ok (value x))
    → (device : ℕ) (xs : List X)
    → all_of (by_device f device xs) ≡ Ok (map value xs)
all_accepted f value accepts device [] = refl
all_accepted f value accepts device (x ∷ xs) = rw (accepts device x, all_accepted f value accepts (device + 1) xs) refl
