-- Verdicts that are all values.
use Rattle.std.proofs.Common.{◌≡◌, ◌∙◌, ℕ, zero, suc, List, [], ◌∷◌, length, map, refl, sym, ap, arith, Some, Result, Ok, Err}
use Rattle.std.specs.Prelude.{slice_get}
use Rattle.std.specs.List.{range_with_len}
use Rattle.std.proofs.lemmas.List.FromFn.{length-map-range_with_len}
use Rattle.fb_units.proofs.Lists.{one_element}
use Rattle.fb_units.specs.Judging.{◌>>=◌}
use Rattle.fb_trace.specs.Devices.{all_of}

-- a verdict and those behind it are values
both_values : {A E : Type 0} (first : Result A E) (rest : Result (List A) E) (values : List A)
    → first >>= (λ value. rest >>= (λ others. Ok (value ∷ others))) ≡ Ok values
    → (value : A) × (others : List A) × (first ≡ Ok value) × (rest ≡ Ok others) × (values ≡ value ∷ others)
both_values (Ok value) (Ok others) values e = (value, others, refl, refl, cc)
both_values (Ok value) (Err error) values e = absurd cc
both_values (Err error) rest values e = absurd cc

-- where all verdicts are values, each is the value in its place
pub each_of_all : {A E : Type 0} (results : List (Result A E)) (values : List A) (i : ℕ) (value : A) → all_of results ≡ Ok values
    → slice_get values i ≡ Some value → slice_get results i ≡ Some (Ok value)
each_of_all [] [] i value e at = absurd cc
each_of_all [] (other ∷ values) i value e at = absurd cc
each_of_all (result ∷ results) values zero value e at =
    let parts = both_values result (all_of results) values e in
    ap Some (parts.2 ∙ ap Ok (one_element (Some parts.0) parts.0 value refl (sym (ap (λ vs. slice_get vs 0) parts.4) ∙ at)))
each_of_all (result ∷ results) values (suc i) value e at =
    let parts = both_values result (all_of results) values e in
    each_of_all results parts.1 i value parts.3 (sym (ap (λ vs. slice_get vs (suc i)) parts.4) ∙ at)

-- as many values as verdicts
all_counted : {A E : Type 0} (results : List (Result A E)) (values : List A) → all_of results ≡ Ok values → length values ≡ length results
all_counted [] [] e = refl
all_counted [] (value ∷ values) e = absurd cc
all_counted (result ∷ results) values e =
    let parts = both_values result (all_of results) values e in
    omega (arith, ap length parts.4, all_counted results parts.1 parts.3)

-- and as many as there are devices
pub each_counted : {A E : Type 0} (read : ℕ → Result A E) (n : ℕ) (values : List A) → all_of (map read (range_with_len 0 n)) ≡ Ok values
    → length values ≡ n
each_counted read n values e = omega (arith, all_counted (map read (range_with_len 0 n)) values e, length-map-range_with_len read 0 n)
