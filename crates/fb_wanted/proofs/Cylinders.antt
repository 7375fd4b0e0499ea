-- The upper bounds on the weights of tracks, by cylinder and by band.
use Rattle.fb_wanted.proofs.Words.{◌≡◌, ℕ, ◌/◌, ◌<◌, ◌≤◌, max, inl, inr, List, false, length, get_or, set, refl, ap, sym, ◌∙◌, arith}
use Rattle.fb_wanted.proofs.Words.{subst, cases_eq, get_or-set_at, get_or-set_other, length-set, Track, same_track, OnTrack, track_at}
use Rattle.fb_wanted.proofs.Words.{weight_kept, AreGreatest, ArePeaks, IsChanged}

-- the bounds hold too with room for more cylinders
pub greatest_still : (tracks : List (List OnTrack)) (was is : List ℕ) → AreGreatest tracks was → ((c : ℕ) → get_or is c 0 ≡ get_or was c 0)
    → length was ≤ length is → AreGreatest tracks is
greatest_still tracks was is h stay longer = record {
  weights = λ t. subst (λ n. weight_kept tracks t ≤ n) (sym (stay t.cylinder)) (h.weights t);
  there = omega (arith, h.there, longer);
}

-- the bounds hold too of tracks with the same weights, if each cylinder has one
pub greatest_same : (tracks new : List (List OnTrack)) (greatest : List ℕ) → AreGreatest tracks greatest
    → ((t : Track) → weight_kept new t ≡ weight_kept tracks t) → length new ≤ length greatest → AreGreatest new greatest
greatest_same tracks new greatest h same there = record {
  weights = λ t. subst (λ n. n ≤ get_or greatest t.cylinder 0) (sym (same t)) (h.weights t);
  there = there;
}

-- the bounds after the weight of one track has changed
module _ (old new : List (List OnTrack)) (track : Track) (change : OnTrack → OnTrack) (was : List ℕ) (h : AreGreatest old was)
    (changed : IsChanged old new track change) where
  elsewhere : (t : Track) → same_track track t ≡ false → track_at new t ≡ track_at old t
  elsewhere t other = changed t ∙ rw other refl

  pub others_within : (t : Track) → same_track track t ≡ false → weight_kept new t ≤ get_or was t.cylinder 0
  others_within t other = subst (λ k. k.weight ≤ get_or was t.cylinder 0) (sym (elsewhere t other)) (h.weights t)

  pub greatest_after : (is : List ℕ) → length new ≤ length was → length is ≡ length was
      → ((t : Track) → weight_kept new t ≤ get_or is t.cylinder 0) → AreGreatest new is
  greatest_after is room size weights = record { weights = weights; there = omega (arith, room, size) }

-- the greatest of each group is right after one number and the greatest of its group have changed
pub peaks_set : (numbers peaks : List ℕ) (i number greatest : ℕ) → ArePeaks numbers peaks → i < length numbers
    → ((k : ℕ) → k / 64 ≡ i / 64 → get_or (set numbers i number) k 0 ≤ greatest)
    → ((most : ℕ) → number ≤ most → (get_or numbers i 0 < get_or peaks (i / 64) 0 → get_or peaks (i / 64) 0 ≤ most)
    → ((k : ℕ) → k / 64 ≡ i / 64 → get_or (set numbers i number) k 0 ≤ most) → greatest ≤ most)
    → ArePeaks (set numbers i number) (set peaks (i / 64) greatest)
peaks_set numbers peaks i number greatest h room each least =
    let there = h.there i room in
    let was = get_or numbers i 0 in
    let elsewhere : (k : ℕ) → (k ≡ i → ⊥) → get_or (set numbers i number) k 0 ≡ get_or numbers k 0
    = λ k other. get_or-set_other numbers i k number 0 other in
    record {
      each = λ k. elim (cases_eq (k / 64) (i / 64)) [
        | inl here ↦ omega (arith, get_or-set_at peaks (i / 64) (k / 64) greatest 0 here there, each k here)
        | inr other ↦ omega (
          arith,
          get_or-set_other peaks (i / 64) (k / 64) greatest 0 other,
          elsewhere k (λ same. other (ap (λ x. x / 64) same)),
          h.each k,
        )
      ];
      least = λ group most all. elim (cases_eq group (i / 64)) [
        | inl here ↦
            let its = λ (k : ℕ) (same : k / 64 ≡ i / 64). all k (same ∙ sym here) in
            let old = h.least (i / 64) (max most was) (λ k same. elim (cases_eq k i) [
              | inl at ↦ omega (arith, ap (λ j. get_or numbers j 0) at)
              | inr other ↦ omega (arith, elsewhere k other, its k same)
            ]) in
            omega (
              arith,
              get_or-set_at peaks (i / 64) group greatest 0 here there,
              least most (omega (arith, its i refl, get_or-set_at numbers i i number 0 refl room)) (λ less. omega (arith, less, old)) its,
            )
        | inr other ↦ omega (
          arith,
          get_or-set_other peaks (i / 64) group greatest 0 other,
          h.least group most (λ k same. omega (arith, elsewhere k (λ at. other (sym same ∙ ap (λ x. x / 64) at)), all k same)),
        )
      ];
      there = λ k lt. omega (arith, h.there k (omega (arith, length-set numbers i number, lt)), length-set peaks (i / 64) greatest);
    }
