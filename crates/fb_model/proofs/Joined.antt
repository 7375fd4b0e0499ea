-- The foreground list: each request once, in the order of arrival.
use Rattle.fb_model.proofs.Words.{ℕ, ◌≤◌, List, [], ◌∷◌, ◌++◌, map, sym, subst, arith, inl, inr, nat_le, append_assoc, append-nil}
use Rattle.fb_model.proofs.Words.{IsPermutation, AllByRecursion, fold, cases_Bool, nat_tests, IsPermutation-refl, IsPermutation-trans}
use Rattle.fb_model.proofs.Words.{IsPermutation-cons, all_weaker, Request, IsRising, behind, promoted, Inputs, IsAccepted}
use Rattle.std.proofs.lemmas.List.Sorted.{IsPermutation-to_front}
use Rattle.std.proofs.lemmas.List.Sorted.{IsPermutation-append_left}
use Rattle.fb_model.specs.Laws.{IsInOrder}

abbrev arrivals : List Request → List ℕ
arrivals requests = map (λ request. request.arrival) requests

all_behind : (t : ℕ) (requests : List Request) (read : Request) → AllByRecursion (λ later. t ≤ later) (arrivals requests) → t ≤ read.arrival
    → AllByRecursion (λ later. t ≤ later) (arrivals (behind requests read))
all_behind t [] read all h = (h, tt)
all_behind t (request ∷ requests) read all h = elim (cases_Bool (nat_le request.arrival read.arrival)) [
  | inl first ↦ rw first (all.0, all_behind t requests read all.1 h)
  | inr later ↦ rw later (h, all)
]

rising_behind : (requests : List Request) (read : Request) → IsRising (arrivals requests) → IsRising (arrivals (behind requests read))
rising_behind [] read rising = (tt, tt)
rising_behind (request ∷ requests) read rising = elim (cases_Bool (nat_le request.arrival read.arrival)) [
  | inl first ↦
      rw first (all_behind request.arrival requests read rising.0 (grind (arith, nat_tests)), rising_behind requests read rising.1)
  | inr later ↦ rw later (
    let earlier : read.arrival ≤ request.arrival = grind (arith, nat_tests) in
        (earlier, all_weaker _ _ (λ x le. omega (arith, earlier, le)) (arrivals requests) rising.0),
    rising,
  )
]

rising_all : (reads requests : List Request) → IsRising (arrivals requests) → IsRising (arrivals (fold behind requests reads))
rising_all [] requests rising = rising
rising_all (read ∷ reads) requests rising = rising_all reads (behind requests read) (rising_behind requests read rising)

moved_behind : (requests : List Request) (read : Request) → IsPermutation (requests ++ read ∷ []) (behind requests read)
moved_behind [] read = IsPermutation-refl (read ∷ [])
moved_behind (request ∷ requests) read = elim (cases_Bool (nat_le request.arrival read.arrival)) [
  | inl first ↦ rw first (IsPermutation-cons request (requests ++ read ∷ []) (behind requests read) (moved_behind requests read))
  | inr later ↦ rw later (IsPermutation-to_front (request ∷ requests) read)
]

moved_all : (reads requests : List Request) → IsPermutation (requests ++ reads) (fold behind requests reads)
moved_all [] requests = subst (λ xs. IsPermutation xs requests) (sym (append-nil requests)) (IsPermutation-refl requests)
moved_all (read ∷ reads) requests =
    IsPermutation-trans (requests ++ read ∷ reads) (behind requests read ++ reads) (fold behind (behind requests read) reads)
    (subst (λ xs. IsPermutation xs (behind requests read ++ reads)) (append_assoc requests (read ∷ []) reads)
    (IsPermutation-append_left reads (requests ++ read ∷ []) (behind requests read) (moved_behind requests read)))
    (moved_all reads (behind requests read))

pub in_order : (inputs : Inputs) → IsAccepted inputs → IsInOrder inputs
in_order inputs accepted = record {
  once = moved_all (promoted inputs.calls) inputs.trace;
  ascend = rising_all (promoted inputs.calls) inputs.trace accepted.arrivals;
}
