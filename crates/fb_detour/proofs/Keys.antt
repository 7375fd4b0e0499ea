-- Numbers that stand for the parts of a range of cylinders, each with an upper bound on its detours.
use Rattle.fb_detour.proofs.Words.{List, ap, arith, get_or, inl, inr, min, subst, sym, ℕ, ◌%◌, ◌*◌, ◌+◌, ◌-◌, ◌/◌, ◌<◌, ◌≡◌, ◌≤◌, mod-lt}
use Rattle.fb_detour.proofs.Words.{cases_lt, cases_order, div-add-mod', Plan, Scored, IsCeiling, IsFound, IsKey, IsNoWorseIn}
use Rattle.fb_detour.proofs.Words.{IsNoWorseThanTracks, Search}
use Rattle.fb_detour.proofs.Limits.{steps_below}
use Rattle.fb_detour.proofs.Ranges.{range-kept}

-- the number is one of them
abbrev pub IsAmong : List ℕ → ℕ → Type 0
IsAmong keys key = (i : ℕ) × (i < 8) × (get_or keys i 0 ≡ key)

module _ (search : Search) (from end width : ℕ) where
  -- where the part of an index ends
  abbrev pub end_of_part : ℕ → ℕ
  end_of_part j = min end (from + j * width + width)

  -- the best so far is at least as good as each detour over the part
  abbrev pub IsNoWorseThanPart : Plan → ℕ → Type 0
  IsNoWorseThanPart best j = IsNoWorseThanTracks search best (from + j * width) (end_of_part j)

  -- the number of a part with this bound
  pub key-of : (j most upto : ℕ) → j < 8 → most ≤ 2 * (16000000 * 2048000) → upto ≡ end_of_part j
      → IsCeiling search (from + j * width) upto most → IsKey search from end width j (most * 8 + (8 - j))
  key-of j most upto less light at ceiling =
      let bound : most ≡ (most * 8 + (8 - j) - 1) / 8 = omega (arith, less) in record {
        some = omega (arith, less);
        small = omega (arith, light);
        part = omega (arith, less);
        ceiling = subst (IsCeiling search (from + j * width) (end_of_part j)) bound
            (subst (λ u. IsCeiling search (from + j * width) u most) at ceiling);
      }

  -- each part whose number is above this one has no better plan
  abbrev pub AreDone : List ℕ → Plan → ℕ → Type 0
  AreDone keys best key = (j : ℕ) → j < 8 → key < get_or keys j 0 → IsNoWorseThanPart best j

  module _ (keys : List ℕ) (are : (j : ℕ) → j < 8 → IsKey search from end width j (get_or keys j 0)) where
    -- the part of a number
    part-of : (i key : ℕ) → i < 8 → get_or keys i 0 ≡ key → i ≡ 7 - (key - 1) % 8
    part-of i key less is = omega (arith, less, (are i less).part, ap (λ k. (k - 1) % 8) is)

    -- the bound that a number stands for
    pub bound-of : (key upto : ℕ) → IsAmong keys key → upto ≡ end_of_part (7 - (key - 1) % 8)
        → IsCeiling search (from + (7 - (key - 1) % 8) * width) upto ((key - 1) / 8)
    bound-of key upto its at =
        let i = its.0 in
        subst (λ u. IsCeiling search (from + (7 - (key - 1) % 8) * width) u ((key - 1) / 8)) (sym at)
        (subst (λ j. IsCeiling search (from + j * width) (end_of_part j) ((key - 1) / 8)) (part-of i key its.1 its.2)
        (subst (λ k. IsCeiling search (from + i * width) (end_of_part i) ((k - 1) / 8)) its.2 (are i its.1).ceiling))

    -- a part more, and the numbers down to the next one
    pub part-more : (best old : Plan) (key next upto : ℕ) → IsAmong keys key → upto ≡ end_of_part (7 - (key - 1) % 8)
        → ((j : ℕ) → j < 8 → get_or keys j 0 < key → get_or keys j 0 ≤ next) → IsNoWorseIn search best old → AreDone keys old key
        → IsNoWorseThanTracks search best (from + (7 - (key - 1) % 8) * width) upto → AreDone keys best next
    part-more best old key next upto its at greatest keeps done this j small above = elim (cases_order key (get_or keys j 0)) [
      | inl same ↦ subst (IsNoWorseThanPart best) (sym (part-of j key small (sym same)))
          (subst (IsNoWorseThanTracks search best (from + (7 - (key - 1) % 8) * width)) at this)
      | inr (inl greater) ↦ range-kept search best old (from + j * width) (end_of_part j) keeps (done j small greater)
      | inr (inr lesser) ↦ absurd (omega (arith, greatest j small lesser, above))
    ]

    -- the parts whose bounds are less than the best so far, and with them all
    pub parts-no_better : (best : Scored) (key : ℕ) → IsFound search best → AreDone keys best.plan key → (key - 1) / 8 < best.value
        → AreDone keys best.plan 0
    parts-no_better best key scored done less j small some = elim (cases_lt key (get_or keys j 0)) [
      | inl above ↦ done j small above
      | inr below ↦ λ track low high leave is.
          inl (omega (arith, scored.score, (are j small).ceiling track leave low high is, below, less))
    ]

    -- all parts
    pub parts-done : (best : Plan) → 0 < width → end ≤ from + 8 * width → AreDone keys best 0 → IsNoWorseThanTracks search best from end
    parts-done best some whole done track low high =
        let j = (track.cylinder - from) / width in
        let less : j < 8 = steps_below (track.cylinder - from) width 8 (omega (arith, low, high, whole)) in
        let at = div-add-mod' (track.cylinder - from) width in
        let rest = mod-lt (track.cylinder - from) {m = width} some in
        done j less (are j less).some track (omega (arith, at, low)) (omega (arith, at, rest, low, high))
