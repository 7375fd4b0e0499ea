-- Limits: from each of them on the target gives no more than the part that it belongs to.
use Rattle.fb_detour.proofs.Words.{List, ap, arith, false, get_or, if◌then◌else◌, inl, inr, length, nat_le, subst, ℕ, ◌*◌, ◌+◌, ◌-◌, ◌/◌}
use Rattle.fb_detour.proofs.Words.{◌<◌, ◌≡◌, ◌≤◌, div-mul-le_self, mod-lt, cases_lt, cases_order, nat_tests, get_or-set_other}
use Rattle.fb_detour.proofs.Words.{get_or-set_same, div-add-mod', mul-le, slice_set, Offer, Gap, end_of, passes_by, Turning, late_gain}
use Rattle.fb_detour.proofs.Words.{true, turned_to, ◌∙◌}
use Rattle.fb_detour.proofs.Offers.{added-worth}

-- the quotient of a number below so many steps is less than that
pub steps_below : (n step m : ℕ) → n < m * step → n / step < m
steps_below n step m less = elim (cases_lt (n / step) m) [
  | inl below ↦ below
  | inr above ↦ absurd (omega (arith, mul-le m step (n / step) step above (omega arith), div-mul-le_self n step, less))
]

-- a list with one number raised
module _ (xs : List ℕ) (i v : ℕ) (within : i < length xs) (more : get_or xs i 0 ≤ v) where
  pub raised : (k : ℕ) → get_or xs k 0 ≤ get_or (slice_set xs i v) k 0
  raised k = elim (cases_order i k) [
    | inl same ↦
        subst (λ j. get_or xs j 0 ≤ get_or (slice_set xs i v) j 0) same (omega (arith, get_or-set_same xs i v 0 within, more))
    | inr (inl less) ↦ omega (arith, get_or-set_other xs i k v 0 (λ e. absurd (omega (arith, less, e))))
    | inr (inr over) ↦ omega (arith, get_or-set_other xs i k v 0 (λ e. absurd (omega (arith, over, e))))
  ]

  -- a number lies before each limit that is behind its part
  pub raised-behind : (last begin step k : ℕ) → begin ≤ last → 0 < step → i ≡ (last - begin) / step + 1 → last < v
      → begin + (k - 1) * step ≤ get_or xs k 0 → last < begin + k * step → last < get_or (slice_set xs i v) k 0
  raised-behind last begin step k order some at less spread part = elim (cases_order i k) [
    | inl same ↦ subst (λ j. last < get_or (slice_set xs i v) j 0) same (omega (arith, get_or-set_same xs i v 0 within, less))
    | inr (inl later) ↦
        let whole = div-add-mod' (last - begin) step in
        let rest = mod-lt (last - begin) {m = step} some in
        let far = mul-le i step (k - 1) step (omega (arith, later)) (omega arith) in
        let near : i * step ≡ (last - begin) / step * step + step = rw at (omega arith) in
        omega (arith, get_or-set_other xs i k v 0 (λ e. absurd (omega (arith, later, e))), whole, rest, far, near, spread)
    | inr (inr sooner) ↦
        let far = mul-le k step ((last - begin) / step) step (omega (arith, sooner, at)) (omega arith) in
        absurd (omega (arith, far, div-mul-le_self (last - begin) step, order, part))
  ]

-- an offer that doesn't pass whole from an instant on adds nothing
pub none-late : (turning : Turning) (gap : Gap) (offer : Offer) (from : ℕ) → gap.deadline < end_of turning.rotation offer.sweep from
    → late_gain turning gap from offer ≡ 0
none-late turning gap offer from late =
    let missed : nat_le (end_of turning.rotation offer.sweep from) gap.deadline ≡ false = grind (arith, nat_tests) in
    ap (λ b. if b then offer.worth else 0) missed

module _ (turning : Turning) (gap : Gap) (offer : Offer) (last from : ℕ)
    (catches : (t : ℕ) → gap.now ≤ t → end_of turning.rotation offer.sweep t ≤ gap.deadline → t ≤ last) (after : gap.now ≤ from) where
  -- what is behind the last instant at which an offer can be caught adds nothing
  pub behind_last : last < from → late_gain turning gap from offer ≡ 0
  behind_last behind = elim (cases_lt gap.deadline (end_of turning.rotation offer.sweep from)) [
    | inl late ↦ none-late turning gap offer from late
    | inr caught ↦ absurd (omega (arith, catches from after caught, behind))
  ]

  -- a part to which the offer's worth is added if it begins no later than the last instant grows by at least what the offer adds
  -- from `from` on, if `from` lies behind that instant wherever the part begins behind it
  pub part_grown : (begin old new : ℕ) → (last < begin → last < from) → new ≡ old + (if nat_le begin last then offer.worth else 0)
      → old + late_gain turning gap from offer ≤ new
  part_grown begin old new behind is = elim (cases_lt last begin) [
    | inl before ↦ omega (arith, is, behind_last (behind before))
    | inr on ↦
        let by : nat_le begin last ≡ true = grind (arith, nat_tests) in
        let grown : new ≡ old + offer.worth = is ∙ ap (λ b. old + (if b then offer.worth else 0)) by in
        omega (arith, grown, added-worth (passes_by (turned_to turning from) gap.deadline) offer)
  ]
