-- Walks that break off at a lane, and go on behind it.
use Rattle.fb_fastq.proofs.Words.{◌≡◌, ℕ, ◌+◌, ◌-◌, ◌^◌, ◌<◌, ◌≤◌, inl, inr, ◌⊎◌, arith, Option, Some, None, IfSome, BTreeMap, cases_lt}
use Rattle.fb_fastq.proofs.Words.{Track, Request, Disk, Candidate, Visit, Ray, Side, Above, Below, IsOn, IsNearer, IsReached, beyond}
use Rattle.fb_fastq.proofs.Words.{AllHeld, IsAlong, IsBefore, ComesNoLaterBetween, ComesNoLaterUntil, IsNoFarther, subst}
use Rattle.fb_fastq.proofs.Sweeps.{still_no_later}

-- what of a side is left where the walk broke off
abbrev pub left_of : Side → Option Visit → ℕ
left_of side None = 0
left_of Above (Some visit) = 2 ^ 64 - visit.lane.start
left_of Below (Some visit) = visit.lane.start + 1

-- a spot of a side is nearer than a lane, in its room, or farther out
near_or_beyond : (side : Side) (lane spot : ℕ)
    → IsNearer side lane spot ⊎ (((lane ≤ spot) × (spot < lane + 2 ^ 30)) ⊎ IsOn side (beyond side lane) spot)
near_or_beyond Above lane spot = elim (cases_lt spot lane) [
  | inl under ↦ inl under
  | inr from ↦ elim (cases_lt spot (lane + 2 ^ 30)) [ inl inside ↦ inr (inl (from, inside)) | inr over ↦ inr (inr over) ]
]
near_or_beyond Below lane spot = elim (cases_lt spot lane) [
  | inl under ↦ inr (inr under)
  | inr from ↦ elim (cases_lt spot (lane + 2 ^ 30)) [ inl inside ↦ inr (inl (from, inside)) | inr over ↦ inl over ]
]

-- a lane that is reached behind another is nearer to the end
pub reached_later : (side : Side) (start lane later : ℕ) → IsReached side start lane → IsReached side (beyond side lane) later
    → IsReached side start later
reached_later Above start lane later reached more = omega arith
reached_later Below start lane later reached more = omega arith

pub less_left : (side : Side) (visit : Visit) (full : Option Visit) → visit.lane.start ≤ 2 ^ 60
    → IfSome full (λ v. IsReached side (beyond side visit.lane.start) v.lane.start) → left_of side full < left_of side (Some visit)
less_left Above visit None few more = omega arith
less_left Above visit (Some later) few more = omega arith
less_left Below visit None few more = omega arith
less_left Below visit (Some later) few more = omega arith

-- behind a lane the walk goes on from there
pub still_outside : (side : Side) (head start lane : ℕ) → IsNoFarther side head start → IsReached side start lane
    → IsNoFarther side head (beyond side lane)
still_outside Above head start lane outside reached = omega arith
still_outside Below head start lane outside reached = omega arith

module _ (disk : Disk) (head : Track) (now : ℕ) (waiting : BTreeMap (ℕ × ℕ) Request)
    (spots : AllHeld (λ key request. IsAlong disk request key.0) waiting) where
  -- what comes no sooner up to a lane, in its room, and beyond it
  pub goes_on : (old best new : Candidate) (ray rest : Ray) (visit : Visit) (full : Option Visit)
      → IsBefore best old → IsBefore new best
      → rest ≡ record { side = ray.side; start = beyond ray.side visit.lane.start }
      → ComesNoLaterUntil disk head now waiting old ray (Some visit)
      → ComesNoLaterBetween disk head now waiting best visit.lane.start (visit.lane.start + 2 ^ 30)
      → ComesNoLaterUntil disk head now waiting new rest full
      → ComesNoLaterUntil disk head now waiting new ray full
  goes_on old best new ray rest visit full sooner first is seen lane more = λ k r held on before.
      elim (near_or_beyond ray.side visit.lane.start k.0) [
        | inl nearer ↦ still_no_later disk head now waiting spots new best k r first
            (still_no_later disk head now waiting spots best old k r sooner (seen k r held on nearer))
        | inr other ↦ elim other [
          | inl inside ↦ still_no_later disk head now waiting spots new best k r first (lane k r held inside.0 inside.1)
          | inr out ↦ subst (λ (s : Ray). ComesNoLaterUntil disk head now waiting new s full) is more k r held out before
        ]
      ]
