-- A walk over the requests that wait, from the head's cylinder outwards.
use Rattle.fb_fastq.proofs.Words.{◌≡◌, ℕ, ◌+◌, ◌<◌, ◌≤◌, ◌^◌, List, [], ◌∷◌, map, refl, sym, subst, arith, inl, inr}
use Rattle.fb_fastq.proofs.Words.{◌⊎◌, Some, lookup, Less, BTreeMap, is_at, keys, IsStrictlySortedBy, Request, Track, Disk, Departure}
use Rattle.fb_fastq.proofs.Words.{Visit, IsVisit, sptf, distance_of, track_at, Candidate, order, Waiting, Holds, AllHeld, IsAlong}
use Rattle.fb_fastq.proofs.Words.{IsCandidate, IsBefore, ComesNoLater, ComesNoLaterOn, ComesNoLaterUntil, Ray, Side, Above, Below, IsOn}
use Rattle.fb_fastq.proofs.Words.{IsNoFarther, IsReached, IsNearer, AreThose, ◌*◌, length, zero, suc, all_get, none-some, Among}
use Rattle.fb_fastq.proofs.Words.{all_unmapped}
use Rattle.fb_fastq.proofs.{Keys.here_equal, Keys.follows, Keys.not_at, Least.held_is_in, Sweeps.no_later_trans, Sweeps.is_one}
use Rattle.fb_fastq.proofs.{Sweeps.farther, Visiting.is_there, Swept.some_injective, Swept.rises_sorted}
use Rattle.fb_fastq.proofs.Swept.{IsNext, IsSwept, Takes, next_nearest, next_out, swept_begins, swept_on, swept_stops}

-- where a request stands
abbrev pub spot : Waiting → ℕ
spot w = w.0.0

-- how far a request's cylinder is from the head's
abbrev pub away : Disk → Departure → Request → ℕ
away disk from r = distance_of from.track.cylinder (track_at disk.map r.lbn).cylinder

-- the map holds what its entries say
pub held_value : (x : Waiting) (ws : List Waiting) → IsStrictlySortedBy order (map (λ w. w.0) ws) → Among ws x
    → lookup (is_at (order x.0)) ws ≡ Some x.1
unfolding IsStrictlySortedBy
held_value x [] sorted e = absurd (none-some x e.1)
held_value x (y ∷ ws) sorted (zero, at) = subst (λ z. lookup (is_at (order x.0)) (z ∷ ws) ≡ Some x.1)
    (sym (some_injective y x at)) (let t = here_equal x.0.0 x.0.1 in rw t refl)
held_value x (y ∷ ws) sorted (suc n, at) =
    let less = all_get (λ w. order y.0 w.0 ≡ Less) ws n x (all_unmapped (λ k. order y.0 k ≡ Less) (λ w. w.0) ws sorted.0) at in
    let t = not_at y.0.0 y.0.1 x.0.0 x.0.1 less in
    rw t (held_value x ws sorted.1 (n, at))

module _ (disk : Disk) (from : Departure) (waiting : BTreeMap (ℕ × ℕ) Request) (first : Candidate) (ray : Ray) where
  -- of a ray all but those that are left are seen, and the best is no later than any of them
  pub record IsWalk (best : Candidate) (left : List Waiting) : Type 0 where
    pub found : IsCandidate disk from.track from.instant waiting best
    pub before : IsBefore best first
    pub swept : IsSwept spot (λ w. Holds waiting w.0 w.1 × IsOn ray.side ray.start w.0.0)
        (λ w. ComesNoLater disk from.track from.instant best w.0 w.1) left

  pub walk_begins : (left : List Waiting) → IsCandidate disk from.track from.instant waiting first
      → IsStrictlySortedBy order (keys waiting)
      → AreThose (λ w. IsOn ray.side ray.start w.0.0) waiting.entries left → IsWalk first left
  walk_begins left found sorted those = record {
    found = found;
    before = inr (refl, omega arith);
    swept = swept_begins spot waiting.entries left
        (rises_sorted spot order (λ w. w.0) (λ v w. follows v.0.0 v.0.1 w.0.0 w.0.1) waiting.entries sorted) those
        (λ w e on. (held_value w waiting.entries sorted e, on))
        (λ w inside. inr (held_is_in w.0.0 w.0.1 w.1 waiting.entries inside.0, inside.1));
  }

-- the lane of a spot that is on a side is reached
reaches : (side : Side) (start lane spot : ℕ) → lane ≤ spot → spot < lane + 2 ^ 30 → IsOn side start spot → IsReached side start lane
reaches Above start lane spot from below on = omega arith
reaches Below start lane spot from below on = omega arith

-- what is no nearer than a spot is no nearer than its lane
not_nearer : (side : Side) (lane spot other : ℕ) → lane ≤ spot → spot < lane + 2 ^ 30 → IsNoFarther side spot other
    → IsNearer side lane other → ⊥
not_nearer Above lane spot other from below farther nearer = absurd (omega arith)
not_nearer Below lane spot other from below farther nearer = absurd (omega arith)

module _ {disk : Disk} {from : Departure} {waiting : BTreeMap (ℕ × ℕ) Request} {first : Candidate} {ray : Ray}
    {best : Candidate} {left : List Waiting} (walk : IsWalk disk from waiting first ray best left)
    (spots : AllHeld (λ key request. IsAlong disk request key.0) waiting)
    (x : Waiting) (rest : List Waiting) (takes : Takes ray.side left x rest) where
  next : IsNext spot x left rest
  next = next_out spot ray.side x left rest takes

  pub fewer_left : length rest < length left
  fewer_left = next.fewer

  -- the next one waits at its spot, and on this side
  pub next_along : IsAlong disk x.1 x.0.0
  next_along = spots x.0 x.1 (walk.swept.inside x next.there).0

  -- the next one is seen
  pub walk_goes_on : (wait : ℕ) (new : Candidate) → wait ≡ sptf disk from.track from.instant x.1
      → (new ≡ best) ⊎ (new ≡ record { key = x.0; wait = wait }) → IsBefore new best
      → IsBefore new (record { key = x.0; wait = wait }) → IsWalk disk from waiting first ray new rest
  walk_goes_on wait new value is to_best to_next = record {
    found = is_one disk from.track from.instant waiting best (record { key = x.0; wait = wait }) new x.0 x.1 walk.found
        (walk.swept.inside x next.there).0 refl value is;
    before = no_later_trans new.wait new.key.1 best.wait best.key.1 first.wait first.key.1 to_best walk.before;
    swept = swept_on spot walk.swept x rest next
        (λ w. no_later_trans new.wait new.key.1 best.wait best.key.1 (sptf disk from.track from.instant w.1) w.0.1 to_best)
        (no_later_trans new.wait new.key.1 wait x.0.1 (sptf disk from.track from.instant x.1) x.0.1 to_next (inr (value, omega arith)));
  }

  module _ (visit : Visit) (start : visit.lane.start ≤ x.0.0) (end : x.0.0 < visit.lane.start + 2 ^ 30) where
    -- where the walk breaks off at its lane
    pub walk_reaches : IsReached ray.side ray.start visit.lane.start
    walk_reaches = reaches ray.side ray.start visit.lane.start x.0.0 start end (walk.swept.inside x next.there).1

    pub walk_pauses : ComesNoLaterUntil disk from.track from.instant waiting best ray (Some visit)
    walk_pauses = λ k r held on nearer. elim (walk.swept.seen (k, r) (held, on)) [
      | inl beaten ↦ beaten
      | inr waits ↦ absurd (not_nearer ray.side visit.lane.start x.0.0 k.0 start end
          (next_nearest spot ray.side x left rest takes walk.swept.rise (k, r) waits) nearer)
    ]

    -- where the arm alone takes longer to its lane, and no others are nearer
    pub walk_stops : IsNoFarther ray.side (from.track.cylinder * 2 ^ 37) ray.start → IsVisit disk from visit
        → ((now : ℕ) (r : Request) → distance_of from.track.cylinder visit.lane.track.cylinder ≤ away disk from r
        → best.wait < sptf disk from.track now r)
        → ComesNoLaterOn disk from.track from.instant waiting best ray
    walk_stops outside is far k r held on =
        let same = is_there disk from visit is x.1 x.0.0 next_along start end in
        let here = walk.swept.inside x next.there in
        swept_stops spot walk.swept (λ w waits. inl (far from.instant w.1
        (subst (λ (t : Track). distance_of from.track.cylinder t.cylinder ≤ away disk from w.1) (sym same)
        (farther disk from.track from.instant waiting spots x.0 w.0 x.1 w.1 here.0 (walk.swept.inside w waits).0
        ray.side ray.start outside here.1
        (next_nearest spot ray.side x left rest takes walk.swept.rise w waits)))))
        (k, r) (held, on)
