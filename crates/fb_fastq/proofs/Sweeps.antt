-- A sweep over the lanes, from the head's cylinder outwards.
use Rattle.fb_fastq.proofs.Words.{◌≡◌, ℕ, ◌+◌, ◌-◌, ◌*◌, ◌%◌, ◌^◌, ◌<◌, ◌≤◌, sym, ap, subst, ◌∙◌, arith, inl, inr, ◌⊎◌, BTreeMap, cases_lt}
use Rattle.fb_fastq.proofs.Words.{Track, Request, track_at, pos, distance_of, Disk, sptf, Lane, Candidate, Holds, AllHeld, IsNoLater}
use Rattle.fb_fastq.proofs.Words.{IsFirstHeld, turn, IsLane, IsAlong, IsCandidate, IsBefore, ComesNoLater, ComesNoLaterOn}
use Rattle.fb_fastq.proofs.Words.{ComesNoLaterBetween, Side, Above, Below}
use Rattle.fb_fastq.proofs.Words.{IsNoFarther, IsOn, Waits}
use Rattle.fb_fastq.proofs.{Swept.some_injective, Least.waits_there, Turns.ComesFirst, OnLanes.on_cylinder, OnLanes.on_lane, OnLanes.begins}
use Rattle.fb_fastq.proofs.{OnLanes.waits_on_lane}

pub no_later_trans : (a m b n c p : ℕ) → IsNoLater a m b n → IsNoLater b n c p → IsNoLater a m c p
no_later_trans a m b n c p (inl less) (inl more) = inl (omega arith)
no_later_trans a m b n c p (inl less) (inr tied) = let same = tied.0 in inl (omega (arith, same))
no_later_trans a m b n c p (inr tied) (inl more) = let same = tied.0 in inl (omega (arith, same))
no_later_trans a m b n c p (inr tied) (inr both) =
    inr (tied.0 ∙ both.0, let one = tied.1 in let other = both.1 in omega (arith, one, other))

-- a longer way on both sides changes no order
after_way : (way a m b n : ℕ) → IsNoLater a m b n → IsNoLater (way + a) m (way + b) n
after_way way a m b n (inl less) = inl (omega arith)
after_way way a m b n (inr tied) = inr (ap (λ x. way + x) tied.0, tied.1)

-- one of two candidates is a candidate
pub is_one : (disk : Disk) (head : Track) (now : ℕ) (waiting : BTreeMap (ℕ × ℕ) Request) (old next new : Candidate) (key : ℕ
    × ℕ) (r : Request) → IsCandidate disk head now waiting old
    → Holds waiting key r → next.key ≡ key → next.wait ≡ sptf disk head now r → (new ≡ old) ⊎ (new ≡ next)
    → IsCandidate disk head now waiting new
is_one disk head now waiting old next new key r found held at wait (inl is) = subst (IsCandidate disk head now waiting) (sym is) found
is_one disk head now waiting old next new key r found held at wait (inr is) = subst (IsCandidate disk head now waiting) (sym is) (record {
  request = r;
  waits = subst (λ (k : ℕ × ℕ). Holds waiting k r) (sym at) held;
  wait = wait;
})

module _ (disk : Disk) (head : Track) (now : ℕ) (waiting : BTreeMap (ℕ × ℕ) Request)
    (spots : AllHeld (λ key request. IsAlong disk request key.0) waiting) where
  -- one that is no later comes no later than whatever the other comes no later than
  pub still_no_later : (a b : Candidate) (key : ℕ × ℕ) (r : Request) → IsBefore a b → ComesNoLater disk head now b key r
      → ComesNoLater disk head now a key r
  still_no_later a b key r before later = no_later_trans a.wait a.key.1 b.wait b.key.1 (sptf disk head now r) key.1 before later

  module _ (lane : Lane) (is_lane : IsLane lane) where
    module _ (length : ℕ) (whole : length ≡ disk.map.rotation) where
      -- what comes first round the lane from the angle of arrival on comes no later than the whole lane
      pub no_later_than_lane : (angle : ℕ) (w : (ℕ × ℕ) × Request) (candidate : Candidate)
          → angle ≡ (now + pos disk.mechanism head lane.track lane.write) % disk.map.rotation
          → Holds waiting w.0 w.1 → lane.start ≤ w.0.0 → w.0.0 < lane.start + length → ComesFirst waiting lane.start length angle w
          → candidate.key ≡ w.0 → candidate.wait ≡ sptf disk head now w.1
          → ComesNoLaterBetween disk head now waiting candidate lane.start (lane.start + 2 ^ 30)
      no_later_than_lane angle w candidate is held from below first key wait = λ k s other inside under.
          let way = pos disk.mechanism head lane.track lane.write in
          let short = disk.short_rotation in
          let own = spots w.0 w.1 held in
          let its = spots k s other in
          let here = on_lane disk w.1 w.0.0 own lane is_lane from (omega (arith, below, short, whole)) in
          let there = on_lane disk s k.0 its lane is_lane inside under in
          let within = (begins disk s k.0 its lane is_lane there.0 there.1).1 in
          let turned : (spot : ℕ)
          → turn disk.map.rotation ((now + way) % disk.map.rotation) (spot - lane.start) ≡ turn length angle (spot - lane.start) =
          λ spot. ap (λ x. turn disk.map.rotation x (spot - lane.start)) (sym is)
          ∙ ap (λ n. turn n angle (spot - lane.start)) (sym whole) in
          let value : candidate.wait ≡ way + turn length angle (w.0.0 - lane.start) =
          wait ∙ (waits_on_lane disk w.1 w.0.0 own lane is_lane head now here.0 here.1 ∙ ap (λ x. way + x) (turned w.0.0)) in
          let other_value : sptf disk head now s ≡ way + turn length angle (k.0 - lane.start) =
          waits_on_lane disk s k.0 its lane is_lane head now there.0 there.1 ∙ ap (λ x. way + x) (turned k.0) in
          let order = after_way way (turn length angle (w.0.0 - lane.start)) w.0.1 (turn length angle (k.0 - lane.start)) k.1
          (first k (waits_there waiting k s other) inside (omega (arith, within, whole))) in
          subst (λ (q : ℕ × ℕ). IsNoLater candidate.wait q.1 (sptf disk head now s) k.1) (sym key)
          (subst (λ n. IsNoLater n w.0.1 (sptf disk head now s) k.1) (sym value)
          (subst (λ n. IsNoLater (way + turn length angle (w.0.0 - lane.start)) w.0.1 n k.1) (sym other_value) order))

      -- where none waits round the lane, whatever candidate comes no later than the whole lane
      pub none_on_lane : (candidate : Candidate)
          → ((k : ℕ × ℕ) → Waits waiting k → lane.start ≤ k.0 → lane.start + length ≤ k.0)
          → ComesNoLaterBetween disk head now waiting candidate lane.start (lane.start + 2 ^ 30)
      none_on_lane candidate none = λ k s other inside under.
          let its = spots k s other in
          let there = on_lane disk s k.0 its lane is_lane inside under in
          let within = (begins disk s k.0 its lane is_lane there.0 there.1).1 in
          absurd (omega (arith, within, whole, none k (waits_there waiting k s other) inside))

  -- outwards from the head's cylinder, spots that are farther lie on cylinders that are no nearer
  module _ (x w : ℕ × ℕ) (r s : Request) (held : Holds waiting x r) (other : Holds waiting w s) where
    pub farther : (side : Side) (start : ℕ) → IsNoFarther side (head.cylinder * 2 ^ 37) start → IsOn side start x.0
        → IsNoFarther side x.0 w.0
        → distance_of head.cylinder (track_at disk.map r.lbn).cylinder
        ≤ distance_of head.cylinder (track_at disk.map s.lbn).cylinder
    farther Above start outside on more =
        let here = on_cylinder disk r x.0 (spots x r held) in
        let there = on_cylinder disk s w.0 (spots w s other) in
        omega (arith, here.0, here.1, there.0, there.1, outside, on, more)
    farther Below start outside on more =
        let here = on_cylinder disk r x.0 (spots x r held) in
        let there = on_cylinder disk s w.0 (spots w s other) in
        omega (arith, here.0, here.1, there.0, there.1, outside, on, more)

-- a candidate that comes no later than any is the first of all
pub soonest_is_first : (disk : Disk) (head : Track) (now start : ℕ) (waiting : BTreeMap (ℕ × ℕ) Request) (above best : Candidate)
    → IsCandidate disk head now waiting best → IsBefore best above
    → ComesNoLaterOn disk head now waiting above (record { side = Above; start = start })
    → ComesNoLaterOn disk head now waiting best (record { side = Below; start = start })
    → IsFirstHeld (sptf disk head now) waiting best.key
soonest_is_first disk head now start waiting above best found before over under = λ r e k s other.
    let rank = sptf disk head now in
    let same : found.request ≡ r = some_injective found.request r (sym found.waits ∙ e) in
    let wait : best.wait ≡ rank r = found.wait ∙ ap rank same in
    subst (λ n. IsNoLater n best.key.1 (rank s) k.1) wait
    (elim (cases_lt k.0 start) [
      | inl below ↦ under k s other below
      | inr from ↦ no_later_trans best.wait best.key.1 above.wait above.key.1 (rank s) k.1 before (over k s other from)
    ])
