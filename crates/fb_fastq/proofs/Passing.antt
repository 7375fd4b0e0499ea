-- The requests of an arc, as their angles pass.
use Rattle.fb_fastq.proofs.Words.{◌≡◌, ◌⊎◌, ℕ, ◌+◌, ◌-◌, ◌%◌, ◌<◌, ◌≤◌, refl, sym, ap, subst, ◌∙◌, arith, inl, inr, cases_lt}
use Rattle.fb_fastq.proofs.Words.{BTreeMap, Request, Track, Disk, sptf, pos, begin_angle, place_at, track_at, turn, Candidate}
use Rattle.fb_fastq.proofs.Words.{Holds, AllHeld, Waits, IsNoLater, IsCandidate, IsBefore, ComesNoLater, ComesNoLaterBetween}
use Rattle.fb_fastq.specs.declared.angles.Arc.{Arc}
use Rattle.fb_fastq.specs.Arcs.{IsArc}
use Rattle.fb_fastq.specs.Spots.{IsAngleOf}
use Rattle.fb_fastq.proofs.Words.{mod-lt, IsFirstHeld}
use Rattle.fb_fastq.proofs.{Swept.some_injective, Least.waits_there, Turns.no_sooner, Turns.ahead, Turns.round, OnLanes.waits_turn}
use Rattle.fb_fastq.proofs.{Sweeps.no_later_trans, Sweeps.is_one}

-- one key is before another
abbrev pub IsBeforeKey : ℕ × ℕ → ℕ × ℕ → Type 0
IsBeforeKey k start = (k.0 < start.0) ⊎ ((k.0 ≡ start.0) × (k.1 < start.1))

split_at : (k start : ℕ × ℕ) → IsNoLater start.0 start.1 k.0 k.1 ⊎ IsBeforeKey k start
split_at k start = elim (cases_lt start.0 k.0) [
  | inl less ↦ inl (inl less)
  | inr ge ↦ elim (cases_lt k.0 start.0) [
    | inl before ↦ inr (inl before)
    | inr same ↦ elim (cases_lt k.1 start.1) [
      | inl before ↦ inr (inr (omega (arith, ge, same), before))
      | inr behind ↦ inl (inr (omega (arith, ge, same), behind))
    ]
  ]
]

spot_rises : (a b c d : ℕ) → IsNoLater a b c d → a ≤ c
spot_rises a b c d (inl less) = omega (arith, less)
spot_rises a b c d (inr tied) = let same = tied.0 in omega (arith, same)

-- a key behind another and before the next one is that key
only_key : (key k : ℕ × ℕ) → IsNoLater key.0 key.1 k.0 k.1 → IsBeforeKey k (key.0, key.1 + 1) → (k.0 ≡ key.0) × (k.1 ≡ key.1)
only_key key k (inl less) (inl before) = absurd (omega (arith, less, before))
only_key key k (inl less) (inr same) = let at = same.0 in absurd (omega (arith, less, at))
only_key key k (inr tied) (inl before) = let at = tied.0 in absurd (omega (arith, before, at))
only_key key k (inr tied) (inr same) = let a = tied.1 in let b = same.1 in (same.0, omega (arith, a, b))

same_pair : (a b c d : ℕ) → a ≡ c → b ≡ d → ◌≡◌ {A = ℕ × ℕ} (a, b) (c, d)
same_pair a b c d one other = ap (λ (x : ℕ). (x, b)) one ∙ ap (λ (y : ℕ). (c, y)) other

-- as the angle rises so does the time until it passes
later_angle : (ahead begin a m c p rank : ℕ) → begin ≤ a → IsNoLater a m c p → ahead + (c - begin) ≤ rank
    → IsNoLater (ahead + (a - begin)) m rank p
later_angle ahead begin a m c p rank from (inl less) most = inl (omega (arith, from, less, most))
later_angle ahead begin a m c p rank from (inr tied) most = let same = tied.0 in elim (cases_lt (ahead + (a - begin)) rank) [
  | inl less ↦ inl less
  | inr ge ↦ inr (omega (arith, same, most, ge), tied.1)
]

module _ (disk : Disk) (head : Track) (now : ℕ) (waiting : BTreeMap (ℕ × ℕ) Request) (arc : Arc) (first : Candidate) where
  -- the best is no later than any request of the arc before a key
  pub record HasPassed (best : Candidate) (start : ℕ × ℕ) : Type 0 where
    pub found : IsCandidate disk head now waiting first → IsCandidate disk head now waiting best
    pub before : IsBefore best first
    pub begun : arc.begin ≤ start.0
    pub inside : start.0 ≤ arc.end
    pub passed : (k : ℕ × ℕ) (r : Request) → Holds waiting k r → arc.begin ≤ k.0 → IsBeforeKey k start
        → ComesNoLater disk head now best k r

module _ (disk : Disk) (head : Track) (now : ℕ) (waiting : BTreeMap (ℕ × ℕ) Request)
    (spots : AllHeld (λ key request. IsAngleOf disk request key.0) waiting) (arc : Arc) (is : IsArc disk now arc) where
  -- no request passes before its angle does
  passes : (k : ℕ × ℕ) (r : Request) → Holds waiting k r → arc.begin ≤ k.0 → k.0 < arc.end
      → arc.ahead + (k.0 - arc.begin) ≤ sptf disk head now r
  passes k r held from below =
      let rotation = disk.map.rotation in
      let at = spots k r held in
      let b = begin_angle disk.map (place_at disk.map r.lbn) in
      let way = pos disk.mechanism head (track_at disk.map r.lbn) r.write in
      let turned : b < rotation = subst (λ x. x < rotation) at.value at.turned in
      let still : turn rotation ((now + 0) % rotation) b ≡ turn rotation (now % rotation) b = ap (λ x. turn rotation (x % rotation) b) (omega arith) in
      let sooner = no_sooner rotation now 0 way b disk.some_rotation turned (omega arith) in
      let wait = waits_turn disk r head now in
      let turns = is.turns k.0 from below in
      let same = ap (turn rotation (now % rotation)) at.value in
      omega (arith, sooner, still, wait, turns, same)

  module _ (first : Candidate) where
    abbrev Has : Candidate → ℕ × ℕ → Type 0
    Has best start = HasPassed disk head now waiting arc first best start

    pub none_passed : Has first (arc.begin, 0)
    none_passed = record {
      found = λ was. was;
      before = inr (refl, omega arith);
      begun = omega arith;
      inside = is.rises;
      passed = λ k r held from before. elim before [
        | inl less ↦ absurd (omega (arith, less, from))
        | inr same ↦ let none = same.1 in absurd (omega (arith, none))
      ];
    }

    module _ (best : Candidate) (start : ℕ × ℕ) (has : Has best start) where
      -- none is left of the arc
      pub all_passed : ((k : ℕ × ℕ) → Waits waiting k → IsNoLater start.0 start.1 k.0 k.1 → arc.end ≤ k.0)
          → ComesNoLaterBetween disk head now waiting best arc.begin arc.end
      all_passed none = λ k s held from below. elim (split_at k start) [
        | inl onwards ↦ let behind = none k (waits_there waiting k s held) onwards in absurd (omega (arith, behind, below))
        | inr before ↦ has.passed k s held from before
      ]

      module _ (key : ℕ × ℕ) (r : Request) (held : Holds waiting key r) (behind : IsNoLater start.0 start.1 key.0 key.1)
          (least : (k : ℕ × ℕ) → Waits waiting k → IsNoLater start.0 start.1 k.0 k.1 → IsNoLater key.0 key.1 k.0 k.1) where
        -- the next one is behind the arc
        pub arc_ends : arc.end ≤ key.0 → ComesNoLaterBetween disk head now waiting best arc.begin arc.end
        arc_ends beyond = all_passed (λ k waits onwards.
            let next = spot_rises key.0 key.1 k.0 k.1 (least k waits onwards) in omega (arith, next, beyond))

        -- the next one passes too late, and so does each behind it
        pub arc_stops : IsNoLater best.wait best.key.1 (arc.ahead + (key.0 - arc.begin)) key.1
            → ComesNoLaterBetween disk head now waiting best arc.begin arc.end
        arc_stops late = λ k s other from below. elim (split_at k start) [
          | inl onwards ↦
              let rises = spot_rises start.0 start.1 key.0 key.1 behind in
              let begun = has.begun in
              no_later_trans best.wait best.key.1 (arc.ahead + (key.0 - arc.begin)) key.1 (sptf disk head now s) k.1 late
              (later_angle arc.ahead arc.begin key.0 key.1 k.0 k.1 (sptf disk head now s) (omega (arith, rises, begun))
              (least k (waits_there waiting k s other) onwards) (passes k s other from below))
          | inr before ↦ has.passed k s other from before
        ]

        -- the next one is valued
        pub passes_on : (new : Candidate) (wait : ℕ) → wait ≡ sptf disk head now r → key.0 < arc.end
            → (new ≡ best) ⊎ (new ≡ record { key = key; wait = wait }) → IsBefore new best → IsBefore new (record { key = key; wait = wait })
            → Has new (key.0, key.1 + 1)
        passes_on new wait value below one old next =
            let rises = spot_rises start.0 start.1 key.0 key.1 behind in
            let begun = has.begun in
            record {
              found = λ was. is_one disk head now waiting best (record { key = key; wait = wait }) new key r (has.found was) held refl value one;
              before = no_later_trans new.wait new.key.1 best.wait best.key.1 first.wait first.key.1 old has.before;
              begun = omega (arith, rises, begun);
              inside = omega (arith, below);
              passed = λ k s other from before. elim (split_at k start) [
                | inl onwards ↦
                    let same = only_key key k (least k (waits_there waiting k s other) onwards) before in
                    let keys : k ≡ key = same_pair k.0 k.1 key.0 key.1 same.0 same.1 in
                    let requests = some_injective r s (sym held ∙ subst (λ (q : ℕ × ℕ). Holds waiting q s) keys other) in
                    subst (λ n. IsNoLater new.wait new.key.1 (sptf disk head now s) n) (sym same.1)
                    (subst (λ n. IsNoLater new.wait new.key.1 n key.1) (value ∙ ap (sptf disk head now) requests) next)
                | inr past ↦ no_later_trans new.wait new.key.1 best.wait best.key.1 (sptf disk head now s) k.1 old
                    (has.passed k s other from past)
              ];
            }

-- the angles from that of the instant on, and those before it
module _ (disk : Disk) (now angle rotation : ℕ) (whole : rotation ≡ disk.map.rotation) (is : angle ≡ now % rotation) where
  at_angle : angle ≡ now % disk.map.rotation
  at_angle = is ∙ ap (λ n. now % n) whole

  below_turn : now % disk.map.rotation < disk.map.rotation
  below_turn = mod-lt now disk.some_rotation

  pub arc_ahead : IsArc disk now (record { begin = angle; end = rotation; ahead = 0 })
  arc_ahead =
      let at = at_angle in
      let below = below_turn in
      record {
        inside = omega (arith, whole);
        rises = omega (arith, whole, at, below);
        short = omega arith;
        turns = λ k from under.
            let turned = ahead k (now % disk.map.rotation) disk.map.rotation (omega (arith, at, from)) (omega (arith, whole, under)) in
            omega (arith, turned, at, from);
      }

  pub arc_behind : IsArc disk now (record { begin = 0; end = angle; ahead = rotation - angle })
  arc_behind =
      let at = at_angle in
      let below = below_turn in
      record {
        inside = omega (arith, at, below);
        rises = omega arith;
        short = omega (arith, whole);
        turns = λ k from under.
            let turned = round k (now % disk.map.rotation) disk.map.rotation (omega (arith, at, under)) below in
            omega (arith, turned, at, whole, below, under);
      }

-- one that comes no later than the requests of both is the first of all
pub first_of_arcs : (disk : Disk) (head : Track) (now : ℕ) (waiting : BTreeMap (ℕ × ℕ) Request)
    → AllHeld (λ key request. IsAngleOf disk request key.0) waiting → (angle rotation : ℕ) → rotation ≡ disk.map.rotation
    → (mid best : Candidate) → IsCandidate disk head now waiting best → IsBefore best mid
    → ComesNoLaterBetween disk head now waiting mid angle rotation → ComesNoLaterBetween disk head now waiting best 0 angle
    → IsFirstHeld (sptf disk head now) waiting best.key
first_of_arcs disk head now waiting spots angle rotation whole mid best found before over under = λ r e k s other.
    let same : found.request ≡ r = some_injective found.request r (sym found.waits ∙ e) in
    let wait : best.wait ≡ sptf disk head now r = found.wait ∙ ap (sptf disk head now) same in
    let turned = (spots k s other).turned in
    subst (λ n. IsNoLater n best.key.1 (sptf disk head now s) k.1) wait (elim (cases_lt k.0 angle) [
      | inl below ↦ under k s other (omega arith) below
      | inr from ↦ no_later_trans best.wait best.key.1 mid.wait mid.key.1 (sptf disk head now s) k.1 before
          (over k s other from (omega (arith, turned, whole)))
    ])
