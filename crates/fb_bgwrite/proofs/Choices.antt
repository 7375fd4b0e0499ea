-- The best so far beats what it beat before.
use Rattle.fb_bgwrite.proofs.Words.{◌≡◌, ℕ, ◌+◌, ◌<◌, ◌≤◌, List, [], ◌∷◌, Option, Some, None, inl, inr, refl, sym, ◌∙◌, subst, arith}
use Rattle.fb_bgwrite.proofs.Words.{sum_by, cases_Bool, cases_lt, Track, same_track, cylinders_of, Disk, Block, Entry, on_track, wanted_of}
use Rattle.fb_bgwrite.proofs.Words.{Dwell, Gap, AreOnDisk, stay_gain, longer_stay, stay-of, weight_of_stay, Spill, Valued, ready, dwell_of}
use Rattle.fb_bgwrite.proofs.Words.{value, IsSpill, ArePending, IsNoWorse, IsNoWorseThanTrack, IsNoWorseThanTracks, IsBestIf, IsEnough}
use Rattle.fb_bgwrite.proofs.Words.{IsOnly, IsShare}
use Rattle.fb_bgwrite.proofs.Words.{AreLight, AreOffers, IsLastEnd, IsTrackOf, IsTurning, IsValuedIf, Keeps, Offer, Part, Turning, added}
use Rattle.fb_bgwrite.proofs.Words.{passes_by, pos}
use Rattle.fb_wanted.specs.Tracks.{wanted_weight}
use Rattle.fb_bgwrite.specs.Choosing.{IsValued}
use Rattle.fb_detour.specs.Bounds.{stay}
use Rattle.fb_bgwrite.proofs.Values.{as_much_by_last, less_before_last, value_stay, IsLast}
use Rattle.fb_bgwrite.proofs.Written.{last_of_stay, sum_of_stay}

pub same_share : (disk : Disk) (from end low high share : ℕ) → IsShare disk from end share → from ≤ low → high ≤ end
    → IsShare disk low high share
same_share disk from end low high share is after inside =
    (is.0, λ cylinder time above below. is.1 cylinder time (omega (arith, after, above)) (omega (arith, inside, below)))

module _ (disk : Disk) (gap : Gap) (pending : List Block) where
  -- what writes nothing is beaten by anything
  pub nothing_beaten : (new : Option Valued) (other : Spill) → IsValuedIf disk gap pending new → value disk gap pending other ≡ 0
      → IsNoWorse disk gap pending new other
  nothing_beaten None other valued none = none
  nothing_beaten (Some best) other valued none = inl (omega (arith, none, valued.some))

  pub kept_on : (a b c : Option Valued) → Keeps disk gap pending a b → Keeps disk gap pending b c → Keeps disk gap pending a c
  kept_on a b c ab bc other beats = bc other (ab other beats)

  pub on_kept : (old new : Option Valued) (track : Track) → Keeps disk gap pending old new → IsNoWorseThanTrack disk gap pending old track
      → IsNoWorseThanTrack disk gap pending new track
  on_kept old new track keeps beats leave is = keeps (record { track = track; leave = leave }) (beats leave is)

  pub range_more : (best : Option Valued) (from mid end : ℕ) → IsNoWorseThanTracks disk gap pending best from mid
      → IsNoWorseThanTracks disk gap pending best mid end → IsNoWorseThanTracks disk gap pending best from end
  range_more best from mid end before after track low high = elim (cases_lt track.cylinder mid) [
    | inl less ↦ before track low less
    | inr more ↦ after track more high
  ]

  pub cylinder_done : (best : Option Valued) (cylinder n : ℕ) → disk.map.heads ≤ n
      → ((head : ℕ) → head < n → IsNoWorseThanTrack disk gap pending best (record { cylinder = cylinder; head = head }))
      → IsNoWorseThanTracks disk gap pending best cylinder (cylinder + 1)
  cylinder_done best cylinder n all each track low high leave is =
      let here : track.cylinder ≡ cylinder = omega (arith, low, high) in
      subst (λ c. (let spill : Spill = record {
        track = record { cylinder = c; head = track.head };
        leave = leave;
      } in IsSpill disk gap spill → IsNoWorse disk gap pending best spill)) (sym here)
      (each track.head (omega (arith, is.on_disk.head)) leave) is

  -- more heads
  pub heads_more : (old new : Option Valued) (cylinder n : ℕ) → Keeps disk gap pending old new
      → IsNoWorseThanTrack disk gap pending new (record { cylinder = cylinder; head = n })
      → ((head : ℕ) → head < n → IsNoWorseThanTrack disk gap pending old (record { cylinder = cylinder; head = head })) → (head : ℕ)
      → head < n + 1 → IsNoWorseThanTrack disk gap pending new (record { cylinder = cylinder; head = head })
  heads_more old new cylinder n keeps here before head less = elim (cases_lt head n) [
    | inl earlier ↦ on_kept old new (record { cylinder = cylinder; head = head }) keeps (before head earlier)
    | inr last ↦ subst (λ h. IsNoWorseThanTrack disk gap pending new (record { cylinder = cylinder; head = h }))
        (let same : n ≡ head = omega (arith, less, last) in same) here
  ]

  -- where no spill writes anything but those of the part, to beat these is to beat all
  pub beats_all : (best : Option Valued) (from end : ℕ) (part : Part) → IsValuedIf disk gap pending best
      → IsOnly disk gap pending from end part
      → IsNoWorseThanTracks disk gap pending best part.from part.end → IsNoWorseThanTracks disk gap pending best from end
  beats_all best from end part valued only inside track low high leave is =
      let spill : Spill = record { track = track; leave = leave } in
      elim (cases_lt track.cylinder part.from) [
        | inl before ↦ nothing_beaten best spill valued (omega (arith, only track low high (inl before) leave is))
        | inr after ↦ elim (cases_lt track.cylinder part.end) [
          | inl within ↦ inside track after within leave is
          | inr behind ↦ nothing_beaten best spill valued (omega (arith, only track low high (inr behind) leave is))
        ]
      ]

  -- spills of little value on later tracks are beaten
  pub enough_beats : (best : Option Valued) (most from : ℕ) (other : Spill) → IsEnough best most from → value disk gap pending other ≤ most
      → from ≤ other.track.cylinder → IsNoWorse disk gap pending best other
  enough_beats None most from other enough few behind = omega (arith, enough, few)
  enough_beats (Some best) most from other enough few behind = elim enough [
    | inl less ↦ inl (omega (arith, less, few))
    | inr same ↦ elim (cases_lt (value disk gap pending other) best.value) [
      | inl less ↦ inl less
      | inr more ↦ inr (omega (arith, more, same.0, few), inl (inl (omega (arith, same.1, behind))))
    ]
  ]

  -- the best of all tracks
  pub best_is : (best : Option Valued) → IsValuedIf disk gap pending best
      → IsNoWorseThanTracks disk gap pending best 0 (cylinders_of disk.map.zones) → IsBestIf disk gap pending best
  best_is None valued beats = λ spill is. beats spill.track (omega arith) is.on_disk.cylinder spill.leave is
  best_is (Some best) valued beats = record {
    is_spill = valued.is_spill;
    some = omega (arith, valued.some, valued.value_is);
    greatest = λ other is. elim (beats other.track (omega arith) is.on_disk.cylinder other.leave is) [
      | inl less ↦ omega (arith, less, valued.value_is)
      | inr same ↦ omega (arith, same.0, valued.value_is)
    ];
    first = λ other is equal. elim (beats other.track (omega arith) is.on_disk.cylinder other.leave is) [
      | inl less ↦ absurd (omega (arith, less, valued.value_is, equal))
      | inr same ↦ same.1
    ];
  }

-- ---- one track

pub light_on : (track : Track) (es : List Entry) → AreLight es → AreLight (on_track track es)
light_on track [] light = tt
light_on track (e ∷ es) light = elim (cases_Bool (same_track track e.block.track)) [
  | inl on ↦ rw on (light.0, light_on track es light.1)
  | inr off ↦ rw off (light_on track es light.1)
]

module _ (disk : Disk) (gap : Gap) (entries : List Entry) (pending : ArePending disk entries) (track : Track) where
  -- no more than the track's blocks
  pub by_weight : (leave : ℕ) → value disk gap (wanted_of entries) (record { track = track; leave = leave }) ≤ wanted_weight track entries
  by_weight leave =
      let spill : Spill = record { track = track; leave = leave } in
      omega (arith, value_stay disk gap entries spill pending.light, weight_of_stay disk (dwell_of disk gap spill) entries)

  abbrev longest : ℕ → Dwell
  longest end = record { track = track; begin = ready disk gap track; end = end }

  -- no more than what passes by a later instant
  pub by_longest : (leave end : ℕ) → leave ≤ end
      → value disk gap (wanted_of entries) (record { track = track; leave = leave }) ≤ stay disk (longest end) entries
  by_longest leave end le =
      let spill : Spill = record { track = track; leave = leave } in
      omega (
        arith,
        value_stay disk gap entries spill pending.light,
        longer_stay disk (dwell_of disk gap spill) (longest end) entries disk.some_rotation refl (omega arith) le,
      )

  abbrev from : ℕ → ℕ → Dwell
  from begin end = record { track = track; begin = begin; end = end }

  -- of what the track's blocks offer from the arrival on so many sectors pass by an instant, and this is the end of the last
  module _ (blocks : List Entry) (its : blocks ≡ on_track track entries) (on_disk : AreOnDisk disk blocks)
      {turning : Turning} (turns : IsTurning disk turning) (at_once : turning.from ≡ ready disk gap track)
      {offers : List Offer} (are : AreOffers offers blocks) {end sectors last : ℕ}
      (counted : sectors ≡ sum_by (added (passes_by turning end)) offers) (ends : IsLastEnd turning end offers sectors last) where
    light : AreLight blocks
    light = subst AreLight (sym its) (light_on track entries pending.light)

    sum : sectors ≡ sum_by (stay_gain disk (longest end)) blocks
    sum = subst (λ b. sectors ≡ sum_by (stay_gain disk (from b end)) blocks) at_once
        (counted ∙ sum_of_stay disk track end entries blocks its on_disk turning turns offers are)

    is_last : IsLast disk (longest end) blocks sectors last
    is_last = subst (λ b. IsLast disk (from b end) blocks sectors last) at_once
        (last_of_stay disk track end entries blocks its on_disk turning turns offers are sectors last ends)

    whole : sectors ≡ stay disk (longest end) entries
    whole = stay-of disk (longest end) entries blocks sectors its sum

    pub nothing_there : sectors ≡ 0 → (leave : ℕ) → leave ≤ end
        → value disk gap (wanted_of entries) (record { track = track; leave = leave }) ≡ 0
    nothing_there none leave le = omega (arith, whole, none, by_longest leave end le)

    at_leave : (leave : ℕ)
        → sum_by (stay_gain disk (longest leave)) blocks ≡ value disk gap (wanted_of entries) (record { track = track; leave = leave })
    at_leave leave =
        let spill : Spill = record { track = track; leave = leave } in
        stay-of disk (longest leave) entries blocks (sum_by (stay_gain disk (longest leave)) blocks) its refl
        ∙ sym (value_stay disk gap entries spill pending.light)

    last_value : sectors ≡ value disk gap (wanted_of entries) (record { track = track; leave = last })
    last_value =
        let most = by_longest last end is_last.upto in
        omega (arith, as_much_by_last disk (longest end) blocks sectors last is_last, at_leave last, sum, whole, most)

    -- the spill that leaves then
    pub last_valued : 0 < sectors → IsTrackOf disk.map track → end + pos disk.mechanism track gap.target gap.write ≤ gap.deadline
        → IsValued disk gap (wanted_of entries) (record { spill = record { track = track; leave = last }; value = sectors })
    last_valued some on_it in_time = record {
      is_spill = record { on_disk = on_it; after_ready = is_last.from; in_time = omega (arith, is_last.upto, in_time) };
      value_is = last_value;
      some = some;
    }

    -- no other leave is better
    pub last_beats : 0 < sectors → (leave : ℕ) → leave ≤ end
        → IsNoWorse disk gap (wanted_of entries) (Some (record { spill = record { track = track; leave = last }; value = sectors }))
        (record { track = track; leave = leave })
    last_beats some leave le = elim (cases_lt (value disk gap (wanted_of entries) (record { track = track; leave = leave })) sectors) [
      | inl less ↦ inl less
      | inr more ↦ elim is_last.reached [
        | inl none ↦ absurd (omega (arith, none.0, some))
        | inr ends ↦ elim (cases_lt leave last) [
          | inl early ↦ absurd (omega (
            arith,
            less_before_last disk (longest end) blocks last leave on_disk light ends le early,
            at_leave leave,
            sum,
            more,
          ))
          | inr late ↦ inr (omega (arith, more, whole, by_longest leave end le), inr (refl, late))
        ]
      ]
    ]
