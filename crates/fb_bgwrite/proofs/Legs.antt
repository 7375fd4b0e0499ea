-- Where legs lead the head.
use Rattle.fb_units.proofs.Tracks.{same_tracks}
use Rattle.fb_bgwrite.proofs.Words.{◌≡◌, ℕ, ◌+◌, ◌≤◌, List, [], ◌∷◌, ◌++◌, Bool, true, false, Some, None, refl, sym, ap, ◌∙◌, arith, inl}
use Rattle.fb_bgwrite.proofs.Words.{inr, AllByRecursion, cases_Bool, nat_tests, Track, same_track, IsTrackOf, pos, Disk, Gap, Plan, Direct}
use Rattle.fb_bgwrite.proofs.Words.{Detour, IsPlan, Leg, stay, move, pass, way, arrival, gap_legs, can_follow, leaves_on, leaves_at, led_to}
use Rattle.fb_bgwrite.proofs.Words.{Leads, lead_gap, lead_on, lead_stay, lead_to_target, lead_way, Spill, spill_legs, ready, IsSpill}

-- a spill leads from the source to the target, where the head is at the deadline
pub lead_spill : (disk : Disk) (gap : Gap) (spill : Spill) → IsSpill disk gap spill
    → Leads disk gap.source gap.now (spill_legs disk gap spill) gap.target gap.deadline
lead_spill disk gap spill is =
    let there = ready disk gap spill.track in
    lead_on disk gap.source spill.track gap.target gap.now there gap.deadline (way disk gap.source spill.track true gap.now)
    (stay spill.track there spill.leave ∷ way disk spill.track gap.target gap.write spill.leave ++ arrival disk gap spill.track spill.leave
    ∷ [])
    (lead_way disk gap.source spill.track true gap.now)
    (lead_on disk spill.track spill.track gap.target there spill.leave gap.deadline (stay spill.track there spill.leave ∷ [])
    (way disk spill.track gap.target gap.write spill.leave ++ arrival disk gap spill.track spill.leave ∷ [])
    (lead_stay disk spill.track there spill.leave is.after_ready) (lead_to_target disk gap spill.track spill.leave is.in_time))

-- ---- where legs lead that are possible

not_some : (end : ℕ) → None ≡ Some end → ⊥
not_some end e = absurd (grind arith)

-- the first leg can follow, and the others go on from it
pub first_follows : (disk : Disk) (on : Track) (now end : ℕ) (leg : Leg) (legs : List Leg) → led_to disk on now (leg ∷ legs) ≡ Some end
    → (can_follow disk on now leg ≡ true) × (led_to disk (leaves_on disk leg) (leaves_at leg) legs ≡ Some end)
unfolding led_to
first_follows disk on now end leg legs led = elim (cases_Bool (can_follow disk on now leg)) [
  | inl can ↦ (can, rw can at led)
  | inr cannot ↦ absurd (not_some end (rw cannot at led))
]

pub stay_follows : (disk : Disk) (on there : Track) (now begin end : ℕ) → can_follow disk on now (stay there begin end) ≡ true
    → (there ≡ on) × (begin ≡ now) × (begin ≤ end)
stay_follows disk on there now begin end can =
    let same : same_track there on ≡ true = grind (arith, nat_tests) in
    let from : begin ≡ now = grind (arith, nat_tests) in
    let upto : begin ≤ end = grind (arith, nat_tests) in
    (same_tracks there on same, from, upto)

move_follows : (disk : Disk) (on from to : Track) (write : Bool) (now begin end : ℕ)
    → can_follow disk on now (move from to write begin end) ≡ true → (from ≡ on) × (begin ≡ now)
move_follows disk on from to write now begin end can =
    let same : same_track from on ≡ true = grind (arith, nat_tests) in
    let at : begin ≡ now = grind (arith, nat_tests) in
    (same_tracks from on same, at)

pass_forward : (disk : Disk) (on : Track) (lbn now begin end : ℕ) → can_follow disk on now (pass lbn begin end) ≡ true → now ≤ end
pass_forward disk on lbn now begin end can = grind (arith, nat_tests)

-- no leg leads back in time
pub leg_forward : (disk : Disk) (on : Track) (now : ℕ) (leg : Leg) → can_follow disk on now leg ≡ true → now ≤ leaves_at leg
leg_forward disk on now (stay there begin end) can = let is = stay_follows disk on there now begin end can in omega (arith, is.1, is.2)
leg_forward disk on now (move from to write begin end) can =
    let at : begin ≡ now = grind (arith, nat_tests) in
    let long : end ≡ begin + pos disk.mechanism from to write = grind (arith, nat_tests) in
    omega arith
leg_forward disk on now (pass lbn begin end) can = pass_forward disk on lbn now begin end can

pub led_forward : (disk : Disk) (on : Track) (now end : ℕ) (legs : List Leg) → led_to disk on now legs ≡ Some end → now ≤ end
unfolding led_to
led_forward disk on now end [] led = let same : now ≡ end = grind arith in omega arith
led_forward disk on now end (leg ∷ legs) led =
    let first = first_follows disk on now end leg legs led in
    omega (arith, leg_forward disk on now leg first.0, led_forward disk (leaves_on disk leg) (leaves_at leg) end legs first.1)

-- a gap begins where and when the head is
pub gap_begins : (disk : Disk) (on : Track) (now end : ℕ) (gap : Gap) (plan : Plan) (rest : List Leg)
    → led_to disk on now (gap_legs disk gap plan ++ rest) ≡ Some end → (gap.source ≡ on) × (gap.now ≡ now)
gap_begins disk on now end gap (Direct leave) rest led =
    let first = first_follows disk on now end (stay gap.source gap.now leave)
    ((way disk gap.source gap.target gap.write leave ++ arrival disk gap gap.source leave ∷ []) ++ rest) led in
    let is = stay_follows disk on gap.source now gap.now leave first.0 in
    (is.0, is.1)
gap_begins disk on now end gap (Detour track leave) rest led =
    let there = gap.now + pos disk.mechanism gap.source track false in
    let arrived = leave + pos disk.mechanism track gap.target gap.write in
    let first = first_follows disk on now end (move gap.source track false gap.now there)
    (stay track there leave ∷ move track gap.target gap.write leave arrived ∷ arrival disk gap track leave ∷ [] ++ rest) led in
    move_follows disk on gap.source track false now gap.now there first.0

-- so its legs and what follows lead to the end just if what follows does from the target at the deadline
pub behind_gap : (disk : Disk) (on : Track) (now end : ℕ) (gap : Gap) (plan : Plan) (rest : List Leg) → IsPlan disk gap plan
    → led_to disk on now (gap_legs disk gap plan ++ rest) ≡ Some end
    → led_to disk gap.target gap.deadline rest ≡ Some end
behind_gap disk on now end gap plan rest is led =
    let begins = gap_begins disk on now end gap plan rest led in
    sym (lead_gap disk gap plan is rest)
    ∙ ap (λ (t : Track). led_to disk t gap.now (gap_legs disk gap plan ++ rest)) begins.0
    ∙ ap (λ n. led_to disk on n (gap_legs disk gap plan ++ rest)) begins.1
    ∙ led

-- ---- on the disk

-- the head is left on a track of the disk
abbrev pub StaysOn : Disk → Leg → Type 0
StaysOn disk leg = IsTrackOf disk.map (leaves_on disk leg)

-- where possible legs lead: to a track of the disk, and not back in time
pub record LeadsOn (disk : Disk) (on : Track) (now end : ℕ) (legs rest : List Leg) : Type 0 where
  pub to : Track
  pub at : ℕ
  pub leads : Leads disk on now legs to at
  pub goes_on : led_to disk to at rest ≡ Some end
  pub on_disk : IsTrackOf disk.map to
  pub forward : now ≤ at

pub through : (disk : Disk) (on : Track) (now end : ℕ) (legs rest : List Leg) → IsTrackOf disk.map on → AllByRecursion (StaysOn disk) legs
    → led_to disk on now (legs ++ rest) ≡ Some end → LeadsOn disk on now end legs rest
unfolding led_to
through disk on now end [] rest here all led =
    record { to = on; at = now; leads = λ more. refl; goes_on = led; on_disk = here; forward = omega arith }
through disk on now end (leg ∷ legs) rest here all led =
    let first = first_follows disk on now end leg (legs ++ rest) led in
    let later = through disk (leaves_on disk leg) (leaves_at leg) end legs rest all.0 all.1 first.1 in
    record {
      to = later.to;
      at = later.at;
      leads = λ more. rw first.0 (later.leads more);
      goes_on = later.goes_on;
      on_disk = later.on_disk;
      forward = omega (arith, leg_forward disk on now leg first.0, later.forward);
    }
