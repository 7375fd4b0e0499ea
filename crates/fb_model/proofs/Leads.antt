-- Where legs lead the head: one after another, and through a gap by its plan.
use Rattle.fb_model.proofs.Words.{◌≡◌, ℕ, ◌+◌, ◌≤◌, List, [], ◌∷◌, ◌++◌, true, false, refl, ap, ◌∙◌, arith, inl, inr, append_assoc}
use Rattle.fb_model.proofs.Words.{if◌then◌else◌, cases_Bool, nat_tests, same_tracks, track_itself, Track, same_track, pos, Disk, Gap, Plan}
use Rattle.fb_model.proofs.Words.{Direct, Detour, IsPlan, stay, way, gap_legs, led_to}
use Rattle.std.specs.Prelude.{Bool}
use Rattle.fb_seek.specs.Mechanics.{Mechanics}
use Rattle.fb_wanted.proofs.Kept.{swapped_other}
use Rattle.fb_model.specs.Timeline.{Leg, move, arrival, can_follow, leaves_on, leaves_at}

-- the legs lead from a track and an instant to another track and its instant
abbrev pub Leads : Disk → Track → ℕ → List Leg → Track → ℕ → Type 0
Leads disk from now legs to end = (more : List Leg) → led_to disk from now (legs ++ more) ≡ led_to disk to end more

pub lead_one : (disk : Disk) (from : Track) (now : ℕ) (leg : Leg) → can_follow disk from now leg ≡ true
    → Leads disk from now (leg ∷ []) (leaves_on disk leg) (leaves_at leg)
unfolding led_to
lead_one disk from now leg h more = rw h refl

pub lead_on : (disk : Disk) (from on to : Track) (now between end : ℕ) (xs ys : List Leg) → Leads disk from now xs on between
    → Leads disk on between ys to end → Leads disk from now (xs ++ ys) to end
lead_on disk from on to now between end xs ys first later more =
    ap (led_to disk from now) (append_assoc xs ys more) ∙ (first (ys ++ more) ∙ later more)

-- a stay on a track
pub lead_stay : (disk : Disk) (on : Track) (now end : ℕ) → now ≤ end → Leads disk on now (stay on now end ∷ []) on end
lead_stay disk on now end h = lead_one disk on now (stay on now end) (grind (arith, nat_tests))

-- a move to another track
pub lead_move : (disk : Disk) (from to : Track) (write : Bool) (now : ℕ) → same_track from to ≡ false
    → Leads disk from now (move from to write now (now + pos disk.mechanism from to write) ∷ []) to (now + pos disk.mechanism from to write)
lead_move disk from to write now other = lead_one disk from now (move from to write now (now + pos disk.mechanism from to write))
    (rw (track_itself from, other) (grind (arith, nat_tests)))

pub no_way : (arm : Mechanics) (a b : Track) (write : Bool) → same_track a b ≡ true → pos arm a b write ≡ 0
unfolding pos
no_way arm a b write same = rw same refl

-- a move, if the tracks differ
pub lead_way : (disk : Disk) (from to : Track) (write : Bool) (now : ℕ)
    → Leads disk from now (way disk from to write now) to (now + pos disk.mechanism from to write)
lead_way disk from to write now = elim (cases_Bool (same_track from to)) [
  | inl same ↦ λ more.
      ap (λ b. led_to disk from now ((if b then [] else move from to write now (now + pos disk.mechanism from to write) ∷ []) ++ more)) same
      ∙ (ap (λ (on : Track). led_to disk on now more) (same_tracks from to same)
      ∙ ap (λ t. led_to disk to t more)
      (let here : now ≡ now + pos disk.mechanism from to write = omega (arith, no_way disk.mechanism from to write same) in here))
  | inr other ↦ λ more.
      ap (λ b. led_to disk from now ((if b then [] else move from to write now (now + pos disk.mechanism from to write) ∷ []) ++ more))
      other
      ∙ lead_move disk from to write now other more
]

pub lead_to_target : (disk : Disk) (gap : Gap) (from : Track) (leave : ℕ)
    → leave + pos disk.mechanism from gap.target gap.write ≤ gap.deadline
    → Leads disk from leave (way disk from gap.target gap.write leave ++ arrival disk gap from leave ∷ []) gap.target gap.deadline
lead_to_target disk gap from leave h =
    let arrived = leave + pos disk.mechanism from gap.target gap.write in
    lead_on disk from gap.target gap.target leave arrived gap.deadline (way disk from gap.target gap.write leave)
    (arrival disk gap from leave ∷ [])
    (lead_way disk from gap.target gap.write leave) (lead_stay disk gap.target arrived gap.deadline h)

-- a plan leads from the source to the target, where the head is at the deadline
pub lead_gap : (disk : Disk) (gap : Gap) (plan : Plan) → IsPlan disk gap plan
    → Leads disk gap.source gap.now (gap_legs disk gap plan) gap.target gap.deadline
lead_gap disk gap (Direct leave) plan =
    lead_on disk gap.source gap.source gap.target gap.now leave gap.deadline (stay gap.source gap.now leave ∷ [])
    (way disk gap.source gap.target gap.write leave ++ arrival disk gap gap.source leave ∷ [])
    (lead_stay disk gap.source gap.now leave plan.0) (lead_to_target disk gap gap.source leave plan.1)
lead_gap disk gap (Detour track leave) plan =
    let there = gap.now + pos disk.mechanism gap.source track false in
    let arrived = leave + pos disk.mechanism track gap.target gap.write in
    lead_on disk gap.source track gap.target gap.now there gap.deadline (move gap.source track false gap.now there ∷ [])
    (stay track there leave ∷ move track gap.target gap.write leave arrived ∷ arrival disk gap track leave ∷ [])
    (lead_move disk gap.source track false gap.now (swapped_other track gap.source plan.not_source))
    (lead_on disk track track gap.target there leave gap.deadline (stay track there leave ∷ [])
    (move track gap.target gap.write leave arrived ∷ arrival disk gap track leave ∷ [])
    (lead_stay disk track there leave plan.after_arrival)
    (lead_on disk track gap.target gap.target leave arrived gap.deadline (move track gap.target gap.write leave arrived ∷ [])
    (arrival disk gap track leave ∷ [])
    (lead_move disk track gap.target gap.write leave plan.not_target) (lead_stay disk gap.target arrived gap.deadline plan.in_time)))
