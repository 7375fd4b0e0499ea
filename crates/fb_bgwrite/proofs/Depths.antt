-- Blocks that share no sector pass one slot each.
use Rattle.fb_detour.proofs.Ranges.{same_cylinder}
use Rattle.fb_bgwrite.proofs.Words.{map, and_parts, leb-true, ltb-true, nat_le, nat_lt, ap, if◌then◌else◌, ◌≡◌, ℕ, ◌+◌, ◌-◌, ◌/◌}
use Rattle.fb_bgwrite.proofs.Words.{◌<◌, ◌≤◌, List, [], ◌∷◌, Bool, true, inl, inr, refl, arith, ◌==◌, sum_by, cases_Bool, nat_tests}
use Rattle.fb_bgwrite.proofs.Words.{sum_by-cons, Track, same_track, slots_at, IsSound, HasOwnPlaces, pos, distance_of, Disk, Entry}
use Rattle.fb_bgwrite.proofs.Words.{on_track, wanted_of, Gap, slots_within, Spill, AreApart, block_range, AreLeast, ArePending, ready}
use Rattle.fb_bgwrite.proofs.Words.{value, AreLight, IsSpill}
use Rattle.fb_puts.proofs.Sharing.{has, has_it, once}
use Rattle.fb_seek.specs.Mechanics.{Mechanics}
use Rattle.fb_seek.specs.Rising.{SeeksRise}
use Rattle.fb_wanted.specs.Depth.{depth_at, is_in, weight_on}
use Rattle.fb_detour.proofs.Packing.{div-rises, packing}
use Rattle.fb_bgwrite.specs.declared.search.Moves.{Moves}
use Rattle.fb_bgwrite.proofs.Values.{value_stay}

-- a block that has a sector counts at most once
each_once : (lbn : ℕ) (es : List Entry) → AreLight es
    → sum_by (weight_on lbn) es ≤ sum_by (has lbn) (map (λ entry. block_range entry.block) es)
each_once lbn [] light = omega arith
each_once lbn (e ∷ es) light =
    let rest = each_once lbn es light.1 in
    let sum = sum_by-cons (weight_on lbn) e es in
    let ranges = sum_by-cons (has lbn) (block_range e.block) (map (λ entry. block_range entry.block) es) in
    elim (cases_Bool (is_in lbn e.block)) [
      | inl here ↦
          let both = and_parts (nat_le e.block.lbn lbn) (nat_lt lbn (e.block.lbn + e.block.count)) here in
          let one : weight_on lbn e ≡ e.block.weight = rw here refl in
          let its : has lbn (block_range e.block) ≡ 1 = ap (λ b. if b then 1 else 0)
          (has_it lbn (block_range e.block) (leb-true e.block.lbn lbn both.0) (ltb-true lbn (e.block.lbn + e.block.count) both.1)) in
          omega (arith, sum, ranges, one, its, light.0, rest)
      | inr other ↦ let none : weight_on lbn e ≡ 0 = rw other refl in omega (arith, sum, ranges, none, rest)
    ]

fewer : (lbn : ℕ) (track : Track) (es : List Entry) → sum_by (weight_on lbn) (on_track track es) ≤ sum_by (weight_on lbn) es
fewer lbn track [] = omega arith
fewer lbn track (e ∷ es) = elim (cases_Bool (same_track track e.block.track)) [
  | inl on ↦ rw on (omega (arith, sum_by-cons (weight_on lbn) e es, sum_by-cons (weight_on lbn) e (on_track track es), fewer lbn track es))
  | inr off ↦ rw off (omega (arith, sum_by-cons (weight_on lbn) e es, fewer lbn track es))
]

pub one_deep : (track : Track) (lbn : ℕ) (es : List Entry) → AreLight es → AreApart (map (λ entry. block_range entry.block) es)
    → depth_at track lbn es ≤ 1
one_deep track lbn es light apart = omega (
  arith,
  fewer lbn track es,
  each_once lbn es light,
  once lbn
      (map (λ entry. block_range entry.block) es) apart,
)

-- ---- bounds

module _ (disk : Disk) (gap : Gap) (entries : List Entry) (pending : ArePending disk entries) (sound : IsSound disk.map)
    (own : HasOwnPlaces disk.map) (from end : ℕ) (moves : Moves) (least : AreLeast disk gap from end moves) (spill : Spill)
    (low : from ≤ spill.track.cylinder) (high : spill.track.cylinder < end) (is : IsSpill disk gap spill) where
  -- there is time for both moves
  pub there_is_time : gap.now + moves.there + moves.on ≤ gap.deadline
  there_is_time = let both = least spill.track low high in omega (arith, both.0, both.1, is.after_ready, is.in_time)

  pub value_in_time : (most : ℕ) → slots_within disk.map.rotation (slots_at disk.map.zones spill.track.cylinder)
      (gap.deadline - (gap.now + moves.there + moves.on)) ≤ most → value disk gap (wanted_of entries) spill ≤ most
  value_in_time most enough =
      let both = least spill.track low high in
      let begin = ready disk gap spill.track in
      let share = disk.map.rotation / slots_at disk.map.zones spill.track.cylinder in
      omega (
        arith,
        value_stay disk gap entries spill pending.light,
        packing disk spill.track begin spill.leave sound entries 1 own pending.on_disk
            (λ lbn. one_deep spill.track lbn entries pending.light pending.apart),
        div-rises (spill.leave - begin) (gap.deadline - (gap.now + moves.there + moves.on)) share
            (omega (arith, both.0, both.1, is.after_ready, is.in_time)),
        enough,
      )

-- ---- moves

same_head : (a b : Track) → a.head ≡ b.head → distance_of a.cylinder b.cylinder ≡ 0 → same_track a b ≡ true
same_head a b head near = let cylinder : a.cylinder ≡ b.cylinder = omega (arith, near) in grind (arith, nat_tests)

-- the move from the nearest track with the target's head takes no more time
pub nearer_on : (arm : Mechanics) (a b near : Track) (write : Bool) → SeeksRise arm → near.head ≡ b.head
    → distance_of near.cylinder b.cylinder ≤ distance_of a.cylinder b.cylinder → pos arm near b write ≤ pos arm a b write
unfolding pos
nearer_on arm a b near write rises head le = elim (cases_Bool (same_track near b)) [
  | inl here ↦ rw here (omega arith)
  | inr away ↦ elim (cases_Bool (same_track a b)) [
    | inl there ↦ let none = same_cylinder a b there in let same = same_head near b head (omega (arith, none, le)) in absurd (grind arith)
    | inr apart ↦
        let seeks = rises (distance_of near.cylinder b.cylinder) (distance_of a.cylinder b.cylinder) le in
        let heads : (near.head == b.head) ≡ true = grind (arith, nat_tests) in
        rw (away, apart, heads) (omega (arith, seeks))
  ]
]

turned : (arm : Mechanics) (a b : Track) (write : Bool) → pos arm a b write ≡ pos arm b a write
unfolding pos
turned arm a b write =
    let same : same_track a b ≡ same_track b a = grind (arith, nat_tests) in
    let heads : (a.head == b.head) ≡ (b.head == a.head) = grind (arith, nat_tests) in
    let far : distance_of a.cylinder b.cylinder ≡ distance_of b.cylinder a.cylinder = omega arith in
    rw (same, heads, far) refl

pub nearer_there : (arm : Mechanics) (a b near : Track) (write : Bool) → SeeksRise arm → near.head ≡ b.head
    → distance_of b.cylinder near.cylinder ≤ distance_of b.cylinder a.cylinder → pos arm b near write ≤ pos arm b a write
nearer_there arm a b near write rises head le =
    let far : distance_of near.cylinder b.cylinder ≤ distance_of a.cylinder b.cylinder = omega (arith, le) in
    omega (arith, nearer_on arm a b near write rises head far, turned arm b near write, turned arm b a write)
