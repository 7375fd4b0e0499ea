-- The value of a spill is what its stay catches of the registered blocks.
use Rattle.fb_units.proofs.Comparing.{if_le}
use Rattle.fb_detour.proofs.Ceilings.{stay-all}
use Rattle.fb_bgwrite.proofs.Words.{all_get, ◌≡◌, ℕ, ◌+◌, ◌*◌, ◌<◌, ◌≤◌, ◌⊎◌, List, [], ◌∷◌, Bool, true, false, Some, slice_get}
use Rattle.fb_bgwrite.proofs.Words.{inl, inr, refl, ap, ◌∙◌, arith, filter, sum_by}
use Rattle.fb_bgwrite.proofs.Words.{cases_Bool, nat_tests, sum_by-cons, Disk, Block, Entry, is_wanted}
use Rattle.fb_bgwrite.proofs.Words.{◌&&◌, wanted_of, Dwell, Gap, block_end, catches, AreOnDisk, IsBlockOn, stay_gain}
use Rattle.fb_bgwrite.proofs.Words.{AreLight, Spill, dwell_of, value, all_of}
use Rattle.fb_detour.specs.Bounds.{stay}
use Rattle.fb_bgwrite.proofs.{Sums.sum_le_on, Sums.sum_less}

-- the block is pending, and passes whole in the stay
abbrev pub passes : Disk → Dwell → Entry → Bool
passes disk dwell entry = is_wanted entry.state && catches disk dwell entry.block

-- one of these passes ends at this instant
pub record EndsAt (disk : Disk) (dwell : Dwell) (entries : List Entry) (end : ℕ) : Type 0 where
  pub index : ℕ
  pub entry : Entry
  pub stands : slice_get entries index ≡ Some entry
  pub passing : passes disk dwell entry ≡ true
  pub ends : block_end disk.map entry.block dwell.begin ≡ end

-- the last of them ends at this instant
pub record IsLast (disk : Disk) (dwell : Dwell) (entries : List Entry) (worth last : ℕ) : Type 0 where
  pub from : dwell.begin ≤ last
  pub upto : last ≤ dwell.end
  pub each : (i : ℕ) (entry : Entry) → slice_get entries i ≡ Some entry → passes disk dwell entry ≡ true
      → block_end disk.map entry.block dwell.begin ≤ last
  pub reached : ((worth ≡ 0) × (last ≡ dwell.begin)) ⊎ EndsAt disk dwell entries last

-- a block of weight 1 is worth its sectors
pub its_sectors : (e : Entry) → e.block.weight ≡ 1 → e.block.weight * e.block.count ≡ e.block.count
its_sectors e light =
    let counts : e.block.weight * e.block.count ≡ 1 * e.block.count = ap (λ n. n * e.block.count) light in
    omega (arith, counts)

-- a block that is caught adds its sectors
adds : (disk : Disk) (dwell : Dwell) (e : Entry) → e.block.weight ≡ 1 → is_wanted e.state ≡ true → catches disk dwell e.block ≡ true
    → stay_gain disk dwell e ≡ e.block.count
adds disk dwell e light w y =
    let one : stay_gain disk dwell e ≡ e.block.weight * e.block.count = rw (w, y) refl in
    omega (arith, one, its_sectors e light)

sectors_caught : (disk : Disk) (dwell : Dwell) (es : List Entry) → AreLight es
    → sum_by (λ (b : Block). b.count) (filter (catches disk dwell) (wanted_of es)) ≡ sum_by (stay_gain disk dwell) es
sectors_caught disk dwell [] light = refl
sectors_caught disk dwell (e ∷ es) light = elim (cases_Bool (is_wanted e.state)) [
  | inl w ↦ elim (cases_Bool (catches disk dwell e.block)) [
    | inl y ↦
        let left : sum_by (λ (b : Block). b.count) (filter (catches disk dwell) (wanted_of (e ∷ es)))
        ≡ e.block.count + sum_by (λ (b : Block). b.count) (filter (catches disk dwell) (wanted_of es)) =
        rw (w, y) (sum_by-cons (λ (b : Block). b.count) e.block (filter (catches disk dwell) (wanted_of es))) in
        omega (arith, left, sum_by-cons (stay_gain disk dwell) e es, adds disk dwell e light.0 w y, sectors_caught disk dwell es light.1)
    | inr n ↦
        let left : sum_by (λ (b : Block). b.count) (filter (catches disk dwell) (wanted_of (e ∷ es)))
        ≡ sum_by (λ (b : Block). b.count) (filter (catches disk dwell) (wanted_of es)) = rw (w, n) refl in
        let one : stay_gain disk dwell e ≡ 0 = rw (w, n) refl in
        omega (arith, left, sum_by-cons (stay_gain disk dwell) e es, one, sectors_caught disk dwell es light.1)
  ]
  | inr n ↦
      let left : sum_by (λ (b : Block). b.count) (filter (catches disk dwell) (wanted_of (e ∷ es)))
      ≡ sum_by (λ (b : Block). b.count) (filter (catches disk dwell) (wanted_of es)) = rw n refl in
      let one : stay_gain disk dwell e ≡ 0 = rw n refl in
      omega (arith, left, sum_by-cons (stay_gain disk dwell) e es, one, sectors_caught disk dwell es light.1)
]

pub value_caught : (disk : Disk) (gap : Gap) (es : List Entry) (spill : Spill) → AreLight es
    → value disk gap (wanted_of es) spill ≡ sum_by (stay_gain disk (dwell_of disk gap spill)) es
unfolding value
value_caught disk gap es spill light = sectors_caught disk (dwell_of disk gap spill) es light

pub value_stay : (disk : Disk) (gap : Gap) (es : List Entry) (spill : Spill) → AreLight es
    → value disk gap (wanted_of es) spill ≡ stay disk (dwell_of disk gap spill) es
unfolding value
value_stay disk gap es spill light = sectors_caught disk (dwell_of disk gap spill) es light ∙ stay-all disk (dwell_of disk gap spill) es

-- the same stay up to another instant
abbrev pub upto : Dwell → ℕ → Dwell
upto dwell end = record { track = dwell.track; begin = dwell.begin; end = end }

-- what passes by an earlier instant passes by a later one
no_less : (disk : Disk) (dwell : Dwell) (a b : ℕ) → a ≤ b → (e : Entry) → stay_gain disk (upto dwell a) e ≤ stay_gain disk (upto dwell b) e
no_less disk dwell a b le e =
    if_le (passes disk (upto dwell a) e) (passes disk (upto dwell b) e) (e.block.weight * e.block.count) (λ h. grind (arith, nat_tests))

-- what passes by the end passes by the end of the last passage
by_last : (disk : Disk) (dwell : Dwell) (last : ℕ) (e : Entry)
    → (passes disk dwell e ≡ true → block_end disk.map e.block dwell.begin ≤ last)
    → stay_gain disk dwell e ≤ stay_gain disk (upto dwell last) e
by_last disk dwell last e ends = if_le (passes disk dwell e) (passes disk (upto dwell last) e) (e.block.weight * e.block.count)
    (λ h. let end = ends h in grind (arith, nat_tests))

pub as_much_by_last : (disk : Disk) (dwell : Dwell) (entries : List Entry) (worth last : ℕ) → IsLast disk dwell entries worth last
    → sum_by (stay_gain disk dwell) entries ≤ sum_by (stay_gain disk (upto dwell last)) entries
as_much_by_last disk dwell entries worth last is =
    sum_le_on (stay_gain disk dwell) (stay_gain disk (upto dwell last)) entries
    (all_of (λ e. stay_gain disk dwell e ≤ stay_gain disk (upto dwell last) e) entries
    (λ k e at. by_last disk dwell last e (λ h. is.each k e at h)))

missed_before : (disk : Disk) (dwell : Dwell) (e : Entry) (leave : ℕ) → leave < block_end disk.map e.block dwell.begin
    → stay_gain disk (upto dwell leave) e ≡ 0
missed_before disk dwell e leave less =
    let late : passes disk (upto dwell leave) e ≡ false = grind (arith, nat_tests) in
    rw late refl

weighs_some : (disk : Disk) (dwell : Dwell) (e : Entry) → IsBlockOn disk.map e.block → e.block.weight ≡ 1
    → passes disk dwell e ≡ true → 0 < stay_gain disk dwell e
weighs_some disk dwell e fits light passing =
    let all : stay_gain disk dwell e ≡ e.block.weight * e.block.count = rw passing refl in
    omega (arith, all, its_sectors e light, fits.some)

-- a stay that ends before the last passage does catches less
pub less_before_last : (disk : Disk) (dwell : Dwell) (entries : List Entry) (last leave : ℕ) → AreOnDisk disk entries → AreLight entries
    → EndsAt disk dwell entries last → leave ≤ dwell.end → leave < last
    → sum_by (stay_gain disk (upto dwell leave)) entries < sum_by (stay_gain disk dwell) entries
less_before_last disk dwell entries last leave on_disk light is in_time less =
    let fits = on_disk is.index is.entry is.stands in
    let weighs = weighs_some disk dwell is.entry fits (all_get (λ (e : Entry). e.block.weight ≡ 1) entries is.index is.entry light
    is.stands) is.passing in
    let missed = missed_before disk dwell is.entry leave (omega (arith, is.ends, less)) in
    sum_less (stay_gain disk (upto dwell leave)) (stay_gain disk dwell)
    (no_less disk dwell leave dwell.end in_time) entries is.index is.entry is.stands (omega (arith, weighs, missed))
