-- What no plan of a way is worth more than.
use Rattle.fb_detour.specs.Bounds.{IsGrid, IsTable}
use Rattle.fb_detour.proofs.Words.{List, arith, get_or, inl, inr, length, min, refl, ℕ, ◌*◌, ◌+◌, ◌-◌, ◌/◌, ◌<◌, ◌≡◌, ◌≤◌, div-mul-le_self}
use Rattle.fb_detour.proofs.Words.{mod-lt, mul-le, mul-le-mul_right, cases_lt, div-add-mod', sum_by, Track, Disk, on_track, wanted_weight}
use Rattle.fb_detour.proofs.Words.{Entry, Dwell, Gap, Detour, IsPlan, early_dwell, late_dwell, bounds, arrival, early_track, move_on}
use Rattle.fb_detour.proofs.Words.{plan_by, Scored, Way, Over, Source, AreBins, IsBounded, IsStop, bin_at, IsDetourIn, IsEnough, IsFound}
use Rattle.fb_detour.proofs.Words.{IsLate, IsNoWorseIn, IsReach, early_to, late_gain, late_most, offered, part_at, passing, value_in, stay, Bins}
use Rattle.fb_detour.proofs.Words.{Search, LateParts, Stop}
use Rattle.fb_detour.specs.declared.steps.Reach.{Reach}
use Rattle.fb_detour.proofs.Arrays.{over_all}
use Rattle.fb_detour.proofs.Ceilings.{longer_stay, two_stays, weight_of_stay}
use Rattle.fb_detour.proofs.Found.{not_better}
use Rattle.fb_detour.proofs.InTime.{more_in_time}
use Rattle.fb_detour.proofs.Offers.{gives}
use Rattle.fb_detour.proofs.Ranges.{not_itself}

least_step : (n step : ℕ) → min (n / step) 31 * step ≤ n
least_step n step = omega (arith, div-mul-le_self n step, mul-le (min (n / step) 31) step (n / step) step (omega arith) (omega arith))

-- the interval in which the head leaves ends no sooner
in_interval : (n past : ℕ) → past ≤ n → past ≤ (min (past / (n / 16 + 1)) 15 + 1) * (n / 16 + 1)
in_interval n past le =
    let step = n / 16 + 1 in
    let whole = div-add-mod' past step in
    let rest = mod-lt past {m = step} (omega arith) in
    let over = over_all n in
    elim (cases_lt (past / step) 16) [
      | inl less ↦
          let same : min (past / step) 15 ≡ past / step = omega (arith, less) in
          rw same (omega (arith, whole, rest))
      | inr more ↦ absurd (let most = mul-le-mul_right step more in omega (arith, whole, over, le, most))
    ]

module _ (search : Search) where
  abbrev disk : Disk
  disk = search.disk.now

  abbrev gap : Gap
  gap = search.gap.now

  abbrev entries : List Entry
  entries = search.wanted.now

  early-le : (way : Way) (leave begin upto : ℕ) → begin ≡ arrival disk gap way → leave ≤ upto
      → stay disk (early_dwell disk gap (plan_by way leave)) entries ≤ stay disk (early_to (early_track gap way) begin upto) entries
  early-le Source leave begin upto b le = longer_stay disk (early_dwell disk gap (plan_by Source leave))
      (early_to gap.source begin upto) entries disk.some_rotation refl (omega (arith, b)) le
  early-le (Over track) leave begin upto b le = longer_stay disk (early_dwell disk gap (plan_by (Over track) leave))
      (early_to track begin upto) entries disk.some_rotation refl (omega (arith, b)) le

  late-le : (way : Way) (leave from : ℕ) → from ≤ leave + move_on disk gap way
      → stay disk (late_dwell disk gap (plan_by way leave)) entries ≤ stay disk (late_most gap from) entries
  late-le Source leave from le = longer_stay disk (late_dwell disk gap (plan_by Source leave)) (late_most gap from) entries
      disk.some_rotation refl le (omega arith)
  late-le (Over track) leave from le = longer_stay disk (late_dwell disk gap (plan_by (Over track) leave)) (late_most gap from)
      entries disk.some_rotation refl le (omega arith)

  -- by the time up to one leave on the track, and after another on the target
  pub by_interval : (way : Way) (leave begin upto from : ℕ) → begin ≡ arrival disk gap way → leave ≤ upto
      → from ≤ leave + move_on disk gap way → value_in search (plan_by way leave)
      ≤ stay disk (early_to (early_track gap way) begin upto) entries + stay disk (late_most gap from) entries
  by_interval way leave begin upto from b le high = omega (
    arith,
    two_stays disk gap (plan_by way leave) entries,
    early-le way leave begin upto b le,
    late-le way leave from high,
  )

  module _ (track : Track) (leave : ℕ) (is : IsDetourIn search track leave) where
    abbrev early_stay : Dwell
    early_stay = early_dwell disk gap (Detour track leave)

    -- by the track's weight, and what the target gives from an instant on
    pub by_weight : (from : ℕ) → from ≤ arrival disk gap (Over track) + move_on disk gap (Over track)
        → value_in search (Detour track leave) ≤ wanted_weight track entries + stay disk (late_most gap from) entries
    by_weight from le = omega (
      arith,
      two_stays disk gap (Detour track leave) entries,
      weight_of_stay disk early_stay entries,
      late-le (Over track) leave from (omega (arith, is.after_arrival, le)),
    )

    -- by what passes in no less time than the head stays on the track, and what bounds the target from an instant on
    pub by_time : (reach : Reach) (weight time limit part most : ℕ) → IsReach search track reach → wanted_weight track entries ≤ weight
        → leave - arrival disk gap (Over track) ≤ time → limit ≤ leave + move_on disk gap (Over track)
        → stay disk (late_most gap limit) entries ≤ part
        → ((caught : ℕ) → caught ≤ weight → caught ≤ passing reach.rate time → caught + part ≤ most)
        → value_in search (Detour track leave) ≤ most
    by_time reach weight time limit part most its light long behind gives bound =
        let arrive = arrival disk gap (Over track) in
        let longer = more_in_time reach.rate (leave - arrive) time long in
        omega (
          arith,
          two_stays disk gap (Detour track leave) entries,
          late-le (Over track) leave limit behind,
          gives,
          bound (stay disk early_stay entries) (omega (arith, weight_of_stay disk early_stay entries, light))
              (omega (arith, its.1 arrive leave, longer)),
        )

  -- the part at an instant is no less than what the target can still give from then on
  pub late-part : (late : LateParts) (from : ℕ) → IsLate disk gap entries late → gap.now ≤ from
      → stay disk (late_most gap from) entries ≤ part_at late from
  late-part late from is after =
      let k = min ((from - late.begin) / late.step) 31 in
      let begin : late.begin + k * late.step ≤ from = omega (arith, least_step (from - late.begin) late.step, is.from_now, after) in
      let less = longer_stay disk (late_most gap from) (late_most gap (late.begin + k * late.step)) entries disk.some_rotation refl begin in
      omega (arith, less (omega arith), is.each k (omega arith))

  -- the leaves of one interval more
  pub none_better_in : (best : Scored) (track : Track) (arrive way from upto early late : ℕ) → IsFound search best
      → IsEnough best (early + late) track → arrive ≡ arrival disk gap (Over track) → way ≡ move_on disk gap (Over track)
      → stay disk (early_to track arrive upto) entries ≤ early → stay disk (late_most gap (from + way)) entries ≤ late
      → ((leave : ℕ) → leave < from → IsDetourIn search track leave → IsNoWorseIn search best.plan (Detour track leave))
      → (leave : ℕ) → leave ≤ upto → IsDetourIn search track leave → IsNoWorseIn search best.plan (Detour track leave)
  none_better_in best track arrive way from upto early late scored enough a w e l before leave high is = elim (cases_lt leave from) [
    | inl less ↦ before leave less is
    | inr low ↦ not_better search best (early + late) track track leave scored enough (not_itself track)
        (omega (arith, by_interval (Over track) leave arrive upto (from + way) a high (omega (arith, w, low)), e, l))
  ]

  pub from_now : (way : Way) → gap.now ≤ arrival disk gap way
  from_now Source = omega arith
  from_now (Over track) = omega arith

  pub below_ceiling : (way : Way) (late : LateParts) (parts : List ℕ) (begin on leave : ℕ) → IsLate disk gap entries late
      → begin ≡ arrival disk gap way → on ≡ move_on disk gap way
      → ((k : ℕ) → k < 16 → get_or parts k 0
      ≡ stay disk (early_to (early_track gap way) begin (begin + (k + 1) * ((gap.deadline - on - begin) / 16 + 1))) entries)
      → IsPlan disk gap (plan_by way leave) → value_in search (plan_by way leave)
      ≤ get_or parts (min ((leave - begin) / ((gap.deadline - on - begin) / 16 + 1)) 15) 0 + part_at late (leave + on)
  below_ceiling way late parts begin on leave is-late b o each is =
      let n = gap.deadline - on - begin in
      let step = n / 16 + 1 in
      let k = min ((leave - begin) / step) 15 in
      let within = bounds disk gap way leave is in
      let near = in_interval n (leave - begin) (omega (arith, within.0, within.1, b, o)) in
      let upto : leave ≤ begin + (k + 1) * step = omega (arith, near, within.0, b) in
      let target = late-part late (leave + on) is-late (omega (arith, from_now way, within.0)) in
      let most = by_interval way leave begin (begin + (k + 1) * step) (leave + on) b upto (omega (arith, o)) in
      omega (arith, most, each k (omega arith), target)

  module _ (way : Way) (bins : Bins) (stop target : Stop) where
    -- what bounds each of its two stays bounds a plan
    pub are_bins : IsStop disk (on_track (early_track gap way) entries) stop → IsStop disk (on_track gap.target entries) target
        → IsGrid bins.leaves.now.grid → length bins.leaves.now.firsts.now ≡ bins.leaves.now.grid.bins
        → IsTable bins.early.now bins.leaves.now.grid.bins → IsTable bins.late.now bins.leaves.now.grid.bins
        → bins.leaves.now.grid.begin ≡ stop.turning.from → stop.turning.from ≡ arrival disk gap way
        → bins.leaves.now.move_on ≡ move_on disk gap way
        → ((leave : ℕ) → offered stop leave ≤ get_or bins.early.now (bin_at bins.leaves.now.grid leave) 0)
        → ((leave : ℕ) → bins.leaves.now.grid.begin ≤ leave → IsBounded bins.leaves.now leave
        → sum_by (late_gain target.turning gap (leave + bins.leaves.now.move_on)) target.offers.now
        ≤ get_or bins.late.now (bins.leaves.now.grid.bins - 1 - bin_at bins.leaves.now.grid leave) 0)
        → AreBins search way bins
    are_bins its ends grid firsts early_table late_table begin arrive on early late = record {
      filled = record { grid = grid; firsts = firsts; early = early_table; late = late_table };
      most = λ leave is noted.
          let on_time = (bounds disk gap way leave is).0 in
          let from = stop.turning.from in
          omega (
            arith,
            by_interval way leave from leave (leave + bins.leaves.now.move_on) arrive (omega arith) (omega (arith, on)),
            gives disk (early_to (early_track gap way) from leave) entries stop its,
            gives disk (late_most gap (leave + bins.leaves.now.move_on)) entries target ends,
            early leave,
            late leave (omega (arith, on_time, begin, arrive)) noted,
          );
    }
