-- The best of the candidates is the best plan of all.
use Rattle.fb_model.proofs.Words.{◌++◌, ◌≡◌, ℕ, ◌+◌, ◌≤◌, List, [], Bool, true, false, map, cond, ap, refl, subst, sym, arith, inl, inr}
use Rattle.fb_model.proofs.Words.{◌==◌, ◌||◌, AllByRecursion, cases_lt, or_cases, and_parts, nat_tests, all_flat, all_map, all_unmapped}
use Rattle.fb_model.proofs.Words.{flat_all, all_append, all_weaker, same_tracks, Track, same_track, IsTrackOf, pos, Disk, Block, Gap, Plan}
use Rattle.fb_model.proofs.Words.{Direct, Detour, IsPlan, IsNoLater, IsNoWorse, IsBest, value, tracks_of, leaves, is_track_before}
use Rattle.std.proofs.Common.{nat_lt}
use Rattle.fb_units.proofs.Each.{all_best}
use Rattle.fb_units.proofs.Lists.{all_left, all_right}
use Rattle.fb_model.specs.Plans.{IsDetour}
use Rattle.fb_model.specs.BestPlan.{detours, direct_plans, all_detours, is_plan_before, is_better_plan}
use Rattle.fb_model.specs.BestPlan.{best_plan, BestPlansExist}
use Rattle.fb_model.proofs.Bests.{best_among}
use Rattle.fb_model.proofs.Leaves.{enough}
use Rattle.fb_model.proofs.Ties.{before_is, not_before, no_worse-self, no_worse-trans, best-of}
use Rattle.fb_model.proofs.Tried.{InTime, leaves_in_time, of_leaves, tracks_on, of_tracks}
use Rattle.fb_model.proofs.FullRuns.{one_best}

-- ---- the tests say what they are to say

pub plan_before : (a b : Plan) → is_plan_before a b ≡ true → IsNoLater a b
plan_before (Direct u) (Direct v) h = grind (arith, nat_tests)
plan_before (Direct u) (Detour d v) h = tt
plan_before (Detour c u) (Direct v) h = absurd (grind arith)
plan_before (Detour c u) (Detour d v) h = elim (or_cases (is_track_before c d) _ h) [
  | inl less ↦ inl (before_is c d less)
  | inr same ↦ let parts = and_parts (same_track c d) (nat_lt u v) same in
      inr (same_tracks c d parts.0, (let less : u ≤ v = let k = parts.1 in grind (arith, nat_tests) in less))
]

pub plan_behind : (a b : Plan) → is_plan_before a b ≡ false → IsNoLater b a
plan_behind (Direct u) (Direct v) h = grind (arith, nat_tests)
plan_behind (Direct u) (Detour d v) h = absurd (grind arith)
plan_behind (Detour c u) (Direct v) h = tt
plan_behind (Detour c u) (Detour d v) h =
    let first : is_track_before c d ≡ false = grind arith in
    elim (not_before c d first) [
      | inl less ↦ inl less
      | inr same ↦ inr (sym same, (let less : v ≤ u = let here = ap (λ t. same_track t d) same in grind (arith, nat_tests) in less))
    ]

module _ (disk : Disk) (gap : Gap) (wanted : List Block) where
  abbrev NoWorse : Plan → Plan → Type 0
  NoWorse = IsNoWorse disk gap wanted

  abbrev better : Plan → Plan → Bool
  better = is_better_plan disk gap wanted

  better_is : (a b : Plan) → better a b ≡ true → NoWorse a b
  better_is a b h = elim (or_cases (nat_lt (value disk gap wanted b) (value disk gap wanted a)) _ h) [
    | inl more ↦ inl (grind (arith, nat_tests))
    | inr same ↦ let parts = and_parts (value disk gap wanted a == value disk gap wanted b) (is_plan_before a b) same in
        inr (
          (let e : value disk gap wanted b ≡ value disk gap wanted a = let k = parts.0 in grind (arith, nat_tests) in e),
          plan_before a b parts.1,
        )
  ]

  worse_is : (a b : Plan) → better a b ≡ false → NoWorse b a
  worse_is a b h = elim (cases_lt (value disk gap wanted a) (value disk gap wanted b)) [
    | inl less ↦ inl less
    | inr more ↦
        let same : value disk gap wanted a ≡ value disk gap wanted b = grind (arith, nat_tests) in
        let last : is_plan_before a b ≡ false = grind (arith, nat_tests) in
        inr (same, plan_behind a b last)
  ]

  -- ---- the candidates are plans

  detours_are : (track : Track) (source target : Bool) → IsTrackOf disk.map track → same_track track gap.source ≡ source
      → same_track track gap.target ≡ target
      → AllByRecursion (IsPlan disk gap) (cond (source || target) []
      (map (Detour track) (leaves disk gap wanted track (gap.now + pos disk.mechanism gap.source track false))))
  detours_are track true target on at_source at_target = tt
  detours_are track false true on at_source at_target = tt
  detours_are track false false on at_source at_target =
      let come = gap.now + pos disk.mechanism gap.source track false in
      all_map (IsPlan disk gap) (Detour track) (leaves disk gap wanted track come)
      (all_weaker (InTime disk gap wanted track come) (λ leave. IsDetour disk gap track leave)
      (λ leave h. record { on_disk = on; not_source = at_source; not_target = at_target; after_arrival = h.0; in_time = h.1 })
      (leaves disk gap wanted track come) (leaves_in_time disk gap wanted track come))

  are_plans : AllByRecursion (IsPlan disk gap) (direct_plans disk gap wanted ++ all_detours disk gap wanted)
  are_plans = all_append (IsPlan disk gap) (direct_plans disk gap wanted) (all_detours disk gap wanted)
      (all_map (IsPlan disk gap) Direct (leaves disk gap wanted gap.source gap.now) (leaves_in_time disk gap wanted gap.source gap.now))
      (flat_all (IsPlan disk gap) (detours disk gap wanted) (tracks_of disk.map)
      (all_weaker (IsTrackOf disk.map) (λ track. AllByRecursion (IsPlan disk gap) (detours disk gap wanted track))
      (λ track on. detours_are track (same_track track gap.source) (same_track track gap.target) on refl refl)
      (tracks_of disk.map) (tracks_on disk.map)))

  -- ---- what holds of all candidates holds of one that is no worse than a plan

  module _ (P : Plan → Type 0) (all : AllByRecursion P (direct_plans disk gap wanted ++ all_detours disk gap wanted)) where
    of_track : (track : Track) → IsTrackOf disk.map track → AllByRecursion P (detours disk gap wanted track)
    of_track = of_tracks disk.map (λ track. AllByRecursion P (detours disk gap wanted track))
        (all_flat P (detours disk gap wanted) (tracks_of disk.map)
        (all_right P (direct_plans disk gap wanted) (all_detours disk gap wanted) all))

    sooner : (make : ℕ → Plan) (u v : ℕ) → v ≤ u → (v ≤ u → IsNoLater (make v) (make u))
        → value disk gap wanted (make u) ≤ value disk gap wanted (make v) → NoWorse (make v) (make u)
    sooner make u v le no_later values = elim (cases_lt (value disk gap wanted (make u)) (value disk gap wanted (make v))) [
      | inl more ↦ inl more
      | inr same ↦ inr (omega arith, no_later le)
    ]

    one_of_them : (plan : Plan) → IsPlan disk gap plan → (other : Plan) × P other × NoWorse other plan
    one_of_them (Direct u) is =
        let found = enough disk gap Direct gap.source gap.now (λ u block. refl) wanted u is.0 in
        let each = all_unmapped P Direct (leaves disk gap wanted gap.source gap.now)
        (all_left P (direct_plans disk gap wanted) (all_detours disk gap wanted) all) in (
          Direct found.0,
          of_leaves disk gap wanted gap.source gap.now (λ v. P (Direct v)) u found.0 each found.1 (omega (arith, is.1, found.1.upto)),
          sooner Direct u found.0 found.1.upto (λ le. le) found.2,
        )
    one_of_them (Detour track u) is =
        let come = gap.now + pos disk.mechanism gap.source track false in
        let found = enough disk gap (Detour track) track come (λ u block. refl) wanted u is.after_arrival in
        let over = subst (λ skip. AllByRecursion P (cond skip [] (map (Detour track) (leaves disk gap wanted track come))))
        (let neither : (same_track track gap.source || same_track track gap.target) ≡ false = rw (is.not_source, is.not_target) refl in
        neither)
        (of_track track is.on_disk) in
        let each = all_unmapped P (Detour track) (leaves disk gap wanted track come) over in (
          Detour track found.0,
          of_leaves disk gap wanted track come (λ v. P (Detour track v)) u found.0 each found.1 (omega (arith, is.in_time, found.1.upto)),
          sooner (Detour track) u found.0 found.1.upto (λ le. inr (refl, le)) found.2,
        )

  -- ---- the best plan

  pub best_exists : IsPlan disk gap (Direct gap.now) → IsBest disk gap wanted (best_plan disk gap wanted)
  unfolding best_plan
  best_exists straight =
      let best = best_plan disk gap wanted in
      let tried = direct_plans disk gap wanted ++ all_detours disk gap wanted in
      let beats_all = (best_among better NoWorse (no_worse-self disk gap wanted) (no_worse-trans disk gap wanted) better_is worse_is
      (Direct gap.now) tried).1 in
      best-of disk gap wanted best
      (all_best (IsPlan disk gap) better (Direct gap.now) tried straight are_plans)
      (λ plan is. let one = one_of_them (NoWorse best) beats_all plan is in no_worse-trans disk gap wanted best one.0 plan one.1 one.2)

pub best_plans_exist : BestPlansExist
best_plans_exist disk gap wanted straight =
    let best = best_exists disk gap wanted straight in
    record { best = best; only = λ other is. one_best disk gap wanted other (best_plan disk gap wanted) is best }
