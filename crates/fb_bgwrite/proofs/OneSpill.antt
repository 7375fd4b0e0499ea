-- The best of the candidates is the best spill of all, and the only one.
use Rattle.fb_bgwrite.proofs.Words.{AllByRecursion, Block, Bool, Detour, Disk, Gap, GapRow, IsBest, IsSpill, IsTrackOf, List, None}
use Rattle.fb_bgwrite.proofs.Words.{Option, Some, Spill, Track, WritesNothing, [], all_map, all_weaker, and_parts, ap, arith, cases_Bool}
use Rattle.fb_bgwrite.proofs.Words.{cases_lt, catches, dwell_of, false, filter, flat_map, inl, inr, nat_lt, nat_tests, ready, refl}
use Rattle.fb_bgwrite.proofs.Words.{sym, true, value, ℕ, ◌<◌, ◌==◌, ◌∙◌, ◌∷◌, ◌≡◌, ◌≤◌, ◌⊎◌}
use Rattle.std.specs.List.{best_of}
use Rattle.std.proofs.lemmas.Bool.{or_cases}
use Rattle.fb_units.proofs.Each.{all_best, all_both, all_flat, all_pass, all_unmapped, flat_all}
use Rattle.fb_units.proofs.Lists.{all_filter}
use Rattle.fb_model.specs.BestPlan.{tracks_of, leaves}
use Rattle.fb_model.proofs.Bests.{best_among}
use Rattle.fb_model.proofs.BestPlans.{plan_before, plan_behind}
use Rattle.fb_model.proofs.FullRuns.{one_detour}
use Rattle.fb_model.proofs.Leaves.{StandsFor, stands_for, sum-le}
use Rattle.fb_model.proofs.Ties.{later-trans}
use Rattle.fb_model.proofs.Tried.{InTime, leaves_in_time, of_leaves, tracks_on, of_tracks}
use Rattle.fb_bgwrite.specs.Spilling.{IsNoLater}
use Rattle.fb_bgwrite.specs.Steps.{IsChosen}
use Rattle.fb_bgwrite.specs.BestSpill.{spills_on, writes_some, candidates, is_spill_before, is_better_spill, best_if_any, best_spill}
use Rattle.fb_bgwrite.specs.BestSpill.{BestSpillsExist}

-- what holds of each element that is kept
of_kept : {X : Type 0} (P : X → Type 0) (test : X → Bool) (xs : List X) → AllByRecursion P (filter test xs)
    → AllByRecursion (λ x. test x ≡ true → P x) xs
of_kept P test [] all = tt
of_kept P test (x ∷ xs) all = elim (cases_Bool (test x)) [
  | inl kept ↦ let these = rw kept at all in (λ h. these.0, of_kept P test xs these.1)
  | inr dropped ↦ let these = rw dropped at all in (λ h. absurd (let wrong : true ≡ false = sym h ∙ dropped in cc), of_kept P test xs these)
]

module _ (disk : Disk) (gap : Gap) (pending : List Block) where
  abbrev worth : Spill → ℕ
  worth = value disk gap pending

  abbrev NoWorse : Spill → Spill → Type 0
  NoWorse a b = (worth b < worth a) ⊎ ((worth b ≡ worth a) × IsNoLater a b)

  abbrev better : Spill → Spill → Bool
  better = is_better_spill disk gap pending

  itself : (a : Spill) → NoWorse a a
  itself a = inr (refl, inr (refl, omega arith))

  trans : (a b c : Spill) → NoWorse a b → NoWorse b c → NoWorse a c
  trans a b c h k = elim h [
    | inl x ↦ elim k [ inl y ↦ inl (omega arith) | inr y ↦ inl (omega (arith, y.0)) ]
    | inr x ↦ elim k [
      | inl y ↦ inl (omega (arith, x.0))
      | inr y ↦ inr (y.0 ∙ x.0, later-trans (Detour a.track a.leave) (Detour b.track b.leave) (Detour c.track c.leave) x.1 y.1)
    ]
  ]

  better_is : (a b : Spill) → better a b ≡ true → NoWorse a b
  better_is a b h = elim (or_cases (nat_lt (worth b) (worth a)) _ h) [
    | inl more ↦ inl (grind (arith, nat_tests))
    | inr same ↦ let parts = and_parts (worth a == worth b) (is_spill_before a b) same in
        inr (
          (let e : worth b ≡ worth a = let k = parts.0 in grind (arith, nat_tests) in e),
          plan_before (Detour a.track a.leave) (Detour b.track b.leave) parts.1,
        )
  ]

  worse_is : (a b : Spill) → better a b ≡ false → NoWorse b a
  worse_is a b h = elim (cases_lt (worth a) (worth b)) [
    | inl less ↦ inl less
    | inr more ↦
        let same : worth a ≡ worth b = grind (arith, nat_tests) in
        let last : is_spill_before a b ≡ false = grind (arith, nat_tests) in
        inr (same, plan_behind (Detour a.track a.leave) (Detour b.track b.leave) last)
  ]

  -- ---- the candidates are spills that write something

  abbrev IsGood : Spill → Type 0
  IsGood spill = IsSpill disk gap spill × (0 < worth spill)

  abbrev spill_at : Track → ℕ → Spill
  spill_at track leave = record { track = track; leave = leave }

  on_track : (track : Track) → IsTrackOf disk.map track → AllByRecursion (IsSpill disk gap) (spills_on disk gap pending track)
  on_track track on =
      let come = ready disk gap track in
      all_map (IsSpill disk gap) (spill_at track) (leaves disk gap pending track come)
      (all_weaker (InTime disk gap pending track come) (λ leave. IsSpill disk gap (spill_at track leave))
      (λ leave h. record { on_disk = on; after_ready = h.0; in_time = h.1 })
      (leaves disk gap pending track come) (leaves_in_time disk gap pending track come))

  abbrev on_all : List Spill
  on_all = flat_map (spills_on disk gap pending) (tracks_of disk.map)

  are_good : AllByRecursion IsGood (candidates disk gap pending)
  are_good = all_weaker (λ spill. IsSpill disk gap spill × (writes_some disk gap pending spill ≡ true)) IsGood
      (λ spill h. (h.0, (let some : 0 < worth spill = let k = h.1 in grind (arith, nat_tests) in some))) (candidates disk gap pending)
      (all_both _ _ (candidates disk gap pending)
      (all_filter (IsSpill disk gap) (writes_some disk gap pending) on_all
      (flat_all (IsSpill disk gap) (spills_on disk gap pending) (tracks_of disk.map)
      (all_weaker (IsTrackOf disk.map) (λ track. AllByRecursion (IsSpill disk gap) (spills_on disk gap pending track)) on_track
      (tracks_of disk.map) (tracks_on disk.map))))
      (all_pass (writes_some disk gap pending) on_all))

  -- ---- what holds of all candidates holds of one that is no worse than a spill that writes something

  as_much : (track : Track) (u v : ℕ) → StandsFor disk track (ready disk gap track) u pending v
      → worth (spill_at track u) ≤ worth (spill_at track v)
  unfolding value
  as_much track u v stands = sum-le (λ block. block.count) (catches disk (dwell_of disk gap (spill_at track u)))
      (catches disk (dwell_of disk gap (spill_at track v))) pending stands.same

  abbrev Reaches : List Spill → Type 1
  Reaches spills = (P : Spill → Type 0) → AllByRecursion P spills → (spill : Spill) → IsGood spill
      → (other : Spill) × P other × NoWorse other spill

  reaches : Reaches (candidates disk gap pending)
  reaches P all spill good =
      let come = ready disk gap spill.track in
      let found = stands_for disk spill.track come spill.leave pending good.0.after_ready in
      let other = spill_at spill.track found.0 in
      let much = as_much spill.track spill.leave found.0 found.1 in
      let Q = λ (spill : Spill). writes_some disk gap pending spill ≡ true → P spill in
      let each = of_tracks disk.map (λ track. AllByRecursion Q (spills_on disk gap pending track))
      (all_flat Q (spills_on disk gap pending) (tracks_of disk.map) (of_kept P (writes_some disk gap pending) on_all all))
      spill.track good.0.on_disk in
      let there = of_leaves disk gap pending spill.track come (λ leave. Q (spill_at spill.track leave)) spill.leave found.0
      (all_unmapped Q (spill_at spill.track) (leaves disk gap pending spill.track come) each) found.1
      (omega (arith, good.0.in_time, found.1.upto)) in
      let some : writes_some disk gap pending other ≡ true = let k = good.1 in grind (arith, nat_tests) in (
        other,
        there some,
        elim (cases_lt (worth spill) (worth other)) [
          | inl more ↦ inl more
          | inr same ↦ inr (omega (arith, much, same), inr (refl, found.1.upto))
        ],
      )

  -- ---- the best spill, or none

  abbrev Chooses : Option Spill → Type 0
  Chooses None = WritesNothing disk gap pending
  Chooses (Some spill) = IsBest disk gap pending spill

  chooses : (spills : List Spill) → AllByRecursion IsGood spills → Reaches spills → Chooses (best_if_any better spills)
  chooses [] good reach = λ spill is. elim (cases_lt 0 (worth spill)) [
    | inl some ↦ absurd (reach (λ other. ⊥) tt spill (is, some)).1
    | inr none ↦ omega arith
  ]
  chooses (first ∷ others) good reach =
      let best = best_of better first others in
      let among = best_among better NoWorse itself trans better_is worse_is first others in
      let is = all_best IsGood better first others good.0 good.1 in
      let beats : (other : Spill) → IsGood other → NoWorse best other =
      λ other h. let one = reach (NoWorse best) among other h in trans best one.0 other one.1 one.2 in
      record {
        is_spill = is.0;
        some = is.1;
        greatest = λ other h. elim (cases_lt 0 (worth other)) [
          | inl some ↦ elim (beats other (h, some)) [ inl less ↦ omega arith | inr same ↦ omega (arith, same.0) ]
          | inr none ↦ omega arith
        ];
        first = λ other h same. elim (beats other (h, (let some : 0 < worth other = omega (arith, is.1, same) in some))) [
          | inl less ↦ absurd (omega (arith, less, same))
          | inr tie ↦ tie.1
        ];
      }

  one_choice : (a b : Option Spill) → Chooses a → Chooses b → a ≡ b
  one_choice None None h k = refl
  one_choice None (Some b) h k = absurd (omega (arith, h b k.is_spill, k.some))
  one_choice (Some a) None h k = absurd (omega (arith, k a h.is_spill, h.some))
  one_choice (Some a) (Some b) h k =
      let same : worth b ≡ worth a = omega (arith, h.greatest b k.is_spill, k.greatest a h.is_spill) in
      let one = one_detour a.track b.track a.leave b.leave (h.first b k.is_spill same) (k.first a h.is_spill (sym same)) in
      let track : a.track ≡ b.track = cc in
      let leave : a.leave ≡ b.leave = cc in
      ap (λ t. Some (spill_at t a.leave)) track ∙ ap (λ u. Some (spill_at b.track u)) leave

pub best_spills_exist : BestSpillsExist
unfolding best_spill
best_spills_exist disk row pending =
    let best = chooses disk row.gap pending (candidates disk row.gap pending) (are_good disk row.gap pending) (reaches disk row.gap pending) in
    record {
      chosen = by_cases disk row pending (best_spill disk row.gap pending) best;
      only = λ other is.
          one_choice disk row.gap pending other (best_spill disk row.gap pending) (from_cases disk row pending other is) best;
    }
  where
    by_cases : (disk : Disk) (row : GapRow) (pending : List Block) (spill : Option Spill) → Chooses disk row.gap pending spill
        → IsChosen disk row pending spill
    by_cases disk row pending None h = h
    by_cases disk row pending (Some spill) h = h

    from_cases : (disk : Disk) (row : GapRow) (pending : List Block) (spill : Option Spill) → IsChosen disk row pending spill
        → Chooses disk row.gap pending spill
    from_cases disk row pending None h = h
    from_cases disk row pending (Some spill) h = h
