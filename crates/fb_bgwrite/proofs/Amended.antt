-- The head can go the amended way, which has all legs outside free gaps.
use Rattle.fb_bgwrite.proofs.Words.{◌≡◌, ℕ, zero, suc, ◌+◌, ◌^◌, ◌*◌, ◌≤◌, List, [], ◌∷◌, ◌++◌, Bool, true, false, Option, Some, None}
use Rattle.fb_bgwrite.proofs.Words.{length, refl, sym, ap, ◌∙◌, subst, arith, inl, inr, append_assoc, not, AllByRecursion, slice_index_or}
use Rattle.fb_bgwrite.proofs.Words.{cases_Bool, cases_lt, Track, same_track, Shape, IsTrackOf, places, IsSound, place_at, track_at, pos}
use Rattle.fb_bgwrite.proofs.Words.{Disk, Block, ForeRow, Gap, Plan, Direct, Detour, GapRow, BackRow, BackGap, BackIdle, IsPlan, Leg, stay}
use Rattle.fb_bgwrite.proofs.Words.{pass, way, gap_legs, passing, service_legs, timeline, led_to, all_append, Spill, SpillItem, amended}
use Rattle.fb_bgwrite.proofs.Words.{amended_legs, kept, kept_legs, planned_legs, spill_legs, timeline_with, PutBlock, IsGap, RunGap}
use Rattle.fb_bgwrite.proofs.Words.{delivers, gaps, AreGaps, IsGapOf, IsSpill, IsChosenIf, IsRight, rows_in, step_of, steps, lead_gap}
use Rattle.fb_units.specs.declared.types.Place.{Place}
use Rattle.fb_service.specs.declared.passage.Passage.{Passage}
use Rattle.fb_service.specs.Service.{passages}
use Rattle.fb_model.specs.SoundRun.{IsSublist, none, left_out, taken}
use Rattle.fb_detour.proofs.Within.{place_of}
use Rattle.fb_bgwrite.proofs.Legs.{behind_gap, first_follows, gap_begins, lead_spill, led_forward, stay_follows, through, StaysOn}

-- ---- gaps

-- the gaps come one after another, and each can be computed
abbrev pub AreFit : Disk → ℕ → List RunGap → Type 0
AreFit disk now [] = Unit {0}
AreFit disk now (gap ∷ gaps) = (now ≤ gap.row.gap.now) × IsGap disk gap.row.gap × AreFit disk gap.row.gap.now gaps

pub fit_earlier : (disk : Disk) (now before : ℕ) (gs : List RunGap) → before ≤ now → AreFit disk now gs → AreFit disk before gs
fit_earlier disk now before [] le fit = tt
fit_earlier disk now before (gap ∷ gs) le fit = (omega (arith, le, fit.0), fit.1, fit.2)

-- ---- tracks of the disk

past_end : (xs : List Place) (i : ℕ) (d : Place) → length xs ≤ i → slice_index_or xs i d ≡ d
past_end [] i d past = refl
past_end (x ∷ xs) zero d past = absurd (omega (arith, past))
past_end (x ∷ xs) (suc i) d past = past_end xs i d (omega (arith, past))

beyond : (disk : Shape) (lbn : ℕ) → length (places disk) ≤ lbn
    → place_at disk lbn ≡ (let place : Place = record { track = record { cylinder = 0; head = 0 }; slot = 0 } in place)
unfolding place_at
beyond disk lbn past = past_end (places disk) lbn (record { track = record { cylinder = 0; head = 0 }; slot = 0 }) past

module _ (disk : Disk) (sound : IsSound disk.map) where
  pub track_on_disk : (lbn : ℕ) → IsTrackOf disk.map (track_at disk.map lbn)
  track_on_disk lbn = elim (cases_lt lbn (length (places disk.map))) [
    | inl inside ↦ (place_of disk.map lbn sound inside).track
    | inr past ↦ subst (λ (place : Place). IsTrackOf disk.map place.track) (sym (beyond disk.map lbn past))
        (record { cylinder = disk.some_cylinders; head = disk.some_heads })
  ]

  ways_on : (from to : Track) (write : Bool) (now : ℕ) → IsTrackOf disk.map to → AllByRecursion (StaysOn disk) (way disk from to write now)
  ways_on from to write now here = elim (cases_Bool (same_track from to)) [
    | inl same ↦ rw same tt
    | inr other ↦ rw other (here, tt)
  ]

  passing_on : (here : Track) (now : ℕ) (write : Bool) (ps : List Passage) → AllByRecursion (StaysOn disk) (passing disk here now write ps)
  passing_on here now write [] = tt
  passing_on here now write (p ∷ ps) =
      let there = track_at disk.map p.lbn in
      let on = track_on_disk p.lbn in
      all_append (StaysOn disk) (way disk here there write now)
      (stay there (now + pos disk.mechanism here there write) p.begin ∷ pass p.lbn p.begin p.end ∷ passing disk there p.end write ps)
      (ways_on here there write now on) (on, (on, passing_on there p.end write ps))

  service_on : (gap : Gap) (served : ForeRow) → AllByRecursion (StaysOn disk) (service_legs disk gap served)
  service_on gap served = passing_on gap.target gap.deadline served.request.write
      (passages disk gap.source gap.now served.request.write served.request.lbn served.request.count)

  -- ---- gaps fit

  plan_forward : (gap : Gap) (plan : Plan) → IsPlan disk gap plan → gap.now ≤ gap.deadline
  plan_forward gap (Direct leave) is = omega (arith, is.0, is.1)
  plan_forward gap (Detour track leave) is = omega (arith, is.after_arrival, is.in_time)

  gap_fits : (on : Track) (now end : ℕ) (row : GapRow) (served : ForeRow) (rest : List Leg) → IsTrackOf disk.map on → end ≤ 9 * 10 ^ 18
      → IsGapOf disk row served
      → led_to disk on now (gap_legs disk row.gap row.plan ++ rest) ≡ Some end → IsGap disk row.gap
  gap_fits on now end row served rest here early is led =
      let begins = gap_begins disk on now end row.gap row.plan rest led in
      let behind = behind_gap disk on now end row.gap row.plan rest is.plan led in
      record {
        source = subst (IsTrackOf disk.map) (sym begins.0) here;
        target = subst (IsTrackOf disk.map) (sym is.target) (track_on_disk served.request.lbn);
        forward = plan_forward row.gap row.plan is.plan;
        early = omega (arith, led_forward disk row.gap.target row.gap.deadline end rest behind, early);
      }

  pub all_fit : (on : Track) (now end : ℕ) (back : List BackRow) (fore : List ForeRow) → IsTrackOf disk.map on → end ≤ 9 * 10 ^ 18
      → AreGaps disk back fore
      → led_to disk on now (timeline disk back fore) ≡ Some end → AreFit disk now (gaps back)
  unfolding timeline
  all_fit on now end [] fore here early are led = tt
  all_fit on now end (BackIdle dwell ∷ back) fore here early are led =
      let first = first_follows disk on now end (stay dwell.track dwell.begin dwell.end) (timeline disk back fore) led in
      let is = stay_follows disk on dwell.track now dwell.begin dwell.end first.0 in
      fit_earlier disk dwell.end now (gaps back) (omega (arith, is.1, is.2))
      (all_fit dwell.track dwell.end end back fore (subst (IsTrackOf disk.map) (sym is.0) here) early are first.1)
  all_fit on now end (BackGap row ∷ back) [] here early are led = absurd are
  all_fit on now end (BackGap row ∷ back) (served ∷ fore) here early are led =
      let rest = service_legs disk row.gap served ++ timeline disk back fore in
      let led' = sym (ap (led_to disk on now)
      (append_assoc (gap_legs disk row.gap row.plan) (service_legs disk row.gap served) (timeline disk back fore))) ∙ led in
      let begins = gap_begins disk on now end row.gap row.plan rest led' in
      let fits = gap_fits on now end row served rest here early are.0 led' in
      let behind = behind_gap disk on now end row.gap row.plan rest are.0.plan led' in
      let on' = through disk row.gap.target row.gap.deadline end (service_legs disk row.gap served) (timeline disk back fore) fits.target
      (service_on row.gap served) behind in (
        omega (arith, begins.1),
        fits,
        fit_earlier disk on'.at row.gap.now (gaps back) (omega (arith, fits.forward, on'.forward))
            (all_fit on'.to on'.at end back fore on'.on_disk early are.1 on'.goes_on),
      )
  all_fit on now end (_ ∷ back) fore here early are led = all_fit on now end back fore here early are led

  -- ---- the amended way

  -- only a free gap has a spill, and it is one of the gap's
  abbrev pub FitsGap : RunGap → Option Spill → Type 0
  FitsGap gap None = Unit {0}
  FitsGap gap (Some spill) = (gap.free ≡ true) × IsSpill disk gap.row.gap spill

  abbrev pub AreFitting : List RunGap → List (Option Spill) → Type 0
  AreFitting [] spills = Unit {0}
  AreFitting (gap ∷ gaps) [] = ⊥
  AreFitting (gap ∷ gaps) (spill ∷ spills) = FitsGap gap spill × AreFitting gaps spills

  no_spill : (spill : Spill) → Some spill ≡ None → ⊥
  no_spill spill e = absurd (grind arith)

  chosen_fits : (free : Bool) (gap : RunGap) (pending : List Block) (spill : Option Spill) → gap.free ≡ free
      → IsChosenIf free disk gap.row pending spill → FitsGap gap spill
  chosen_fits free gap pending None is chosen = tt
  chosen_fits true gap pending (Some spill) is chosen = (is, chosen.is_spill)
  chosen_fits false gap pending (Some spill) is chosen = absurd (no_spill spill chosen)

  pub right_fits : (blocks : List PutBlock) (so_far : List SpillItem) (gs : List RunGap) (spills : List (Option Spill))
      → length spills ≡ length gs → AllByRecursion (IsRight disk) (steps disk blocks so_far gs spills) → AreFitting gs spills
  right_fits blocks so_far [] spills each right = tt
  right_fits blocks so_far (gap ∷ gs) [] each right = absurd (omega (arith, each))
  right_fits blocks so_far (gap ∷ gs) (spill ∷ spills) each right =
      let step = step_of blocks so_far gap spill in (
        chosen_fits gap.free gap step.pending spill refl right.0,
        right_fits blocks (so_far ++ rows_in disk step) gs spills (omega (arith, each)) right.1,
      )

  lead_amended : (gap : RunGap) (spill : Option Spill) (rest : List Leg) → IsPlan disk gap.row.gap gap.row.plan → FitsGap gap spill
      → led_to disk gap.row.gap.source gap.row.gap.now (amended_legs disk (gap, spill) ++ rest)
      ≡ led_to disk gap.row.gap.target gap.row.gap.deadline rest
  lead_amended gap None rest plan fits = lead_gap disk gap.row.gap gap.row.plan plan rest
  lead_amended gap (Some spill) rest plan fits = lead_spill disk gap.row.gap spill fits.1 rest

  pub amended_leads : (on : Track) (now end : ℕ) (back : List BackRow) (fore : List ForeRow) (spills : List (Option Spill))
      → IsTrackOf disk.map on → AreGaps disk back fore → AreFitting (gaps back) spills
      → led_to disk on now (timeline disk back fore) ≡ Some end → led_to disk on now (amended disk back fore spills) ≡ Some end
  unfolding timeline timeline_with led_to
  amended_leads on now end [] fore spills here are fit led = led
  amended_leads on now end (BackIdle dwell ∷ back) fore spills here are fit led =
      let first = first_follows disk on now end (stay dwell.track dwell.begin dwell.end) (timeline disk back fore) led in
      let is = stay_follows disk on dwell.track now dwell.begin dwell.end first.0 in
      rw first.0 (amended_leads dwell.track dwell.end end back fore spills (subst (IsTrackOf disk.map) (sym is.0) here) are fit first.1)
  amended_leads on now end (BackGap row ∷ back) [] spills here are fit led = absurd are
  amended_leads on now end (BackGap row ∷ back) (served ∷ fore) [] here are fit led = absurd fit
  amended_leads on now end (BackGap row ∷ back) (served ∷ fore) (spill ∷ spills) here are fit led =
      let gap : RunGap = record { row = row; free = not (delivers back) } in
      let service = service_legs disk row.gap served in
      let led' = sym (ap (led_to disk on now) (append_assoc (gap_legs disk row.gap row.plan) service (timeline disk back fore))) ∙ led in
      let begins = gap_begins disk on now end row.gap row.plan (service ++ timeline disk back fore) led' in
      let behind = behind_gap disk on now end row.gap row.plan (service ++ timeline disk back fore) are.0.plan led' in
      let target = subst (IsTrackOf disk.map) (sym are.0.target) (track_on_disk served.request.lbn) in
      let on' =
      through disk row.gap.target row.gap.deadline end service (timeline disk back fore) target (service_on row.gap served) behind in
      let rest = amended_leads on'.to on'.at end back fore spills on'.on_disk are.1 fit.1 on'.goes_on in
      let later = amended disk back fore spills in
      ap (led_to disk on now) (append_assoc (amended_legs disk (gap, spill)) service later)
      ∙ ap (λ (t : Track). led_to disk t now (amended_legs disk (gap, spill) ++ (service ++ later))) (sym begins.0)
      ∙ ap (λ n. led_to disk row.gap.source n (amended_legs disk (gap, spill) ++ (service ++ later))) (sym begins.1)
      ∙ lead_amended gap spill (service ++ later) are.0.plan fit.0
      ∙ on'.leads later
      ∙ rest
  amended_leads on now end (_ ∷ back) fore spills here are fit led = amended_leads on now end back fore spills here are fit led

  -- ---- what is kept

  behind_same : {X : Type 0} (front xs ys : List X) → IsSublist xs ys → IsSublist (front ++ xs) (front ++ ys)
  behind_same [] xs ys is = is
  behind_same (x ∷ front) xs ys is = taken (behind_same front xs ys is)

  behind_more : {X : Type 0} (front xs ys : List X) → IsSublist xs ys → IsSublist xs (front ++ ys)
  behind_more [] xs ys is = is
  behind_more (x ∷ front) xs ys is = left_out (behind_more front xs ys is)

  kept_in : (gap : RunGap) (spill : Option Spill) (xs ys : List Leg) → FitsGap gap spill → IsSublist xs ys
      → IsSublist (kept_legs disk gap ++ xs) (amended_legs disk (gap, spill) ++ ys)
  kept_in gap None xs ys fits is = elim (cases_Bool gap.free) [
    | inl free ↦ rw free (behind_more (planned_legs disk gap) xs ys is)
    | inr busy ↦ rw busy (behind_same (planned_legs disk gap) xs ys is)
  ]
  kept_in gap (Some spill) xs ys fits is = rw fits.0 (behind_more (spill_legs disk gap.row.gap spill) xs ys is)

  regroup : (a b c x y : List Leg) → IsSublist (a ++ (b ++ c)) (x ++ (b ++ y)) → IsSublist (a ++ b ++ c) (x ++ b ++ y)
  regroup a b c x y is =
      subst (λ l. IsSublist l (x ++ b ++ y)) (sym (append_assoc a b c)) (subst (IsSublist (a ++ (b ++ c))) (sym (append_assoc x b y)) is)

  pub kept_is : (back : List BackRow) (fore : List ForeRow) (spills : List (Option Spill)) → AreGaps disk back fore
      → AreFitting (gaps back) spills → IsSublist (kept disk back fore) (amended disk back fore spills)
  unfolding timeline_with
  kept_is [] fore spills are fit = none
  kept_is (BackIdle dwell ∷ back) fore spills are fit = taken (kept_is back fore spills are fit)
  kept_is (BackGap row ∷ back) [] spills are fit = absurd are
  kept_is (BackGap row ∷ back) (served ∷ fore) [] are fit = absurd fit
  kept_is (BackGap row ∷ back) (served ∷ fore) (spill ∷ spills) are fit =
      let gap : RunGap = record { row = row; free = not (delivers back) } in
      let service = service_legs disk row.gap served in
      regroup (kept_legs disk gap) service (kept disk back fore) (amended_legs disk (gap, spill)) (amended disk back fore spills) (
      kept_in (record { row = row; free = not (delivers back) }) spill (service_legs disk row.gap served ++ kept disk back fore)
      (service_legs disk row.gap served ++ amended disk back fore spills) fit.0
      (behind_same (service_legs disk row.gap served) (kept disk back fore) (amended disk back fore spills)
      (kept_is back fore spills are.1 fit.1)))
  kept_is (_ ∷ back) fore spills are fit = kept_is back fore spills are fit
