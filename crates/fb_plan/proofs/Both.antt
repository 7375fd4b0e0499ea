-- The value of a plan by what is offered on its two tracks.
use Rattle.fb_plan.proofs.Words.{◌≡◌, inl, inr, ℕ, ◌+◌, ◌*◌, ◌^◌, ◌<◌, ◌≤◌, List, [], ◌∷◌, Bool, true, false, ◌||◌, nat_le, Some}
use Rattle.fb_plan.proofs.Words.{slice_get, get_or, length, take, suc, refl, arith, sym, ap, ◌∙◌, subst, sum_by, cases_Bool, nat_tests}
use Rattle.fb_plan.proofs.Words.{sum_by-cons, filter_from, Sweep, Track, same_track, Disk, Block, Entry, Offer, AreOffers, wanted_of, Gap}
use Rattle.fb_plan.proofs.Words.{Plan, Direct, Detour, Dwell, IsBlockOn, block_end, value, early_dwell, late_dwell, Sides, Turning}
use Rattle.fb_plan.proofs.Words.{AreOnDisk, AreSides, IsTurning, passes_by, added}
use Rattle.std.proofs.Common.{ap₂}
use Rattle.std.proofs.lemmas.List.Sums.{sum_by_more}
use Rattle.fb_plan.specs.declared.dwell_pair.DwellPair.{DwellPair}
use Rattle.fb_plan.proofs.Gains.{adds, gain_by, value-by-one, value-by-two}
use Rattle.fb_plan.proofs.Offered.{sum-offered}
use Rattle.fb_plan.proofs.Swept.{passes-as}

pub sum-agree : (f g : Entry → ℕ) (xs : List Entry) → ((i : ℕ) (e : Entry) → slice_get xs i ≡ Some e → f e ≡ g e)
    → sum_by f xs ≡ sum_by g xs
sum-agree f g [] same = refl
sum-agree f g (x ∷ xs) same =
    omega (arith, sum_by-cons f x xs, sum_by-cons g x xs, same 0 x refl, sum-agree f g xs (λ i e at. same (suc i) e at))

module _ (f : Offer → ℕ) (offers : List Offer) (d : Offer) {i sum more : ℕ} where
  -- the sums after one more offer
  pub sum-next : i < length offers → (sum ≤ 2 ^ 32 * i) × (sum ≡ sum_by f (take i offers)) → more ≡ f (get_or offers i d) → more < 2 ^ 32
      → (sum + more ≤ 2 ^ 32 * (i + 1)) × (sum + more ≡ sum_by f (take (i + 1) offers))
  sum-next inside so_far one small =
      (omega (arith, so_far.0, small), ap₂ (λ a b. a + b) so_far.1 one ∙ sym (sum_by_more f offers i d inside))

onto : (a b x : Track) → same_track a b ≡ true → same_track a x ≡ true → same_track b x ≡ true
onto a b x h k = grind (arith, nat_tests)

not_onto : (a b x : Track) → same_track a b ≡ false → same_track a x ≡ true → same_track b x ≡ false
not_onto a b x h k = grind (arith, nat_tests)

not_from : (a b x : Track) → same_track a b ≡ false → same_track b x ≡ true → same_track a x ≡ false
not_from a b x h k = grind (arith, nat_tests)

its-target : (disk : Disk) (gap : Gap) (plan : Plan) → (late_dwell disk gap plan).track ≡ gap.target
its-target disk gap (Direct u) = refl
its-target disk gap (Detour c u) = refl

module _ (disk : Disk) (gap : Gap) (plan : Plan) (es : List Entry) (pair : DwellPair) (sides : Sides) (late : Turning)
    (p : pair.early ≡ early_dwell disk gap plan) (q : pair.late ≡ late_dwell disk gap plan)
    (are : AreSides disk gap.target es (early_dwell disk gap plan) sides) (turns : IsTurning disk late)
    (from : late.from ≡ pair.late.begin) where
  abbrev in_early : Sweep → Bool
  in_early sweep = passes_by sides.turning pair.early.end sweep

  abbrev in_late : Sweep → Bool
  in_late sweep = passes_by late pair.late.end sweep

  abbrev early_end : Block → Bool
  early_end b = nat_le (block_end disk.map b pair.early.begin) pair.early.end

  passes-early : (b : Block) → IsBlockOn disk.map b → in_early b.sweep ≡ early_end b
  passes-early b fits = passes-as disk sides.turning b are.turning fits pair.early (are.from ∙ ap (λ (d : Dwell). d.begin) (sym p))

  passes-late : (b : Block) → IsBlockOn disk.map b → in_late b.sweep ≡ nat_le (block_end disk.map b pair.late.begin) pair.late.end
  passes-late b fits = passes-as disk late b turns fits pair.late from

  by-either : (e : Entry) → IsBlockOn disk.map e.block → same_track pair.early.track e.block.track ≡ true
      → same_track pair.late.track e.block.track ≡ true
      → adds (λ b. in_early b.sweep || in_late b.sweep) e ≡ gain_by disk pair.early pair.late e
  by-either e fits y z =
      ap (λ x. adds (λ b. x || in_late e.block.sweep) e) (passes-early e.block fits)
      ∙ (ap (λ x. adds (λ b. early_end e.block || x) e) (passes-late e.block fits) ∙ rw (y, z) refl)

  by-early : (e : Entry) → IsBlockOn disk.map e.block → same_track pair.early.track e.block.track ≡ true
      → same_track pair.late.track e.block.track ≡ false → adds (λ b. in_early b.sweep) e ≡ gain_by disk pair.early pair.late e
  by-early e fits y z =
      ap (λ x. adds (λ b. x) e) (passes-early e.block fits)
      ∙ elim (cases_Bool (early_end e.block)) [ inl t ↦ rw (y, z, t) refl | inr n ↦ rw (y, z, n) refl ]

  by-late : (e : Entry) → IsBlockOn disk.map e.block → same_track pair.early.track e.block.track ≡ false
      → same_track pair.late.track e.block.track ≡ true → adds (λ b. in_late b.sweep) e ≡ gain_by disk pair.early pair.late e
  by-late e fits y z = ap (λ x. adds (λ b. x) e) (passes-late e.block fits) ∙ rw (y, z) refl

  target-is : pair.late.track ≡ gap.target
  target-is = ap (λ (d : Dwell). d.track) q ∙ its-target disk gap plan

  on-early : (i : ℕ) (e : Entry) → slice_get sides.early i ≡ Some e → same_track pair.early.track e.block.track ≡ true
  on-early i e at =
      let track = (early_dwell disk gap plan).track in
      let listed = filter_from (λ (x : Entry). same_track track x.block.track) es i e (ap (λ l. slice_get l i) (sym are.early) ∙ at) in
      subst (λ (d : Dwell). same_track d.track e.block.track ≡ true) (sym p) listed.2

  on-late : (i : ℕ) (e : Entry) → slice_get sides.late i ≡ Some e → same_track pair.late.track e.block.track ≡ true
  on-late i e at =
      let here = ap (λ l. slice_get l i) (sym are.late) ∙ at in
      let listed = filter_from (λ (x : Entry). same_track gap.target x.block.track) es i e here in
      subst (λ t. same_track t e.block.track ≡ true) (sym target-is) listed.2

  module _ (on : AreOnDisk disk sides.early) (offers : List Offer) (offered : AreOffers offers sides.early) where
    -- where the early dwell is on the target, both catch there
    pub value-in-either : (sum : ℕ) → same_track pair.early.track gap.target ≡ true
        → sum ≡ sum_by (added (λ sweep. in_early sweep || in_late sweep)) offers → sum ≡ value disk gap (wanted_of es) plan
    value-in-either sum one is =
        let at_late : same_track pair.early.track pair.late.track ≡ true =
        subst (λ t. same_track pair.early.track t ≡ true) (sym target-is) one in
        value-by-one disk gap plan es pair.early pair.late p q sides.early sum are.early one
        (is ∙ (sum-offered offers sides.early offered (λ sweep. in_early sweep || in_late sweep)
        ∙ sum-agree (adds (λ b. in_early b.sweep || in_late b.sweep)) (gain_by disk pair.early pair.late) sides.early (λ i e at.
        by-either e (on i e at) (on-early i e at) (onto pair.early.track pair.late.track e.block.track at_late (on-early i e at)))))

    -- else each dwell catches on its own track
    pub value-of-both : AreOnDisk disk sides.late → (others : List Offer) → AreOffers others sides.late
        → (sum other : ℕ) → same_track pair.early.track gap.target ≡ false → sum ≡ sum_by (added in_early) offers
        → other ≡ sum_by (added in_late) others → sum + other ≡ value disk gap (wanted_of es) plan
    value-of-both on' others offered' sum other two is is' =
        let apart : same_track pair.early.track pair.late.track ≡ false =
        subst (λ t. same_track pair.early.track t ≡ false) (sym target-is) two in
        let apart-on = λ (x : Track). not_onto pair.early.track pair.late.track x apart in
        let apart-from = λ (x : Track). not_from pair.early.track pair.late.track x apart in
        let gain = gain_by disk pair.early pair.late in
        value-by-two disk gap plan es pair.early pair.late p q sides.early sides.late sum other are.early are.late two
        (is ∙ (sum-offered offers sides.early offered in_early ∙ sum-agree (adds (λ b. in_early b.sweep)) gain sides.early
        (λ i e at. by-early e (on i e at) (on-early i e at) (apart-on e.block.track (on-early i e at)))))
        (is' ∙ (sum-offered others sides.late offered' in_late ∙ sum-agree (adds (λ b. in_late b.sweep)) gain sides.late
        (λ i e at. by-late e (on' i e at) (apart-from e.block.track (on-late i e at)) (on-late i e at))))
