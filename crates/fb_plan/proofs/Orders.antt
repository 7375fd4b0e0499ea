-- What a dwell catches is caught on its track.
use Rattle.fb_plan.proofs.Words.{◌≡◌, inl, inr, ℕ, ◌+◌, List, [], ◌∷◌, ◌++◌, true, false, Some, slice_get, filter, map, take, cond, nat_le}
use Rattle.fb_plan.proofs.Words.{refl, sym, ap, ◌∙◌, cases_Bool, append-nil, slice_get_within, Sweep, same_track, Disk, Block, Entry}
use Rattle.fb_plan.proofs.Words.{is_wanted, on_track, wanted_of, Dwell, IsBlockOn, catches, block_end, Turning, catch_of, caught_among}
use Rattle.fb_plan.proofs.Words.{passes_by, IsTurning}
use Rattle.std.proofs.lemmas.List.{map-append}
use Rattle.std.proofs.lemmas.List.Elements.{filter_more}
use Rattle.std.proofs.lemmas.Option.{get_or_from_slice_get}
use Rattle.fb_plan.proofs.Swept.{passes-as}

-- a dwell catches a block of its track whose sweep passes by its end
pub catches-by : (disk : Disk) (dwell : Dwell) (turning : Turning) (b : Block) (sweep : Sweep) → IsTurning disk turning
    → turning.from ≡ dwell.begin → IsBlockOn disk.map b → same_track dwell.track b.track ≡ true → sweep ≡ b.sweep
    → passes_by turning dwell.end sweep ≡ catches disk dwell b
catches-by disk dwell turning b sweep turns from fits on is =
    let all : catches disk dwell b ≡ nat_le (block_end disk.map b dwell.begin) dwell.end = rw on refl in
    ap (passes_by turning dwell.end) is ∙ (passes-as disk turning b turns fits dwell from ∙ sym all)

-- of one block more it is this catch more, or nothing more
module _ (disk : Disk) (dwell : Dwell) (bs : List Block) (i : ℕ) (b : Block) (at : slice_get bs i ≡ Some b) where
  one_more : caught_among disk dwell (take (i + 1) bs)
      ≡ caught_among disk dwell (take i bs) ++ map (catch_of disk dwell) (cond (catches disk dwell b) (b ∷ []) [])
  one_more =
      ap (map (catch_of disk dwell)) (filter_more (catches disk dwell) bs i b (slice_get_within bs i b at)
      ∙ ap (λ x. filter (catches disk dwell) (take i bs) ++ cond (catches disk dwell x) (x ∷ []) []) (get_or_from_slice_get bs i b b at))
      ∙ map-append (catch_of disk dwell) (filter (catches disk dwell) (take i bs)) (cond (catches disk dwell b) (b ∷ []) [])

  pub caught-more : catches disk dwell b ≡ true
      → caught_among disk dwell (take i bs) ++ catch_of disk dwell b ∷ [] ≡ caught_among disk dwell (take (i + 1) bs)
  caught-more yes' = sym (one_more ∙ rw yes' refl)

  pub caught-no-more : catches disk dwell b ≡ false → caught_among disk dwell (take i bs) ≡ caught_among disk dwell (take (i + 1) bs)
  caught-no-more no' = sym (one_more ∙ rw no' (append-nil (caught_among disk dwell (take i bs))))

pub on_its_track : (disk : Disk) (dwell : Dwell) (es : List Entry)
    → caught_among disk dwell (wanted_of (on_track dwell.track es)) ≡ caught_among disk dwell (wanted_of es)
on_its_track disk dwell [] = refl
on_its_track disk dwell (e ∷ es) = elim (cases_Bool (same_track dwell.track e.block.track)) [
  | inl on ↦ elim (cases_Bool (is_wanted e.state)) [
    | inl w ↦ elim (cases_Bool (catches disk dwell e.block)) [
      | inl y ↦ rw (on, w, y) (ap (λ cs. catch_of disk dwell e.block ∷ cs) (on_its_track disk dwell es))
      | inr n ↦ rw (on, w, n) (on_its_track disk dwell es)
    ]
    | inr n ↦ rw (on, n) (on_its_track disk dwell es)
  ]
  | inr off ↦
      let miss : catches disk dwell e.block ≡ false = rw off refl in
      elim (cases_Bool (is_wanted e.state)) [
        | inl w ↦ rw (off, w, miss) (on_its_track disk dwell es)
        | inr n ↦ rw (off, n) (on_its_track disk dwell es)
      ]
]
