-- The leaves that are worth a try, and the tracks of a disk, one by one.
use Rattle.fb_model.proofs.Words.{◌≡◌, ℕ, suc, ◌+◌, ◌≤◌, List, ◌∷◌, Bool, true, Some, map, ap, subst, sym, ◌∙◌, arith, inl, inr, nat_le}
use Rattle.fb_model.proofs.Words.{AllByRecursion, range_with_len, nat_tests, all_any, all_both, all_flat, all_map, all_pass, all_unmapped}
use Rattle.fb_model.proofs.Words.{flat_all, all_filter, all_range, all_weaker, same_fields, Track, same_track, Shape, IsTrackOf}
use Rattle.fb_model.proofs.Words.{cylinders_of, pos, Disk, Block, Gap, block_end, tracks_of, leaves}
use Rattle.std.proofs.Common.{filter}
use Rattle.fb_units.proofs.Filtered.{filter_to}
use Rattle.fb_units.proofs.Lists.{all_get, map_at}
use Rattle.fb_units.proofs.Parts.{get_range}
use Rattle.fb_model.proofs.Ends.{end-from-le}
use Rattle.fb_model.proofs.Leaves.{StandsFor}

-- ---- leaves

module _ (disk : Disk) (gap : Gap) (wanted : List Block) (track : Track) (come : ℕ) where
  abbrev pub InTime : ℕ → Type 0
  InTime leave = (come ≤ leave) × (leave + pos disk.mechanism track gap.target gap.write ≤ gap.deadline)

  abbrev test : ℕ → Bool
  test leave = nat_le (leave + pos disk.mechanism track gap.target gap.write) gap.deadline

  abbrev is_here : Block → Bool
  is_here block = same_track track block.track

  abbrev end_here : Block → ℕ
  end_here block = block_end disk.map block come

  abbrev tried : List ℕ
  tried = come ∷ map end_here (filter is_here wanted)

  later : AllByRecursion (λ leave. come ≤ leave) tried
  later = (
    omega arith,
    all_map (λ leave. come ≤ leave) end_here (filter is_here wanted)
        (all_any _ (λ block. end-from-le disk.map block come) (filter is_here wanted)),
  )

  -- the head is there before it leaves, and on the target by the deadline
  pub leaves_in_time : AllByRecursion InTime (leaves disk gap wanted track come)
  leaves_in_time = all_weaker (λ leave. (come ≤ leave) × (test leave ≡ true)) InTime
      (λ leave h. (
        h.0,
        (let by : leave + pos disk.mechanism track gap.target gap.write ≤ gap.deadline
            = let k = h.1 in grind (arith, nat_tests) in by),
      )) (filter test tried)
      (all_both _ _ (filter test tried) (all_filter (λ leave. come ≤ leave) test tried later) (all_pass test tried))

  -- what holds of each holds of the one that stands for a leave
  pub of_leaves : (P : ℕ → Type 0) (u v : ℕ) → AllByRecursion P (leaves disk gap wanted track come) → StandsFor disk track come u wanted v
      → v + pos disk.mechanism track gap.target gap.write ≤ gap.deadline → P v
  of_leaves P u v each stands in_time =
      let passes : test v ≡ true = grind (arith, nat_tests) in
      elim stands.tried [
        | inl first ↦
            let at = filter_to test tried 0 v (ap Some (sym first)) passes in
            all_get P (filter test tried) at.0 v each at.1
        | inr one ↦
            let kept = filter_to is_here wanted one.0 one.1 one.2 one.3 in
            let there = map_at end_here (filter is_here wanted) kept.0 one.1 kept.1 in
            let at = filter_to test tried (suc kept.0) v (there ∙ ap Some (sym one.4)) passes in
            all_get P (filter test tried) at.0 v each at.1
      ]

-- ---- tracks

abbrev track_on : ℕ → ℕ → Track
track_on cylinder head = record { cylinder = cylinder; head = head }

module _ (disk : Shape) where
  abbrev heads_on : ℕ → List Track
  heads_on cylinder = map (track_on cylinder) (range_with_len 0 disk.heads)

  pub tracks_on : AllByRecursion (IsTrackOf disk) (tracks_of disk)
  tracks_on = flat_all (IsTrackOf disk) heads_on (range_with_len 0 (cylinders_of disk.zones))
      (all_range (λ cylinder. AllByRecursion (IsTrackOf disk) (heads_on cylinder)) 0 (cylinders_of disk.zones)
      (λ cylinder from below. all_map (IsTrackOf disk) (track_on cylinder) (range_with_len 0 disk.heads)
      (all_range (λ head. IsTrackOf disk (track_on cylinder head)) 0 disk.heads
      (λ head from less. record { cylinder = omega arith; head = omega arith }))))

  -- what holds of each holds of any track of the disk
  pub of_tracks : (P : Track → Type 0) → AllByRecursion P (tracks_of disk) → (track : Track) → IsTrackOf disk track → P track
  of_tracks P each track on =
      let cylinders = all_flat P heads_on (range_with_len 0 (cylinders_of disk.zones)) each in
      let here = all_get (λ cylinder. AllByRecursion P (heads_on cylinder)) (range_with_len 0 (cylinders_of disk.zones)) track.cylinder
      (0 + track.cylinder) cylinders (get_range 0 (cylinders_of disk.zones) track.cylinder on.cylinder) in
      let heads = all_unmapped P (track_on (0 + track.cylinder)) (range_with_len 0 disk.heads) here in
      let there = all_get (λ head. P (track_on (0 + track.cylinder) head)) (range_with_len 0 disk.heads) track.head
      (0 + track.head) heads (get_range 0 disk.heads track.head on.head) in
      subst P (same_fields (track_on (0 + track.cylinder) (0 + track.head)) track (omega arith) (omega arith)) there
