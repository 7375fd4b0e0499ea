-- Ranges of cylinders.
use Rattle.fb_seek.proofs.Far.{seek-pos}
use Rattle.fb_detour.proofs.Words.{Bool, arith, false, inl, inr, max, min, subst, sym, true, ℕ, ◌+◌, ◌-◌, ◌<◌, ◌==◌, ◌≡◌, ◌≤◌, cases_Bool}
use Rattle.fb_detour.proofs.Words.{nat_tests, same_track, Track, distance_of, seek, pos, Plan, Detour, IsTrackBefore, IsNoWorseThanTrack}
use Rattle.fb_detour.proofs.Words.{IsNoWorseThanTracks, IsNoWorseIn, distance_to, Search}
use Rattle.fb_seek.specs.Mechanics.{Mechanics}
use Rattle.fb_seek.specs.Rising.{SeeksRise}
use Rattle.fb_detour.proofs.Found.{through}

pub same_cylinder : (a b : Track) → same_track a b ≡ true → distance_of a.cylinder b.cylinder ≡ 0
same_cylinder a b h = grind (arith, nat_tests)

-- nor than the seek to the nearest cylinder of a range
module _ (arm : Mechanics) (rises : SeeksRise arm) (from end : ℕ) (track : Track) (low : from ≤ track.cylinder)
    (high : track.cylinder < end) where
  pub way-there : (source : Track) → seek arm (distance_to from end source.cylinder) ≤ pos arm source track false
  way-there source =
      let far = distance_of source.cylinder track.cylinder in
      let near = rises (distance_to from end source.cylinder) far (omega (arith, low, high)) in
      omega (arith, near, seek-pos arm source track false)

  -- nor to the target than that from the nearest cylinder, with the same head
  pub way-on : (target : Track) (nearest : ℕ) (write : Bool) → nearest ≡ min (max target.cylinder from) (end - 1)
      → pos arm (record { cylinder = nearest; head = target.head }) target write ≤ pos arm track target write
  unfolding pos
  way-on target nearest write is =
      let far = distance_of track.cylinder target.cylinder in
      let near = rises (distance_of nearest target.cylinder) far (omega (arith, low, high, is)) in
      elim (cases_Bool (same_track (record { cylinder = nearest; head = target.head }) target)) [
        | inl same ↦ rw same (omega arith)
        | inr other ↦
            let apart : (nearest ≡ target.cylinder) → ⊥ = λ e. absurd (grind (arith, nat_tests)) in
            let off : same_track track target ≡ false = grind (arith, nat_tests) in
            let head : (target.head == target.head) ≡ true = grind (arith, nat_tests) in
            rw (other, off, head) (omega (arith, near))
      ]

pub not_itself : (track : Track) → IsTrackBefore track track → ⊥
not_itself track before = elim before [ inl x ↦ absurd (omega arith) | inr x ↦ absurd (omega (arith, x.1)) ]

module _ (search : Search) where
  -- what a better plan is no worse than
  pub range-kept : (new old : Plan) (from end : ℕ) → IsNoWorseIn search new old → IsNoWorseThanTracks search old from end
      → IsNoWorseThanTracks search new from end
  range-kept new old from end keeps before track low high leave is =
      through search new old (Detour track leave) keeps (before track low high leave is)

  -- all heads of a cylinder
  pub cylinder-done : (best : Plan) (cylinder n : ℕ) → search.disk.now.map.heads ≤ n
      → ((head : ℕ) → head < n → IsNoWorseThanTrack search best (record { cylinder = cylinder; head = head }))
      → IsNoWorseThanTracks search best cylinder (cylinder + 1)
  cylinder-done best cylinder n all each track low high leave is =
      let here : track.cylinder ≡ cylinder = omega (arith, low, high) in
      subst (λ c. IsNoWorseThanTrack search best (record { cylinder = c; head = track.head })) (sym here)
      (each track.head (omega (arith, is.on_disk.head))) leave is
