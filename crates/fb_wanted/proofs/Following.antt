-- The next track with a block in the look-up.
use Rattle.fb_wanted.proofs.Words.{◌≡◌, ℕ, ◌<◌, ◌≤◌, inl, inr, List, [], length, get_or, refl, sym, arith, subst, cases_lt, Track, OnTrack}
use Rattle.fb_wanted.proofs.Words.{no_block_on, track_at, IsNextTrack, NoneIsBetween}
use Rattle.fb_wanted.specs.Tracks.{IsNotAfter}
use Rattle.fb_wanted.specs.LookUp.{first_track, IsNextHead}

-- the first track of a cylinder doesn't come after those on this cylinder and on later ones
from_cylinder : (start : ℕ) (t : Track) → start ≤ t.cylinder → IsNotAfter (first_track start) t
from_cylinder start t le = elim (cases_lt start t.cylinder) [
  | inl less ↦ inl less
  | inr most ↦ inr (omega (arith, le, most), omega arith)
]

cylinder_from : (start : ℕ) (t : Track) → IsNotAfter (first_track start) t → start ≤ t.cylinder
cylinder_from start t (inl less) = omega (arith, less)
cylinder_from start t (inr same) = omega (arith, same.0)

module _ (tracks : List (List OnTrack)) where
  on_cylinder : (cylinder : ℕ) (t : Track) → t.cylinder ≡ cylinder → 0 < length (track_at tracks t).indexes
      → 0 < length (get_or (get_or tracks cylinder []) t.head no_block_on).indexes
  on_cylinder cylinder t same has = subst (λ c. 0 < length (get_or (get_or tracks c []) t.head no_block_on).indexes) same has

  -- the next head of a cylinder before which no cylinder has a block
  pub next_on_cylinder : (start cylinder head : ℕ) → start ≤ cylinder → NoneIsBetween tracks start cylinder
      → IsNextHead (get_or tracks cylinder []) 0 head
      → IsNextTrack tracks (first_track start) (record { cylinder = cylinder; head = head })
  next_on_cylinder start cylinder head le none next = record {
    some = next.some;
    since = from_cylinder start (record { cylinder = cylinder; head = head }) le;
    least = λ t has since. elim (cases_lt cylinder t.cylinder) [
      | inl less ↦ inl less
      | inr most ↦
          let same : t.cylinder ≡ cylinder = omega (arith, none t has (cylinder_from start t since), most) in
          inr (sym same, next.least t.head (on_cylinder cylinder t same has) (omega arith))
    ];
  }

  -- the next head of a track's cylinder
  pub next_here : (from : Track) (head : ℕ) → IsNextHead (get_or tracks from.cylinder []) from.head head
      → IsNextTrack tracks from (record { cylinder = from.cylinder; head = head })
  next_here from head next = record {
    some = next.some;
    since = inr (refl, next.since);
    least = λ t has since. elim since [
      | inl less ↦ inl less
      | inr same ↦ inr (same.0, next.least t.head (on_cylinder from.cylinder t (sym same.0) has) same.1)
    ];
  }
