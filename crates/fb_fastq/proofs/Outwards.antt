-- A walk over the rows that have requests, from the head's cylinder outwards.
use Rattle.fb_fastq.proofs.Words.{◌≡◌, ℕ, ◌<◌, ◌≤◌, List, [], refl, sym, ap, ◌∙◌, arith, true, inl, inr, Some, slice_get, length}
use Rattle.fb_fastq.proofs.Words.{list_any, IsStrictlySortedBy, nat_cmp, is_at, contains, BTreeSet, cases_Bool, cases_lt, nat_tests}
use Rattle.fb_fastq.proofs.Words.{Departure, Disk, seek, distance_of, Candidate, Pick, IsBefore, Row, AreOccupied, IsPick, IsArrival}
use Rattle.fb_fastq.proofs.Words.{IsAlong, AreRows, all_of_rows, AllByRecursion, RulesOutAll, subst, map-id, SeeksRise, Arrival}
use Rattle.fb_fastq.proofs.Words.{Side, Above, Below, IsOn, IsNoFarther, AreThose, cylinders_of, RulesOut, Among, any-among}
use Rattle.fb_fastq.proofs.{Keys.number_follows, Sweeps.no_later_trans, Swept.rises_sorted}
use Rattle.fb_fastq.proofs.InRows.{far_row, none_beyond, none_ruled_out, rules_out_all}
use Rattle.fb_fastq.proofs.Swept.{IsNext, IsSwept, Takes, next_nearest, next_out, swept_begins, swept_ends, swept_on, swept_stops}

-- what a set contains is among its numbers
is_among : (k : ℕ) (xs : List ℕ) → list_any (is_at (nat_cmp k)) xs ≡ true → Among xs k
is_among k xs e = let found = any-among (is_at (nat_cmp k)) xs e in
    let same = found.2 in subst (Among xs) (grind (arith, nat_tests, same)) found.1

module _ (disk : Disk) (from : Departure) (rows : List Row) (old : Pick) (side : Side) where
  -- of the disk's cylinders on one side all rows but those that are left are seen
  pub record IsOutwards (pick : Pick) (left : List ℕ) : Type 0 where
    pub picks : (limit : Candidate) → IsPick disk from.track from.instant rows limit old
        → IsPick disk from.track from.instant rows limit pick
    pub before : IsBefore pick.best old.best
    pub swept : IsSwept (λ i. i) (λ i. IsOn side from.track.cylinder i × (i < cylinders_of disk.map.zones)) (λ i.
        (row : Row) → slice_get rows i ≡ Some row → RulesOutAll disk from.track from.instant pick.best row.items) left

  pub outwards_begins : (occupied : BTreeSet ℕ) (left : List ℕ) → AreOccupied occupied rows → IsStrictlySortedBy nat_cmp occupied.keys
      → AreThose (λ i. IsOn side from.track.cylinder i × (i < cylinders_of disk.map.zones)) occupied.keys left → IsOutwards old left
  outwards_begins occupied left are sorted those = record {
    picks = λ limit own. own;
    before = inr (refl, omega arith);
    swept = swept_begins (λ i. i) occupied.keys left
        (rises_sorted (λ i. i) nat_cmp (λ i. i) number_follows occupied.keys
        (subst (IsStrictlySortedBy nat_cmp) (sym (map-id occupied.keys)) sorted)) those
        (λ k e on. on)
        (λ k on. elim (cases_Bool (contains nat_cmp occupied k)) [
          | inl has ↦ inr (is_among k occupied.keys has, on)
          | inr without ↦ inl (λ row there. none_ruled_out disk from.track from.instant old.best row.items
              (elim (cases_lt 0 (length row.items)) [
                | inl some ↦ absurd (let has = are k row there some in grind (arith, has, without))
                | inr none ↦ omega (arith, none)
              ]))
        ]);
  }

-- outwards from the head, a cylinder that is farther out is no nearer
no_nearer : (side : Side) (head x k : ℕ) → IsOn side head x → IsNoFarther side x k → distance_of head x ≤ distance_of head k
no_nearer Above head x k on farther = omega (arith, on, farther)
no_nearer Below head x k on farther = omega (arith, on, farther)

module _ {disk : Disk} {from : Departure} {rows : List Row} {old pick : Pick} {side : Side} {left : List ℕ}
    (walk : IsOutwards disk from rows old side pick left)
    (own : AreRows 0 rows) (spots : AllByRecursion (λ w. IsAlong disk w.1 w.0.0) (all_of_rows rows)) where
  -- beyond the disk none waits
  on_whole_side : ((i : ℕ) → IsOn side from.track.cylinder i × (i < cylinders_of disk.map.zones)
      → (row : Row) → slice_get rows i ≡ Some row → RulesOutAll disk from.track from.instant pick.best row.items)
      → (i : ℕ) (row : Row) → slice_get rows i ≡ Some row → IsOn side from.track.cylinder i
      → RulesOutAll disk from.track from.instant pick.best row.items
  on_whole_side ruled_out i row there on = elim (cases_lt i (cylinders_of disk.map.zones)) [
    | inl within ↦ ruled_out i (on, within) row there
    | inr past ↦ none_beyond disk rows own spots i row there (RulesOut disk from.track from.instant pick.best) past
  ]

  pub outwards_ends : left ≡ [] → (i : ℕ) (row : Row) → slice_get rows i ≡ Some row → IsOn side from.track.cylinder i
      → RulesOutAll disk from.track from.instant pick.best row.items
  outwards_ends none = on_whole_side (swept_ends (λ i. i) walk.swept none)

  module _ (x : ℕ) (rest : List ℕ) (takes : Takes side left x rest) where
    next : IsNext (λ i. i) x left rest
    next = next_out (λ i. i) side x left rest takes

    pub next_on_disk : x < cylinders_of disk.map.zones
    next_on_disk = (walk.swept.inside x next.there).1

    pub fewer_rows : length rest < length left
    fewer_rows = next.fewer

    -- the next row is seen
    pub outwards_goes_on : (new : Pick)
        → ((limit : Candidate) → IsPick disk from.track from.instant rows limit pick → IsPick disk from.track from.instant rows limit new)
        → IsBefore new.best pick.best
        → ((row : Row) → slice_get rows x ≡ Some row → RulesOutAll disk from.track from.instant new.best row.items)
        → IsOutwards disk from rows old side new rest
    outwards_goes_on new picks before least = record {
      picks = λ limit own. picks limit (walk.picks limit own);
      before = no_later_trans new.best.wait new.best.key.1 pick.best.wait pick.best.key.1 old.best.wait old.best.key.1 before walk.before;
      swept = swept_on (λ i. i) walk.swept x rest next
          (λ i ruled_out row there. rules_out_all disk from.track from.instant new.best pick.best row.items before (ruled_out row there))
          least;
    }

    -- where the arm alone takes longer to a cylinder, and no others are nearer
    pub outwards_stops : SeeksRise disk.mechanism → (arrival : Arrival) → IsArrival disk from arrival → arrival.cylinder ≡ x
        → pick.best.wait < arrival.seek
        → (i : ℕ) (row : Row) → slice_get rows i ≡ Some row → IsOn side from.track.cylinder i
        → RulesOutAll disk from.track from.instant pick.best row.items
    outwards_stops rise arrival is at longer =
        let seeks = is.seek_is ∙ ap (λ n. seek disk.mechanism (distance_of from.track.cylinder n)) at in
        on_whole_side (swept_stops (λ i. i) walk.swept (λ k has other here.
        far_row disk rows own spots k other here from.track from.instant (distance_of from.track.cylinder x) arrival.seek pick.best
        rise seeks is.short longer (no_nearer side from.track.cylinder x k (walk.swept.inside x next.there).0
        (next_nearest (λ i. i) side x left rest takes walk.swept.rise k has))))
