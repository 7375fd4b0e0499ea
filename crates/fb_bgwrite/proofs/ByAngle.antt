-- Spots by angle: they offer what the pending blocks do, and those on one side of the platter's angle pass in turn.
use Rattle.fb_units.proofs.Waits.{least_of, least_unique, reaches_ahead, reaches_over, wait_least}
use Rattle.fb_units.specs.Wait.{wait}
use Rattle.fb_plan.specs.Turns.{begin_of, AreInTurn, IsInTurn, Stands}
use Rattle.fb_bgwrite.specs.ByAngle.{as_offers, over_spots, AreByAngle, AreSpots, HasWritten, IsLastOf}
use Rattle.fb_bgwrite.specs.ByAngle.{IsWrittenFrom, PassInTurn}
use Rattle.fb_bgwrite.specs.declared.spots.Spot.{Spot}
use Rattle.std.specs.Prelude.{◌%◌}
use Rattle.fb_bgwrite.proofs.Words.{◌≡◌, ℕ, zero, suc, ◌+◌, ◌-◌, ◌<◌, ◌≤◌, ◌∙◌, ◌∷◌, List, [], Some, slice_get, get_or, length, take}
use Rattle.fb_bgwrite.proofs.Words.{refl, sym, ap, arith, subst, false, sum_by, sum_by-cons, sum_by_more, length-map, slice_get-map}
use Rattle.fb_bgwrite.proofs.Words.{◌⊎◌, ◌*◌, ◌^◌, inl, inr, cases_lt, slice_get-get_or, slice_get_within, get_or_from_slice_get, nat_tests}
use Rattle.fb_bgwrite.proofs.Written.{all_last, others_late}
use Rattle.std.proofs.Math.Nat.{mod-lt}
use Rattle.fb_bgwrite.proofs.Words.{some_one, Sweep, Entry, Offer, AreOffers, Turning, added, end_of, passes_by, option_map}

-- ---- spots are offers

abbrev pub as_offer : Spot → Offer
as_offer spot = record { sweep = spot.sweep; worth = spot.worth; index = 0 }

over_as : (measure : Sweep → ℕ → ℕ) (spots : List Spot) → sum_by (λ (o : Offer). measure o.sweep o.worth) (as_offers spots)
    ≡ over_spots measure spots
over_as measure [] = refl
over_as measure (s ∷ ss) = omega (
  arith,
  sum_by-cons (λ (o : Offer). measure o.sweep o.worth) (as_offer s) (as_offers ss),
  sum_by-cons (λ (x : Spot). measure x.sweep x.worth) s ss,
  over_as measure ss,
)

pub spots_offer : (spots : List Spot) (entries : List Entry) → AreSpots spots entries → AreOffers (as_offers spots) entries
spots_offer spots entries are measure = over_as measure spots ∙ are.its measure

ones : {X : Type 0} (xs : List X) → sum_by (λ _. 1) xs ≡ length xs
ones [] = refl
ones (x ∷ xs) = omega (arith, sum_by-cons (λ _. 1) x xs, ones xs)

pub as_few : (spots : List Spot) (offers : List Offer) (entries : List Entry) → AreSpots spots entries → AreOffers offers entries
    → length spots ≡ length offers
as_few spots offers entries are its = omega (arith, ones spots, ones offers, are.its (λ sweep worth. 1), its (λ sweep worth. 1))

module _ (spots : List Spot) (n : ℕ) (spot : Spot) (at : slice_get spots n ≡ Some spot) where
  pub as_at : slice_get (as_offers spots) n ≡ Some (as_offer spot)
  as_at = slice_get-map as_offer spots n ∙ ap (option_map as_offer) at

  pub as_within : n < length (as_offers spots)
  as_within = omega (arith, slice_get_within spots n spot at, length-map spots as_offer)

  pub sum_step : (f : Offer → ℕ) → sum_by f (take (n + 1) (as_offers spots)) ≡ sum_by f (take n (as_offers spots)) + f (as_offer spot)
  sum_step f = sum_by_more f (as_offers spots) n (as_offer spot) as_within
      ∙ ap (λ o. sum_by f (take n (as_offers spots)) + f o)
      (get_or_from_slice_get (as_offers spots) n (as_offer spot) (as_offer spot) as_at)

pub swept_in : (rotation : ℕ) (spots : List Spot) (n : ℕ) (spot : Spot) → slice_get spots n ≡ Some spot
    → AreInTurn rotation (as_offers spots) → IsInTurn rotation spot.sweep
swept_in rotation spots n spot at all = subst (λ (o : Offer). IsInTurn rotation o.sweep)
    (get_or_from_slice_get (as_offers spots) n (as_offer spot) (as_offer spot) (as_at spots n spot at))
    (all n (as_offer spot) (as_within spots n spot at))

abbrev pub no_spot : Spot
no_spot = record { sweep = record { begin = 0; length = 0 }; worth = 0 }

-- spots that add nothing
pub none_added : (f : Offer → ℕ) (spots : List Spot) (n m : ℕ) → n + m ≤ length spots
    → ((k : ℕ) (spot : Spot) → n ≤ k → k < n + m → slice_get spots k ≡ Some spot → f (as_offer spot) ≡ 0)
    → sum_by f (take (n + m) (as_offers spots)) ≡ sum_by f (take n (as_offers spots))
none_added f spots n zero within none = ap (λ k. sum_by f (take k (as_offers spots))) (omega arith)
none_added f spots n (suc m) within none =
    let at = slice_get-get_or spots (n + m) no_spot (omega (arith, within)) in
    let own = none (n + m) (get_or spots (n + m) no_spot) (omega arith) (omega arith) at in
    let more = sum_step spots (n + m) (get_or spots (n + m) no_spot) at f in
    let next : n + suc m ≡ n + m + 1 = omega arith in
    let rest = none_added f spots n m (omega (arith, within)) (λ k spot low high. none k spot low (omega (arith, high))) in
    omega (arith, ap (λ k. sum_by f (take k (as_offers spots))) next, more, own, rest)

-- ---- those on one side pass in turn

wait_ahead : (r angle now : ℕ) → angle < r → now % r ≤ angle → wait r angle now ≡ angle - now % r
wait_ahead r angle now under ahead = least_unique r angle now _ _ (wait_least r angle now under)
    (least_of r angle now (angle - now % r) (omega (arith, under)) (reaches_ahead r now angle under ahead))

wait_over : (r angle now : ℕ) → angle < r → angle < now % r → now % r < r → wait r angle now ≡ r - now % r + angle
wait_over r angle now under over less = least_unique r angle now _ _ (wait_least r angle now under)
    (least_of r angle now (r - now % r + angle) (omega (arith, over, less)) (reaches_over r now angle under over))

module _ (turning : Turning) (stands : Stands turning) (spots : List Spot) (sweeps : AreInTurn turning.rotation (as_offers spots))
    (rises : AreByAngle spots) where
  under : (i : ℕ) (s : Spot) → slice_get spots i ≡ Some s → s.sweep.begin < turning.rotation
  under i s at = (swept_in turning.rotation spots i s at sweeps).begin

  no_less : (i j : ℕ) (a b : Spot) → i ≤ j → slice_get spots i ≡ Some a → slice_get spots j ≡ Some b → a.sweep.begin ≤ b.sweep.begin
  no_less i j a b le at_a at_b = omega (
    arith,
    rises i j a le (slice_get_within spots j b at_b),
    ap (λ (s : Spot). s.sweep.begin) (get_or_from_slice_get spots i a a at_a),
    ap (λ (s : Spot). s.sweep.begin) (get_or_from_slice_get spots j b a at_b),
  )

  pub ahead_in_turn : (from end : ℕ)
      → ((i : ℕ) (s : Spot) → slice_get spots i ≡ Some s → from ≤ i → turning.at ≤ s.sweep.begin) → PassInTurn turning spots from end
  ahead_in_turn from end ahead i j a b low le high at_a at_b = omega (
    arith,
    wait_ahead turning.rotation a.sweep.begin turning.from (under i a at_a) (omega (arith, stands.at, ahead i a at_a low)),
    wait_ahead turning.rotation b.sweep.begin turning.from (under j b at_b)
        (omega (arith, stands.at, ahead j b at_b (omega (arith, low, le)))),
    no_less i j a b le at_a at_b,
  )

  pub over_in_turn : (end : ℕ)
      → ((i : ℕ) (s : Spot) → slice_get spots i ≡ Some s → i < end → s.sweep.begin < turning.at) → PassInTurn turning spots 0 end
  over_in_turn end over i j a b low le high at_a at_b =
      let some : 0 < turning.rotation = omega (arith, under i a at_a) in
      let rest : turning.from % turning.rotation < turning.rotation = mod-lt turning.from some in
      omega (
        arith,
        wait_over turning.rotation a.sweep.begin turning.from (under i a at_a)
            (omega (arith, stands.at, over i a at_a (omega (arith, le, high)))) rest,
        wait_over turning.rotation b.sweep.begin turning.from (under j b at_b) (omega (arith, stands.at, over j b at_b high)) rest,
        no_less i j a b le at_a at_b,
      )

-- what begins too late ends too late
module _ (turning : Turning) (latest : ℕ) (spot : Spot) (late : latest < begin_of turning.rotation spot.sweep turning.from) where
  pub ends_late : latest < end_of turning.rotation spot.sweep turning.from
  ends_late = omega (arith, late)

  pub adds_none : added (passes_by turning latest) (as_offer spot) ≡ 0
  adds_none =
      let no' : passes_by turning latest spot.sweep ≡ false = grind (arith, nat_tests, ends_late) in
      rw no' refl

-- ---- the walk over the spots from one on up to an end

module _ (turning : Turning) (latest : ℕ) (spots : List Spot) (from end i sectors last : ℕ) where
  abbrev some_of : ℕ → ℕ
  some_of n = sum_by (added (passes_by turning latest)) (take n (as_offers spots))

  abbrev pub HasSum : Type 0
  HasSum = sectors + some_of from + some_of end ≡ some_of i + sum_by (added (passes_by turning latest)) (as_offers spots)

  abbrev pub HasLast : Type 0
  HasLast = IsLastOf turning latest (as_offers spots) (λ k. ((from ≤ k) × (k < i)) ⊎ (end ≤ k)) sectors last

  abbrev pub IsSmall : Type 0
  IsSmall = sectors + 2 ^ 32 * (end + from) ≤ 2 ^ 32 * (length spots + i)

  pub all_written : i ≡ end → HasSum → HasLast → IsSmall → IsWrittenFrom turning latest spots from sectors last
  all_written here sum is_last small = record {
    sum = omega (arith, sum, ap some_of here);
    is_last = others_late turning latest (as_offers spots) _ _ sectors last (λ k offer low at. inl (elim (cases_lt k end) [
      | inl inside ↦ inl (low, omega (arith, inside, here))
      | inr behind ↦ inr behind
    ])) is_last;
    small = omega (arith, small, here);
  }

  pub rest_late : i < end → HasSum → HasLast → IsSmall → some_of (i + (end - i)) ≡ some_of i
      → ((k : ℕ) (spot : Spot) → i ≤ k → k < end → slice_get spots k ≡ Some spot
      → latest < begin_of turning.rotation spot.sweep turning.from) → IsWrittenFrom turning latest spots from sectors last
  rest_late less sum is_last small rest late =
      let whole : i + (end - i) ≡ end = omega (arith, less) in
      record {
        sum = omega (arith, sum, rest, ap some_of whole);
        is_last = others_late turning latest (as_offers spots) _ _ sectors last (λ k offer low at. elim (cases_lt k i) [
          | inl before ↦ inl (inl (low, before))
          | inr after ↦ elim (cases_lt k end) [
            | inl inside ↦ inr (late_offer k offer after inside at late)
            | inr behind ↦ inl (inr behind)
          ]
        ]) is_last;
        small = omega (arith, small, less);
      }
    where
      late_offer : (k : ℕ) (offer : Offer) → i ≤ k → k < end → slice_get (as_offers spots) k ≡ Some offer
          → ((k : ℕ) (spot : Spot) → i ≤ k → k < end → slice_get spots k ≡ Some spot
          → latest < begin_of turning.rotation spot.sweep turning.from)
          → latest < end_of turning.rotation offer.sweep turning.from
      late_offer k offer after inside at late =
          let within : k < length spots = omega (arith, slice_get_within (as_offers spots) k offer at, length-map spots as_offer) in
          let spot = get_or spots k no_spot in
          let there = slice_get-get_or spots k no_spot within in
          let same : as_offer spot ≡ offer = some_one (as_offer spot) offer (sym (as_at spots k spot there) ∙ at) in
          let ends = ends_late turning latest spot (late k spot after inside there) in
          omega (arith, ends, ap (λ (o : Offer). end_of turning.rotation o.sweep turning.from) same)

-- what is written of all spots is written of the blocks
pub written_of : (turning : Turning) (latest : ℕ) (spots : List Spot) (entries : List Entry) (sectors last : ℕ) → AreSpots spots entries
    → IsWrittenFrom turning latest spots 0 sectors last → HasWritten turning latest entries sectors last
written_of turning latest spots entries sectors last are is = record {
  offers = as_offers spots;
  its = spots_offer spots entries are;
  sum = omega (arith, is.sum);
  is_last = all_last turning latest (as_offers spots) _ sectors last (λ i within. omega arith) is.is_last;
}
