-- Neighbouring slots pass without a wait.
use Rattle.fb_service.proofs.Words.{◌≡◌, ℕ, zero, suc, ◌+◌, ◌<◌, ◌≤◌, ◌%◌, map, refl, ap, sym, ◌∙◌, subst, arith, range_with_len, Place}
use Rattle.fb_service.proofs.Words.{wait, wait_least, Shape, slots_at, slot_begin, place_at, Passage, Extent, begin_from, begin_angle}
use Rattle.fb_service.proofs.Words.{length_of, turned, ArePassing, passage_from, passages_of, FollowOn, IsUnbroken}
use Rattle.fb_sectormap.specs.LookUp.{neighbour}
use Rattle.fb_service.proofs.Turning.{begins-behind, as-long, in-turn, next-after, later-after}

-- a slot that begins to pass begins at its own angle
pub at_angle : (disk : Shape) (place : Place) (t : ℕ) → begin_angle disk place < disk.rotation
    → begin_from disk place t % disk.rotation ≡ begin_angle disk place
unfolding begin_from
at_angle disk place t h = (wait_least disk.rotation (begin_angle disk place) t h).reaches

pub waited : (disk : Shape) (place : Place) (t w : ℕ) → wait disk.rotation (begin_angle disk place) t ≡ w → begin_from disk place t ≡ t + w
unfolding begin_from
waited disk place t w e = ap (λ x. t + x) e

module _ (disk : Shape) (place : Place) (some : 0 < slots_at disk.zones place.track.cylinder)
    (short : slots_at disk.zones place.track.cylinder ≤ disk.rotation)
    (slot : place.slot < slots_at disk.zones place.track.cylinder) where
  abbrev slots : ℕ
  slots = slots_at disk.zones place.track.cylinder

  -- the i-th neighbour comes by when the platter has turned so far
  pub neighbour-begins : (t i : ℕ) → i < slots → t % disk.rotation ≡ begin_angle disk place
      → begin_from disk (neighbour disk place i) t ≡ t + turned disk place i
  neighbour-begins t i less here = waited disk (neighbour disk place i) t (turned disk place i)
      (begins-behind disk.rotation slots some short place.slot i t slot less here)

  pub turned-next : (i : ℕ) → i < slots → turned disk place i + length_of disk (neighbour disk place i) ≡ turned disk place (i + 1)
  turned-next i less = omega (
    arith,
    as-long disk.rotation slots some short place.slot i slot less,
    later-after disk.rotation slots some short place.slot i,
    next-after disk.rotation slots some short (place.slot + i),
    ap (slot_begin disk.rotation slots) (let one : place.slot + i + 1 ≡ place.slot + (i + 1) = omega arith in one),
  )

  pub neighbour-passage : (lbn t i : ℕ) → i < slots → t % disk.rotation ≡ begin_angle disk place
      → place_at disk lbn ≡ neighbour disk place i
      → passage_from disk lbn t ≡ record { lbn = lbn; begin = t + turned disk place i; end = t + turned disk place (i + 1) }
  neighbour-passage lbn t i less here at =
      ap (λ p. record { lbn = lbn; begin = begin_from disk p t; end = begin_from disk p t + length_of disk p }) at
      ∙ ap (λ b. record { lbn = lbn; begin = b; end = b + length_of disk (neighbour disk place i) }) (neighbour-begins t i less here)
      ∙ ap (λ e. record { lbn = lbn; begin = t + turned disk place i; end = e }) (let next = turned-next i less in
      let sum : t + turned disk place i + length_of disk (neighbour disk place i) ≡ t + turned disk place (i + 1) = omega arith in sum)

  module _ (lbn t count : ℕ) (few : count ≤ slots) (here : t % disk.rotation ≡ begin_angle disk place)
      (each : (i : ℕ) → i < count → place_at disk (lbn + i) ≡ neighbour disk place i) where
    pub follow-on : (i j : ℕ) → i + j ≡ count
        → FollowOn (t + turned disk place i) (map (λ x. passage_from disk (lbn + x) t) (range_with_len i j)) (t + turned disk place count)
    follow-on i zero e = ap (λ x. t + turned disk place x) (let same : i ≡ count = omega arith in same)
    follow-on i (suc j) e =
        let passage = neighbour-passage (lbn + i) t i (omega arith) here (each i (omega arith)) in (
          ap (λ (p : Passage). p.begin) passage,
          subst (λ x. FollowOn x (map (λ x. passage_from disk (lbn + x) t) (range_with_len (i + 1) j)) (t + turned disk place count))
              (sym (ap (λ (p : Passage). p.end) passage)) (follow-on (i + 1) j (omega arith)),
        )

    pub are-passing : ArePassing disk lbn count
    are-passing = record {
      angle = λ i less. subst (λ (p : Place). begin_angle disk p < disk.rotation) (sym (each i less))
          (in-turn disk.rotation slots some short ((place.slot + i) % slots) (let h : (place.slot + i) % slots < slots = omega arith in h));
      long = λ i less. subst (λ (p : Place). 0 < length_of disk p) (sym (each i less)) (let next = next-after disk.rotation slots some short
          ((place.slot + i) % slots) in let h : 0 < length_of disk (neighbour disk place i) = omega arith in h);
    }

    -- an extent of neighbouring slots, from the beginning of the first one on, is unbroken
    pub unbroken : 0 < count → (extent : Extent) → extent.track ≡ place.track → extent.first ≡ lbn → extent.count ≡ count → extent.begin ≡ t
        → extent.end ≡ t + turned disk place count → IsUnbroken disk extent
    unbroken many extent track first size begin end = record {
      some = omega arith;
      on_track = λ i less. ap (λ l. (place_at disk (l + i)).track) first ∙ (ap (λ (p : Place). p.track) (each i (omega arith)) ∙ sym track);
      without_wait =
          let whole : FollowOn t (map (λ x. passage_from disk (lbn + x) t) (range_with_len 0 count)) (t + turned disk place count) =
          subst (λ x. FollowOn x (map (λ x. passage_from disk (lbn + x) t) (range_with_len 0 count)) (t + turned disk place count))
          (let none : t + turned disk place 0 ≡ t =
          omega (arith, ap (slot_begin disk.rotation slots) (let same : place.slot + 0 ≡ place.slot = omega arith in same)) in none)
          (follow-on 0 count (omega arith)) in
          subst (λ x. FollowOn extent.begin (passages_of disk extent) x) (sym end)
          (subst (λ (e : Extent). FollowOn e.begin (passages_of disk e) (t + turned disk place count)) (let same : record {
            track = extent.track;
            first = lbn;
            count = count;
            begin = t;
            end = extent.end;
          } ≡ extent = rw (sym first, sym size, sym begin) refl in same) whole);
    }
