-- Sectors of small disks, computed.
use Rattle.fb_sectormap.proofs.Words.{◌≡◌, ℕ, zero, suc, List, [], ◌∷◌, true, false, refl, ap, sym, ◌∙◌, Some, slice_get, ◌==◌, and_from}
use Rattle.fb_sectormap.proofs.Words.{eq-eqb, none-some, same_Some, Place, same_track, places, place_at, sweep_of, cutting}
use Rattle.std.specs.List.{list_any}
use Rattle.std.proofs.lemmas.Bool.{true≢false, or_parts}
use Rattle.fb_geometry.specs.Shape.{same_place}
use Rattle.fb_sectormap.specs.Worked.{slipping, place, SlipsOnTrack, HoldNothing, SlipsOnCylinder, CutBehindMoved}

pub slips_on_track : SlipsOnTrack
unfolding places
slips_on_track = (refl, refl)

pub slips_on_cylinder : SlipsOnCylinder
unfolding places
slips_on_cylinder = (refl, refl, refl)

pub cut_behind_moved : CutBehindMoved
unfolding places place_at cutting sweep_of
cut_behind_moved = (refl, refl, refl, refl, refl)

itself : (place : Place) → same_place place place ≡ true
itself place =
    and_from (same_track place.track place.track) (place.slot == place.slot)
    (and_from (place.track.cylinder == place.track.cylinder) (place.track.head == place.track.head)
    (eq-eqb place.track.cylinder place.track.cylinder refl) (eq-eqb place.track.head place.track.head refl))
    (eq-eqb place.slot place.slot refl)

-- a place that equals none of a list is nowhere in it
nowhere : (places : List Place) (place : Place) → list_any (same_place place) places ≡ false → (i : ℕ) → slice_get places i ≡ Some place → ⊥
nowhere [] place none i at = none-some place at
nowhere (other ∷ places) place none zero at =
    true≢false (sym (itself place) ∙ (ap (same_place place) (sym (same_Some other place at))
    ∙ (or_parts (same_place place other) (list_any (same_place place) places) none).0))
nowhere (other ∷ places) place none (suc i) at =
    nowhere places place (or_parts (same_place place other) (list_any (same_place place) places) none).1 i at

pub hold_nothing : HoldNothing
unfolding places
hold_nothing = (nowhere (places slipping) (place 0 0 3) refl, nowhere (places slipping) (place 0 0 11) refl)
