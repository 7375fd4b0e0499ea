-- A block passes as its sweep does.
use Rattle.fb_plan.proofs.Words.{◌≡◌, ℕ, ◌+◌, ◌*◌, ◌<◌, ◌≤◌, refl, ap, sym, ◌∙◌, subst, length, nat_le, arith, Shape, Disk, Block, Dwell}
use Rattle.fb_plan.proofs.Words.{IsBlockOn, block_begin, block_end, Turning, end_of, passes_by, IsInTurn, IsTurning}
use Rattle.std.proofs.Common.{◌-◌, ◌%◌}
use Rattle.std.proofs.Math.Nat.{mod-add-mod, mod-lt}
use Rattle.std.proofs.lemmas.Nat.{div_below, mul-le}
use Rattle.fb_units.specs.declared.types.Place.{Place}
use Rattle.fb_units.specs.Wait.{wait}
use Rattle.fb_units.proofs.Waits.{wait_least, wait-rest}
use Rattle.fb_geometry.specs.Angles.{slot_begin}
use Rattle.fb_geometry.specs.Places.{places}
use Rattle.fb_geometry.specs.Shape.{slots_at}
use Rattle.fb_geometry.specs.Sound.{IsSound}
use Rattle.fb_sectormap.specs.LookUp.{place_at}
use Rattle.fb_sectormap.specs.Sweeps.{begin_angle, end_angle, sweep_of}
use Rattle.fb_sectormap.proofs.ByCylinder.{has_place}
use Rattle.fb_service.specs.Passing.{begin_from}
use Rattle.fb_plan.specs.Turns.{begin_of}

-- the platter stands at the angle after the wait for it
turned-on : (r angle t : ℕ) → 0 < r → (t + wait r angle t) % r ≡ angle % r
turned-on r angle t some = ap (λ w. (t + w) % r) (sym (wait-rest r angle t)) ∙ (wait_least r (angle % r) t (mod-lt angle some)).reaches

one-on : (r angle t : ℕ) → 0 < r → (t + wait r angle t + 1) % r ≡ (angle + 1) % r
one-on r angle t some =
    sym (mod-add-mod (t + wait r angle t) r 1) ∙ (ap (λ x. (x + 1) % r) (turned-on r angle t some) ∙ mod-add-mod angle r 1)

-- a wait depends on the instant modulo the rotation alone
wait-on : (r end angle t : ℕ) → 0 < r → wait r end (t + wait r angle t + 1) ≡ wait r end (angle + 1)
wait-on r end angle t some = ap (λ x. (end + (r - x)) % r) (one-on r angle t some)

regroup : (a v w : ℕ) → v ≡ w → a + 1 + v ≡ a + (1 + w)
regroup a v w h = omega (arith, h)

begins-by : (disk : Shape) (block : Block) (t : ℕ)
    → block_begin disk block t ≡ begin_of disk.rotation (sweep_of disk block.lbn block.count) t
unfolding sweep_of begin_from
begins-by disk block t = refl

ends-by : (disk : Shape) (block : Block) (t : ℕ) → 0 < disk.rotation
    → block_end disk block t ≡ end_of disk.rotation (sweep_of disk block.lbn block.count) t
unfolding sweep_of begin_from
ends-by disk block t some =
    let begin = begin_angle disk (place_at disk block.lbn) in
    let end = end_angle disk (place_at disk (block.lbn + block.count - 1)) % disk.rotation in
    let first = t + wait disk.rotation begin t in
    regroup first (wait disk.rotation end (first + 1)) (wait disk.rotation end (begin + 1)) (wait-on disk.rotation end begin t some)

pub begin-by-sweep : (disk : Disk) (block : Block) (t : ℕ) → IsBlockOn disk.map block
    → block_begin disk.map block t ≡ begin_of disk.map.rotation block.sweep t
begin-by-sweep disk block t fits = begins-by disk.map block t ∙ ap (λ s. begin_of disk.map.rotation s t) (sym fits.sweep)

pub end-by-sweep : (disk : Disk) (block : Block) (t : ℕ) → IsBlockOn disk.map block
    → block_end disk.map block t ≡ end_of disk.map.rotation block.sweep t
end-by-sweep disk block t fits = ends-by disk.map block t disk.some_rotation ∙ ap (λ s. end_of disk.map.rotation s t) (sym fits.sweep)

-- a slot of a turn begins in the rotation
below-turn : (r n slot : ℕ) → 0 < r → slot < n → slot_begin r n slot < r
below-turn r n slot some h =
    let most : (slot + 1) * r ≤ n * r = mul-le (slot + 1) r n r (omega arith) (omega arith) in
    div_below (slot * r) n r (omega arith) (grind (arith, most, some))

slot-below : (disk : Shape) (lbn : ℕ) → IsSound disk → lbn < length (places disk)
    → (place_at disk lbn).slot < slots_at disk.zones (place_at disk lbn).track.cylinder
slot-below disk lbn sound h =
    let has = has_place disk sound lbn h in
    let own = subst (λ c. has.place.slot < slots_at disk.zones c) (sym has.lies.cylinder_is) has.lies.slot in
    subst (λ (p : Place). p.slot < slots_at disk.zones p.track.cylinder) (sym has.placed_at) own

swept-in-turn : (disk : Shape) (lbn count : ℕ) → 0 < disk.rotation
    → (place_at disk lbn).slot < slots_at disk.zones (place_at disk lbn).track.cylinder → IsInTurn disk.rotation (sweep_of disk lbn count)
unfolding sweep_of
swept-in-turn disk lbn count some below =
    let end = end_angle disk (place_at disk (lbn + count - 1)) % disk.rotation in
    let begin = begin_angle disk (place_at disk lbn) in
    record {
      begin = below-turn disk.rotation (slots_at disk.zones (place_at disk lbn).track.cylinder) (place_at disk lbn).slot some below;
      length = omega (arith, mod-lt (end + (disk.rotation - (begin + 1) % disk.rotation)) some);
    }

pub in-turn-of : (disk : Disk) (block : Block) → IsSound disk.map → IsBlockOn disk.map block → IsInTurn disk.map.rotation block.sweep
in-turn-of disk block sound fits =
    let below = slot-below disk.map block.lbn sound (omega (arith, fits.some, fits.on_disk)) in
    subst (IsInTurn disk.map.rotation) (sym fits.sweep) (swept-in-turn disk.map block.lbn block.count disk.some_rotation below)

-- the same by a turning of the disk
module _ (disk : Disk) (turning : Turning) (block : Block) (h : IsTurning disk turning) (fits : IsBlockOn disk.map block) where
  pub turning-in : IsInTurn turning.rotation block.sweep
  turning-in = subst (λ r. IsInTurn r block.sweep) (sym h.rotation) (in-turn-of disk block h.sound fits)

  pub turning-begin : begin_of turning.rotation block.sweep turning.from ≡ block_begin disk.map block turning.from
  turning-begin = ap (λ r. begin_of r block.sweep turning.from) h.rotation ∙ sym (begin-by-sweep disk block turning.from fits)

  pub turning-end : end_of turning.rotation block.sweep turning.from ≡ block_end disk.map block turning.from
  turning-end = ap (λ r. end_of r block.sweep turning.from) h.rotation ∙ sym (end-by-sweep disk block turning.from fits)

  -- it passes in a dwell as its sweep does
  pub passes-as : (dwell : Dwell) → turning.from ≡ dwell.begin
      → passes_by turning dwell.end block.sweep ≡ nat_le (block_end disk.map block dwell.begin) dwell.end
  passes-as dwell from = ap (λ x. nat_le x dwell.end) (turning-end ∙ ap (block_end disk.map block) from)
