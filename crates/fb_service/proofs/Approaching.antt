-- The time until a slot begins to pass.
use Rattle.fb_service.proofs.Words.{◌≡◌, ℕ, ◌+◌, ◌-◌, ◌%◌, ◌<◌, ◌≤◌, ap, ◌∙◌, arith, wait, Place, wait_least, least_unique, least_of}
use Rattle.fb_service.proofs.Words.{Shape, begin_from, begin_angle}
use Rattle.std.proofs.Math.Nat.{mod-add-mod}
use Rattle.fb_units.proofs.Waits.{reaches_ahead, reaches_over}

-- a slot begins to pass after the way and the wait at the end of the way
pub passes_in : (shape : Shape) (place : Place) (instant way waited : ℕ)
    → waited ≡ wait shape.rotation (begin_angle shape place) (instant + way)
    → way + waited ≡ begin_from shape place (instant + way) - instant
unfolding begin_from
passes_in shape place instant way waited e = omega (arith, e)

-- the angle of the platter at the end of the way
pub angle_behind : (rotation instant angle way here : ℕ) → angle ≡ instant % rotation → here ≡ (angle + way) % rotation
    → here ≡ (instant + way) % rotation
angle_behind rotation instant angle way here e f = f ∙ (ap (λ a. (a + way) % rotation) e ∙ mod-add-mod instant rotation way)

-- the wait for a later angle of this turn, and for an earlier one of the next turn
pub waits_ahead : (rotation angle here now : ℕ) → angle < rotation → here ≤ angle → here ≡ now % rotation
    → angle - here ≡ wait rotation angle now
waits_ahead rotation angle here now h le e =
    let short : angle - now % rotation < rotation = omega arith in
    ap (λ x. angle - x) e ∙ least_unique rotation angle now (angle - now % rotation) (wait rotation angle now)
    (least_of rotation angle now (angle - now % rotation) short (reaches_ahead rotation now angle h (omega (arith, e))))
    (wait_least rotation angle now h)

pub waits_over : (rotation angle here now : ℕ) → angle < rotation → here < rotation → angle < here → here ≡ now % rotation
    → rotation - here + angle ≡ wait rotation angle now
waits_over rotation angle here now h below lt e =
    let short : rotation - now % rotation + angle < rotation = omega (arith, e) in
    ap (λ x. rotation - x + angle) e ∙ least_unique rotation angle now (rotation - now % rotation + angle) (wait rotation angle now)
    (least_of rotation angle now (rotation - now % rotation + angle) short (reaches_over rotation now angle h (omega (arith, e))))
    (wait_least rotation angle now h)
