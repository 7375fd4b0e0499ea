-- Instants at which slots begin to pass.
use Rattle.fb_service.proofs.Words.{◌≡◌, ℕ, ◌+◌, ◌-◌, ◌<◌, ◌≤◌, ◌%◌, ap, ◌∙◌, arith, wait, wait_least, least_unique, least_of, Place}
use Rattle.fb_service.proofs.Words.{Shape, begin_from, begin_angle, end_angle, place_at, passage_from}

pub begins_at : (shape : Shape) (place : Place) (t waited : ℕ) → waited ≡ wait shape.rotation (begin_angle shape place) t
    → t + waited ≡ begin_from shape place t
unfolding begin_from
begins_at shape place t waited e = ap (λ w. t + w) e

-- a slot that begins at u is the next one from t on, if t is less than a rotation before
pub stays : (shape : Shape) (place : Place) (t u : ℕ) → begin_angle shape place < shape.rotation → u ≡ begin_from shape place u → t ≤ u
    → u < t + shape.rotation → begin_from shape place t ≡ u
unfolding begin_from
stays shape place t u h e le near =
    let none : wait shape.rotation (begin_angle shape place) u ≡ 0 = omega arith in
    let reached : (u + 0) % shape.rotation ≡ begin_angle shape place =
    rw none at (wait_least shape.rotation (begin_angle shape place) u h).reaches in
    let here : (t + (u - t)) % shape.rotation ≡ begin_angle shape place = ap (λ x. x % shape.rotation) (omega arith) ∙ reached in
    let same = least_unique shape.rotation (begin_angle shape place) t (wait shape.rotation (begin_angle shape place) t) (u - t)
    (wait_least shape.rotation (begin_angle shape place) t h)
    (least_of shape.rotation (begin_angle shape place) t (u - t) (omega arith) here) in
    omega (arith, same)

-- the first beginning from t on is also the first from that beginning on
pub begin_from_again : (shape : Shape) (place : Place) (t : ℕ) → begin_angle shape place < shape.rotation
    → begin_from shape place t ≡ begin_from shape place (begin_from shape place t)
unfolding begin_from
begin_from_again shape place t h =
    let w = wait shape.rotation (begin_angle shape place) t in
    let now = wait_least shape.rotation (begin_angle shape place) (t + w) h in
    let before = wait_least shape.rotation (begin_angle shape place) t h in
    let none : wait shape.rotation (begin_angle shape place) (t + w) ≤ 0 =
    now.least 0 (ap (λ x. x % shape.rotation) (omega arith) ∙ before.reaches) in
    omega arith

-- a passage that begins at u is the first one from t on, if t is less than a rotation before u
pub same_passage : (shape : Shape) (lbn t u : ℕ) → begin_angle shape (place_at shape lbn) < shape.rotation
    → u ≡ begin_from shape (place_at shape lbn) u → t ≤ u → u < t + shape.rotation
    → passage_from shape lbn t ≡ passage_from shape lbn u
same_passage shape lbn t u h e le near =
    ap (λ b. record { lbn = lbn; begin = b; end = b + (end_angle shape (place_at shape lbn) - begin_angle shape (place_at shape lbn)) })
    (stays shape (place_at shape lbn) t u h e le near ∙ e)
