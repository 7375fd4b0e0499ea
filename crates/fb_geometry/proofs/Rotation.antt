-- The angles of the slots of a track.
use Rattle.fb_geometry.proofs.Words.{CoverRotation, ap, arith, div-add-mod', div-mul-add, le-div, ℕ, ◌*◌, ◌+◌, ◌/◌, ◌<◌, ◌∙◌, ◌≡◌, ◌≤◌}

pub cover : (rotation n : ℕ) → 0 < n → n ≤ rotation → CoverRotation rotation n
cover rotation n some short = record {
  first = let none : 0 * rotation ≡ 0 * n + 0 = omega arith in ap (λ x. x / n) none ∙ div-mul-add 0 n 0 some;
  last = let whole : n * rotation ≡ rotation * n + 0 = omega arith in ap (λ x. x / n) whole ∙ div-mul-add rotation n 0 some;
  ascend = λ slot h.
      omega (arith, le-div (slot * rotation / n + 1) ((slot + 1) * rotation) n some (omega (arith, div-add-mod' (slot * rotation) n)));
}
