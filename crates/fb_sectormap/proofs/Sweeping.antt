-- How far the platter turns from one angle until it next stands at another.
use Rattle.fb_sectormap.proofs.Words.{◌≡◌, ℕ, ◌+◌, ◌-◌, ◌*◌, ◌%◌, ◌<◌, ◌≤◌, ap, sym, ◌∙◌, arith, inl, inr, cases_lt}
use Rattle.fb_units.specs.Wait.{wait}
use Rattle.fb_units.proofs.Waits.{rest_is}

module _ (r from to : ℕ) (low : from < r) where
  turned-by : (angle q w : ℕ) → to % r ≡ angle → w < r → angle + (r - (from + 1) % r) ≡ q * r + w → 1 + wait r (to % r) (from + 1) ≡ 1 + w
  turned-by angle q w same short sum =
      ap (λ a. 1 + wait r a (from + 1)) same ∙ ap (λ n. 1 + n) (rest_is r q w (angle + (r - (from + 1) % r)) short sum)

  inside : from + 1 < r → (from + 1) % r ≡ from + 1
  inside early = rest_is r 0 (from + 1) (from + 1) early (omega arith)

  around : r ≤ from + 1 → (from + 1) % r ≡ 0
  around late = rest_is r 1 0 (from + 1) (omega arith) (omega arith)

  pub turned_ahead : from < to → to ≤ r → to - from ≡ 1 + wait r (to % r) (from + 1)
  turned_ahead less within = elim (cases_lt to r) [
    | inl here ↦
        let same : to % r ≡ to = rest_is r 0 to to here (omega arith) in
        let turned = turned-by to 1 (to - from - 1) same (omega arith) (omega (arith, inside (omega arith))) in
        let value : to - from ≡ 1 + (to - from - 1) = omega arith in
        value ∙ sym turned
    | inr whole ↦
        let none : to % r ≡ 0 = rest_is r 1 0 to (omega arith) (omega arith) in
        let value : to - from ≡ 1 + (r - from - 1) = omega arith in
        elim (cases_lt (from + 1) r) [
          | inl early ↦ value ∙ sym (turned-by 0 0 (r - from - 1) none (omega arith) (omega (arith, inside early)))
          | inr late ↦
              let one : to - from ≡ 1 + 0 = omega arith in
              one ∙ sym (turned-by 0 1 0 none (omega arith) (omega (arith, around late)))
        ]
  ]

  pub turned_over : to ≤ from → to + r - from ≡ 1 + wait r (to % r) (from + 1)
  turned_over before =
      let same : to % r ≡ to = rest_is r 0 to to (omega arith) (omega arith) in
      elim (cases_lt (from + 1) r) [
        | inl early ↦
            let value : to + r - from ≡ 1 + (to + (r - from - 1)) = omega arith in
            value ∙ sym (turned-by to 0 (to + (r - from - 1)) same (omega arith) (omega (arith, inside early)))
        | inr late ↦
            let value : to + r - from ≡ 1 + to = omega arith in
            value ∙ sym (turned-by to 1 to same (omega arith) (omega (arith, around late)))
      ]
