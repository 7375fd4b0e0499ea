use Rattle.fb_detour.proofs.Words.{ap, arith, sym, ◌*◌, ◌-◌, ◌/◌, ◌<◌, ◌∙◌, ◌≡◌, div-mul-le_self, Shape, next-le, end_of}
use Rattle.fb_detour.proofs.Rounds.{last_instant}
use Rattle.fb_detour.proofs.parts.last_catch.Goals as goal

pub returns-then-gap-end-clause-none : goal.returns-then-gap-end-clause-none
returns-then-gap-end-clause-none c = λ from after.
    let rotation = c.args.turning.now.rotation in
    let sweep = c.args.sweep in
    let now = c.args.gap.now.now in
    let first : c.end-end.result ≡ end_of rotation sweep now = c.end-end.ensures.value ∙ ap (end_of rotation sweep) c.requires.from in
    let later = next-le rotation sweep.begin now from (omega (arith, c.requires.in_turn.begin)) after in
    omega (arith, first, later, c.if-gap-end.true)

pub returns-clause-some : goal.returns-clause-some
returns-clause-some c = λ from after caught.
    let rotation = c.args.turning.now.rotation in
    let sweep = c.args.sweep in
    let gap = c.args.gap.now in
    let end = c.end-end.result in
    let first : end ≡ end_of rotation sweep gap.now = c.end-end.ensures.value ∙ ap (end_of rotation sweep) c.requires.from in
    let some : 0 < rotation = omega (arith, c.requires.in_turn.begin) in
    let last = last_instant rotation sweep some gap.now from end gap.deadline first (omega (arith, c.if-gap-end.false)) caught in
    omega (
      arith,
      last,
      first,
      ap (λ r. (gap.deadline - end) / r * r)
          (c.rotation-rotation.ensures.value ∙ (ap (λ (d : Shape). d.rotation) c.geometry.ensures ∙ sym c.requires.turning.rotation)),
    )

pub returns-clause-within : goal.returns-clause-within
returns-clause-within c =
    let r = c.rotation-rotation.result in
    omega (
      arith,
      div-mul-le_self (c.args.gap.now.deadline - c.end-end.result) r,
      c.if-gap-end.false,
      c.end-end.ensures.value,
      c.requires.from,
    )
