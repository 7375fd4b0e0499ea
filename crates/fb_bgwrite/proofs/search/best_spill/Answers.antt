use Rattle.fb_bgwrite.proofs.Words.{◌<◌, ◌≡◌, ◌≤◌, ◌⊎◌, ◌∙◌, ap, inl, inr, arith, cases_lt, Shape, cylinders_of, wanted_of, Spill, value}
use Rattle.fb_bgwrite.proofs.{Choices.beats_all, Choices.best_is, Lengths.none_outside}
use Rattle.fb_bgwrite.proofs.search.best_spill.Goals as goal

pub returns-then-from-end-clause-best : goal.returns-then-from-end-clause-best
returns-then-from-end-clause-best c = λ spill is.
    let gap = c.args.gap.now in
    let kept = c.trimmed-from in
    let cylinders = c.cylinders-cylinders.ensures.value ∙ ap (λ (d : Shape). cylinders_of d.zones) c.geometry.ensures in
    let outside : (spill.track.cylinder < kept.result.0) ⊎ (kept.result.1 ≤ spill.track.cylinder) =
    elim (cases_lt spill.track.cylinder kept.result.0) [
      | inl before ↦ inl before
      | inr after ↦ inr (omega (arith, after, c.if-from-end.true))
    ] in
    none_outside _ gap _ c.requires.blocks spill 2049 (value c.args.disk.now gap (wanted_of c.args.pending.now) spill) 0 kept.result.0
    kept.result.1 c.cylinders-cylinders.result kept.ensures.before kept.ensures.behind (omega arith)
    (omega (arith, is.on_disk.cylinder, cylinders)) outside (omega arith) (omega arith)

pub returns-clause-best : goal.returns-clause-best
returns-clause-best c =
    let disk = c.args.disk.now in
    let gap = c.args.gap.now in
    let wanted = wanted_of c.args.pending.now in
    let kept = c.trimmed-from in
    let last = c.cylinders-cylinders.result in
    let all = c.part_of-all in
    let best = c.visit in
    let cylinders = c.cylinders-cylinders.ensures.value ∙ ap (λ (d : Shape). cylinders_of d.zones) c.geometry.ensures in
    best_is disk gap wanted best.result best.ensures.valued (λ track low high.
    beats_all disk gap wanted best.result 0 last all.result best.ensures.valued (λ other from end outside leave is.
    let spill : Spill = record { track = other; leave = leave } in
    let none : value disk gap wanted spill ≡ 0 =
    none_outside disk gap _ c.requires.blocks spill 2049 (value disk gap wanted spill) 0 kept.result.0 kept.result.1 last
    kept.ensures.before kept.ensures.behind from end (elim outside [
      | inl before ↦ inl (omega (arith, before, all.ensures.from))
      | inr behind ↦ inr (omega (arith, behind, all.ensures.end))
    ]) (omega arith) (omega arith) in
    omega (arith, none)) best.ensures.tried track low (omega (arith, high, cylinders)))
