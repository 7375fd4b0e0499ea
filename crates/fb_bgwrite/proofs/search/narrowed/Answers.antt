use Rattle.fb_bgwrite.proofs.Words.{◌+◌, ◌<◌, ◌≤◌, ◌⊎◌, inl, inr, arith}
use Rattle.fb_bgwrite.proofs.Lengths.{none_outside}
use Rattle.fb_bgwrite.proofs.search.narrowed.Goals as goal

pub returns-then-from-end-clause-only : goal.returns-then-from-end-clause-only
returns-then-from-end-clause-only c = λ track low high outside leave is.
    let kept = c.trimmed-from in
    let few = c.requires.whole.most track (omega (arith, low, c.requires.after)) (omega (arith, high, c.requires.inside)) leave is in
    let none = none_outside _ c.args.search.now.gap.now _ c.requires.search.blocks (record { track = track; leave = leave })
    (c.min-short.result + 1) c.args.whole.most c.args.from kept.result.0 kept.result.1 c.args.end kept.ensures.before
    kept.ensures.behind low high outside few
    (omega (arith, c.min-short.ensures)) in
    omega (arith, none)

pub returns-clause-only : goal.returns-clause-only
returns-clause-only c = λ track low high outside leave is.
    let kept = c.trimmed-from in
    let part = c.part_of.ensures in
    let few = c.requires.whole.most track (omega (arith, low, c.requires.after)) (omega (arith, high, c.requires.inside)) leave is in
    let outside_kept : (track.cylinder < kept.result.0) ⊎ (kept.result.1 ≤ track.cylinder) = elim outside [
      | inl before ↦ inl (omega (arith, before, part.from))
      | inr behind ↦ inr (omega (arith, behind, part.end))
    ] in
    let none = none_outside _ c.args.search.now.gap.now _ c.requires.search.blocks (record { track = track; leave = leave })
    (c.min-short.result + 1) c.args.whole.most c.args.from kept.result.0 kept.result.1 c.args.end kept.ensures.before
    kept.ensures.behind low high outside_kept
    few (omega (arith, c.min-short.ensures)) in
    omega (arith, none)
