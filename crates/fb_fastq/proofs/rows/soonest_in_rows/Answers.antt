use Rattle.fb_fastq.proofs.Words.{inl, inr, refl, arith, cases_lt, RulesOut, seek}
use Rattle.fb_fastq.proofs.InRows.{all_rows, rules_out_all, far_row}
use Rattle.fb_fastq.proofs.rows.soonest_in_rows.Goals as goal

pub returns-clause-pick : goal.returns-clause-pick
returns-clause-pick c =
    c.walk.ensures.pick c.args.limit (c.walk-above.ensures.pick c.args.limit (record { found = refl; before = inr (refl, omega arith) }))

pub returns-clause-least : goal.returns-clause-least
returns-clause-least c =
    let disk = c.args.disk.now in
    let head = c.args.from.now.track in
    let now = c.args.from.now.instant in
    let best = c.walk.result.best in
    all_rows (RulesOut disk head now best) c.args.rows.now (λ i row there. elim (cases_lt i head.cylinder) [
      | inl below ↦ c.walk.ensures.least i row there below
      | inr above ↦ rules_out_all disk head now best c.walk-above.result.best row.items c.walk.ensures.first
          (c.walk-above.ensures.least i row there above)
    ])

pub returns-then-is_too_far-clause-pick : goal.returns-then-is_too_far-clause-pick
returns-then-is_too_far-clause-pick c = c.walk-above.ensures.pick c.args.limit (record { found = refl; before = inr (refl, omega arith) })

-- the arm reaches no cylinder below in time
pub returns-then-is_too_far-clause-least : goal.returns-then-is_too_far-clause-least
returns-then-is_too_far-clause-least c =
    let disk = c.args.disk.now in
    let rows = c.args.rows.now in
    let head = c.args.from.now.track in
    let now = c.args.from.now.instant in
    let best = c.walk-above.result.best in
    let far = c.is_too_far.ensures in
    all_rows (RulesOut disk head now best) rows (λ i row there. elim (cases_lt i head.cylinder) [
      | inl below ↦ far_row disk rows c.requires.rows c.requires.spots i row there head now 1 (seek disk.mechanism 1) best far.rise refl
          (far.short c.if-is_too_far.true) (far.far c.if-is_too_far.true) (omega (arith, below))
      | inr above ↦ c.walk-above.ensures.least i row there above
    ])
