use Rattle.fb_detour.proofs.Words.{arith, List, ℕ, early_dwell, Gap, Track, Disk, Entry, plan_by, Way, Source, Over}
use Rattle.fb_plan.specs.declared.sides.Sides.{Sides}
use Rattle.fb_plan.specs.Turns.{longest_stay, AreSides}
use Rattle.fb_detour.proofs.Found.{itself, no_better_plan}
use Rattle.fb_detour.proofs.candidates.try_leave.Goals as goal

-- a plan has the sides of its way's longest stay
its-sides : (disk : Disk) (gap : Gap) (target : Track) (entries : List Entry) (sides : Sides) (way : Way) (leave : ℕ)
    → AreSides disk target entries (longest_stay disk gap way) sides
    → AreSides disk target entries (early_dwell disk gap (plan_by way leave)) sides
its-sides disk gap target entries sides Source leave are =
    record { early = are.early; late = are.late; turning = are.turning; from = are.from }
its-sides disk gap target entries sides (Over track) leave are =
    record { early = are.early; late = are.late; turning = are.turning; from = are.from }

pub overflow_add-leave : goal.overflow_add-leave
overflow_add-leave c = omega (arith, c.requires.soon, c.requires.trial.ceilings.soon)

pub returns-then-search-leave-clause-keeps : goal.returns-then-search-leave-clause-keeps
returns-then-search-leave-clause-keeps c = itself c.args.trial.now.search.now c.args.best.plan

pub returns-then-search-leave-clause-tried : goal.returns-then-search-leave-clause-tried
returns-then-search-leave-clause-tried c = λ in_time. absurd (omega (arith, in_time, c.if-search-leave.true, c.requires.trial.ceilings.on))

pub returns-then-is_no_better-clause-keeps : goal.returns-then-is_no_better-clause-keeps
returns-then-is_no_better-clause-keeps c = itself c.args.trial.now.search.now c.args.best.plan

pub returns-then-is_no_better-clause-tried : goal.returns-then-is_no_better-clause-tried
returns-then-is_no_better-clause-tried c = λ in_time.
    let trial = c.args.trial.now in
    let is = c.requires.trial.way c.args.leave (omega (arith, c.requires.after, c.requires.trial.ceilings.begin)) in_time in
    no_better_plan trial.search.now c.args.best c.ceiling_of-ceiling.result (plan_by trial.way c.args.leave) c.requires.best
    (c.is_no_better.ensures c.if-is_no_better.true) (c.ceiling_of-ceiling.ensures is)

pub try_plan-requires-clause-plan : goal.try_plan-requires-clause-plan
try_plan-requires-clause-plan c =
    let ceilings = c.requires.trial.ceilings in
    rw c.plan_by-plan.ensures (c.requires.trial.way c.args.leave (omega (arith, c.requires.after, ceilings.begin))
    (omega (arith, c.if-search-leave.false, ceilings.on)))

pub try_plan-requires-clause-sides : goal.try_plan-requires-clause-sides
try_plan-requires-clause-sides c =
    let trial = c.args.trial.now in
    let search = trial.search.now in
    rw c.plan_by-plan.ensures (its-sides search.disk.now search.gap.now search.gap.now.target search.wanted.now trial.sides.now trial.way
    c.args.leave c.requires.trial.sides.its)

pub returns-clause-tried : goal.returns-clause-tried
returns-clause-tried c = λ in_time. rw c.plan_by-plan.ensures at c.try_plan.ensures.tried
