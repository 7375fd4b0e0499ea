use Rattle.fb_fastq.proofs.Words.{◌≡◌, ◌++◌, sym, subst, Option, None, Some, MatchOption, Position, Waiting, IsAlong}
use Rattle.fb_fastq.proofs.Words.{IsCandidate, all_of_rows, IsAt, IsPick, RulesOutAll, all_left, all_right, arith}
use Rattle.fb_fastq.proofs.{Least.all_held, Least.length_pending}
use Rattle.fb_fastq.proofs.Divided.{numbered_left, no_later_than_map, first_of_both, some_of_map}
use Rattle.fb_fastq.proofs.row_buckets.soonest_of_all.Goals.{After-soonest_in_rows}
use Rattle.fb_fastq.proofs.row_buckets.soonest_of_all.Goals as goal

-- what was looked for from the departure was looked for from the head's track
picked : (c : After-soonest_in_rows)
    → IsPick c.args.disk.now c.args.head c.args.now c.args.rows.now c.soonest_in_map-from_map.result c.soonest_in_rows.result
picked c =
    let from = c.departure_from-from in
    let limit = c.soonest_in_map-from_map.result in
    subst (λ now. IsPick c.args.disk.now c.args.head now c.args.rows.now limit c.soonest_in_rows.result) from.ensures.instant
    (subst (λ head. IsPick c.args.disk.now head from.result.instant c.args.rows.now limit c.soonest_in_rows.result) from.ensures.track
    c.soonest_in_rows.ensures.pick)

ruled_out : (c : After-soonest_in_rows)
    → RulesOutAll c.args.disk.now c.args.head c.args.now c.soonest_in_rows.result.best (all_of_rows c.args.rows.now)
ruled_out c =
    let from = c.departure_from-from in
    let best = c.soonest_in_rows.result.best in
    subst (λ now. RulesOutAll c.args.disk.now c.args.head now best (all_of_rows c.args.rows.now)) from.ensures.instant
    (subst (λ head. RulesOutAll c.args.disk.now head from.result.instant best (all_of_rows c.args.rows.now)) from.ensures.track
    c.soonest_in_rows.ensures.least)

-- where none of the rows is picked, it is the map's
of_map : (c : After-soonest_in_rows) → c.soonest_in_rows.result.best ≡ c.soonest_in_map-from_map.result
    → IsCandidate c.args.disk.now c.args.head c.args.now c.args.overflow.now c.soonest_in_rows.result.best
of_map c same =
    let disk = c.args.disk.now in
    let map = c.args.overflow.now in
    let rows = c.args.rows.now in
    let limit = c.soonest_in_map-from_map.result in
    let rules_out = subst (λ best. RulesOutAll disk c.args.head c.args.now best (all_of_rows rows)) same (ruled_out c) in
    let all = length_pending (map.entries ++ all_of_rows rows) in
    subst (IsCandidate disk c.args.head c.args.now map) (sym same) (c.soonest_in_map-from_map.ensures.found
    (some_of_map disk c.args.head c.args.now map rows limit (omega (arith, all, c.requires.some)) c.soonest_in_map-from_map.ensures.none
    rules_out))

where_none : (o : Option Position) (X Z : Type 0) (Y : Position → Type 0) → MatchOption o X Y → (X → Z) → MatchOption o Z Y
where_none None X Z Y h f = f h
where_none (Some position) X Z Y h f = h

pub soonest_in_map-from_map-requires-clause-spots : goal.soonest_in_map-from_map-requires-clause-spots
soonest_in_map-from_map-requires-clause-spots c =
    all_held (λ key r. IsAlong c.args.disk.now r key.0) c.args.overflow.now
    (all_left (λ (w : Waiting). IsAlong c.args.disk.now w.1 w.0.0) c.args.overflow.now.entries (all_of_rows c.args.rows.now) c.requires.spots)

pub soonest_in_rows-requires-clause-spots : goal.soonest_in_rows-requires-clause-spots
soonest_in_rows-requires-clause-spots c =
    all_right (λ (w : Waiting). IsAlong c.args.disk.now w.1 w.0.0) c.args.overflow.now.entries (all_of_rows c.args.rows.now) c.requires.spots

pub returns-clause-found : goal.returns-clause-found
returns-clause-found c =
    let at = (goal.at.returns-clause-found c).After-soonest_in_rows in
    let best = c.soonest_in_rows.result.best in
    where_none c.soonest_in_rows.result.position (best ≡ c.soonest_in_map-from_map.result)
    (IsCandidate c.args.disk.now c.args.head c.args.now c.args.overflow.now best)
    (λ position. IsAt c.args.disk.now c.args.head c.args.now c.args.rows.now position best) (picked at).found (of_map at)

pub returns-clause-first : goal.returns-clause-first
returns-clause-first c = λ w key wait.
    let at = (goal.at.returns-clause-first c).After-soonest_in_rows in
    let disk = c.args.disk.now in
    let map = c.args.overflow.now in
    let rows = c.args.rows.now in
    let best = c.soonest_in_rows.result.best in
    let apart = numbered_left map.entries (all_of_rows rows) c.requires.apart in
    first_of_both disk c.args.head c.args.now map rows best w key wait
    (no_later_than_map disk c.args.head c.args.now map rows c.soonest_in_map-from_map.result best apart
    c.soonest_in_map-from_map.ensures.found c.soonest_in_map-from_map.ensures.first (picked at).before)
    (ruled_out at)
