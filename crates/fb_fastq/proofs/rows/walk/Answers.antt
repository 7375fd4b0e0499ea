use Rattle.fb_fastq.proofs.Words.{slice_get, ap, ◌∙◌}
use Rattle.fb_fastq.proofs.Outwards.{outwards_begins, outwards_goes_on, outwards_stops, outwards_ends, next_on_disk}
use Rattle.fb_fastq.proofs.Swept.{none_left}
use Rattle.fb_fastq.proofs.rows.walk.Goals as goal

pub loop-cylinder-init : goal.loop-cylinder-init
loop-cylinder-init c = outwards_begins c.args.disk.now c.args.from.now c.args.rows.now c.args.pick c.args.side c.args.occupied.now
    c.occupied_on-left.result c.requires.occupied c.occupied_on-left.ensures.ordered c.occupied_on-left.ensures.those

pub arrival_at-arrival-requires-clause-cylinder : goal.arrival_at-arrival-requires-clause-cylinder
arrival_at-arrival-requires-clause-cylinder c =
    next_on_disk c.loop-cylinder.invariant c.requires.rows c.requires.spots c.in-Some.cylinder.now c.next.new.left c.in-Some.ensures

pub returns-then-pick-arrival-clause-least : goal.returns-then-pick-arrival-clause-least
returns-then-pick-arrival-clause-least c =
    outwards_stops c.loop-cylinder.invariant c.requires.rows c.requires.spots c.in-Some.cylinder.now c.next.new.left c.in-Some.ensures
    c.seeks_rise.ensures c.arrival_at-arrival.result c.arrival_at-arrival.ensures.arrival c.arrival_at-arrival.ensures.cylinder
    c.if-pick-arrival.true

pub loop-cylinder-preserved : goal.loop-cylinder-preserved
loop-cylinder-preserved c =
    let row = c.soonest_of_row-pick.ensures in
    let at = c.arrival_at-arrival.ensures.cylinder in
    outwards_goes_on c.loop-cylinder.invariant c.requires.rows c.requires.spots c.in-Some.cylinder.now c.next.new.left c.in-Some.ensures
    c.soonest_of_row-pick.result row.pick row.first
    (λ other there. row.least other (ap (slice_get c.args.rows.now) at ∙ there))

pub returns-clause-pick : goal.returns-clause-pick
returns-clause-pick c = c.loop-cylinder.invariant.picks

pub returns-clause-least : goal.returns-clause-least
returns-clause-least c =
    outwards_ends c.loop-cylinder.invariant c.requires.rows c.requires.spots
    (none_left c.args.side c.loop-cylinder.left c.next.new.left c.in_default.ensures)
