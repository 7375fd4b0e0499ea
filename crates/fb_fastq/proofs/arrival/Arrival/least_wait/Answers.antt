use Rattle.fb_fastq.proofs.Words.{◌≤◌, ◌<◌, ◌%◌, ◌^◌, arith}
use Rattle.fb_fastq.proofs.Arriving.{least_ahead, least_round, value_ahead, value_round}
use Rattle.fb_fastq.proofs.arrival.Arrival.least_wait.Goals.{Then-ahead-self, Else-ahead-self}
use Rattle.fb_fastq.proofs.arrival.Arrival.least_wait.Goals as goal

-- less than a rotation: the spot lies behind the angle of arrival
round : (c : Then-ahead-self) → c.args.waiting.now.0.0 % 2 ^ 30 < c.args.self.now.angle
round c =
    let less = c.if-ahead-self.true in
    let turned = c.requires.arrival.turned in
    let whole = c.requires.arrival.rotation_is in omega (arith, less, turned, whole)

-- else it lies at that angle or ahead
ahead : (c : Else-ahead-self) → c.args.self.now.angle ≤ c.args.waiting.now.0.0 % 2 ^ 30
ahead c =
    let more = c.if-ahead-self.false in
    let turned = c.requires.arrival.turned in
    let whole = c.requires.arrival.rotation_is in omega (arith, more, turned, whole)

pub returns-then-ahead-self-clause-least : goal.returns-then-ahead-self-clause-least
returns-then-ahead-self-clause-least c =
    let w = c.args.waiting.now in
    least_round c.args.disk.now c.args.from.now c.args.self.now c.requires.arrival w.1 w.0.0 c.requires.along c.requires.on
    (round ((goal.at.returns-then-ahead-self-clause-least c).Then-ahead-self))

pub returns-then-ahead-self-clause-value : goal.returns-then-ahead-self-clause-value
returns-then-ahead-self-clause-value c =
    let w = c.args.waiting.now in
    value_round c.args.disk.now c.args.from.now c.args.self.now c.requires.arrival w.1 w.0.0 c.requires.along c.requires.on
    (round ((goal.at.returns-then-ahead-self-clause-value c).Then-ahead-self))

pub returns-else-ahead-self-clause-least : goal.returns-else-ahead-self-clause-least
returns-else-ahead-self-clause-least c =
    let w = c.args.waiting.now in
    let le = ahead ((goal.at.returns-else-ahead-self-clause-least c).Else-ahead-self) in
    let turned = c.requires.arrival.turned in
    let whole = c.requires.arrival.rotation_is in
    let least = least_ahead c.args.disk.now c.args.from.now c.args.self.now c.requires.arrival w.1 w.0.0 c.requires.along c.requires.on
    le in omega (arith, le, turned, whole, least)

pub returns-else-ahead-self-clause-value : goal.returns-else-ahead-self-clause-value
returns-else-ahead-self-clause-value c =
    let w = c.args.waiting.now in
    let le = ahead ((goal.at.returns-else-ahead-self-clause-value c).Else-ahead-self) in
    let turned = c.requires.arrival.turned in
    let whole = c.requires.arrival.rotation_is in
    let value = value_ahead c.args.disk.now c.args.from.now c.args.self.now c.requires.arrival w.1 w.0.0 c.requires.along c.requires.on
    le in omega (arith, le, turned, whole, value)
