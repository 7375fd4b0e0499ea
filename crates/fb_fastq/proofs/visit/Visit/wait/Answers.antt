use Rattle.fb_fastq.proofs.Words.{◌≡◌, ◌∙◌, ◌≤◌, ◌<◌, ◌-◌, ◌+◌, ap, arith}
use Rattle.fb_fastq.proofs.Visiting.{waits_ahead, waits_round}
use Rattle.fb_fastq.proofs.visit.Visit.wait.Goals as goal

pub returns-then-self-angle-clause-value : goal.returns-then-self-angle-clause-value
returns-then-self-angle-clause-value c = λ from r is along.
    let visit = c.args.self.now in
    let le : visit.angle ≤ c.args.spot - visit.lane.start = omega (arith, c.if-self-angle.true) in
    waits_ahead c.args.disk.now from visit is r c.args.spot along c.requires.from c.requires.before le

pub returns-else-self-angle-clause-value : goal.returns-else-self-angle-clause-value
returns-else-self-angle-clause-value c = λ from r is along.
    let visit = c.args.self.now in
    let whole : c.rotation-rotation.result ≡ c.args.disk.now.map.rotation = c.rotation-rotation.ensures.value
    ∙ ap (λ map. map.rotation) c.geometry.ensures in
    let lt : c.args.spot - visit.lane.start < visit.angle = omega (arith, c.if-self-angle.false) in
    ap (λ n. visit.way + (n - visit.angle + (c.args.spot - visit.lane.start))) whole
    ∙ waits_round c.args.disk.now from visit is r c.args.spot along c.requires.from c.requires.before lt
