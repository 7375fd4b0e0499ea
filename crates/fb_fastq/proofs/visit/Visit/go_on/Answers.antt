use Rattle.fb_fastq.proofs.Words.{◌+◌, ◌%◌, sym, ap, ◌∙◌, arith, seek, distance_of}
use Rattle.fb_fastq.proofs.visit.Visit.go_on.Goals as goal

pub returns-then-has-clause-start : goal.returns-then-has-clause-start
returns-then-has-clause-start c = (c.has.ensures.inside c.if-has.true).0

pub returns-then-has-clause-end : goal.returns-then-has-clause-end
returns-then-has-clause-end c = (c.has.ensures.inside c.if-has.true).1

pub returns-then-lane-self-clause-start : goal.returns-then-lane-self-clause-start
returns-then-lane-self-clause-start c = omega (arith, ap (λ l. l.start) c.visit_of.ensures.lane, c.lane_around-lane.ensures.from)

pub returns-then-lane-self-clause-end : goal.returns-then-lane-self-clause-end
returns-then-lane-self-clause-end c = omega (arith, ap (λ l. l.start) c.visit_of.ensures.lane, c.lane_around-lane.ensures.before)

-- the lane is another one on the same cylinder
pub pos_with-way-requires : goal.pos_with-way-requires
pos_with-way-requires c =
    let last = c.requires.last in
    let arm = c.args.disk.now.mechanism in
    let head = c.args.from.now.track.cylinder in
    record { seek = last.seek_is ∙ ap (λ x. seek arm (distance_of head x)) (sym c.if-lane-self.false); short = last.short_seek }

pub returns-clause-visit : goal.returns-clause-visit
returns-clause-visit c =
    let last = c.requires.last in
    let disk = c.args.disk.now in
    let from = c.args.from.now in
    let way = c.pos_with-way.ensures in
    let angle = c.angle_after-self.ensures in
    record {
      lane = c.lane_around-lane.ensures.lane;
      seek_is = last.seek_is ∙ ap (λ x. seek disk.mechanism (distance_of from.track.cylinder x)) (sym c.if-lane-self.false);
      short_seek = last.short_seek;
      way_is = way.value;
      short_way = way.bound;
      angle_is = angle.value ∙ ap (λ w. (from.instant + w) % disk.map.rotation) way.value;
      turned = angle.bound;
    }

pub returns-clause-start : goal.returns-clause-start
returns-clause-start c = c.lane_around-lane.ensures.from

pub returns-clause-end : goal.returns-clause-end
returns-clause-end c = c.lane_around-lane.ensures.before
