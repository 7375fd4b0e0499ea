use Rattle.std.proofs.lemmas.Option.{IfSome_then}
use Rattle.fb_fastq.proofs.Words.{◌≡◌, ◌*◌, ◌^◌, ◌<◌, sym, subst, Option, Some, IfSome, Ray, Visit, IsNoFarther, IsReached}
use Rattle.fb_fastq.proofs.Words.{ComesNoLaterUntil}
use Rattle.fb_fastq.proofs.Sweeps.{no_later_trans}
use Rattle.fb_fastq.proofs.Breaks.{goes_on, reached_later, still_outside, left_of, less_left}
use Rattle.fb_fastq.proofs.soonest.soonest_on.Goals as goal

module _ (P : Visit → Type 0) {full : Option Visit} {visit : Visit} where
  -- what is so of any visit where the walk broke off is so of this one
  of_this : full ≡ Some visit → IfSome full P → P visit
  of_this is = subst (λ o. IfSome o P) is

pub loop-walked-preserved : goal.loop-walked-preserved
loop-walked-preserved c =
    let disk = c.args.disk.now in
    let head = c.args.from.track in
    let now = c.args.from.instant in
    let waiting = c.args.waiting.now in
    let side = c.args.ray.side in
    let start = c.args.ray.start in
    let old = c.loop-walked.walked.best in
    let visit = c.in-Some.visit in
    let is = of_this _ c.in-Some.is c.loop-walked.invariant.full in
    let reached = of_this _ c.in-Some.is c.loop-walked.invariant.reached in
    let seen = subst (ComesNoLaterUntil disk head now waiting old c.args.ray) c.in-Some.is c.loop-walked.invariant.seen in
    let best = c.soonest_of_lane-best.result in
    let first = c.soonest_of_lane-best.ensures.first in
    let lane = c.soonest_of_lane-best.ensures.least c.args.from is in
    let new = c.walk-walked-in-Some.result in
    let more = c.walk-walked-in-Some.ensures in
    let further = subst (λ (s : Ray). IfSome new.full (λ v. IsReached s.side s.start v.lane.start)) c.beyond-rest.ensures
    more.reached in record {
      found = more.found;
      before = no_later_trans new.best.wait new.best.key.1 best.wait best.key.1 c.args.first.wait c.args.first.key.1 more.first
          (no_later_trans best.wait best.key.1 old.wait old.key.1 c.args.first.wait c.args.first.key.1
          first c.loop-walked.invariant.before);
      full = more.full;
      reached = IfSome_then new.full further (λ v more. reached_later side start visit.lane.start v.lane.start reached more);
      seen = goes_on disk head now waiting c.requires.spots old best new.best c.args.ray
          c.beyond-rest.result visit new.full first more.first
          c.beyond-rest.ensures seen lane more.least;
    }

pub loop-walked-init : goal.loop-walked-init
loop-walked-init c = let walked = c.walk-walked.ensures in record {
  found = walked.found;
  before = walked.first;
  full = walked.full;
  reached = walked.reached;
  seen = walked.least;
}

pub soonest_of_lane-best-requires : goal.soonest_of_lane-best-requires
soonest_of_lane-best-requires c =
    let is = of_this _ c.in-Some.is c.loop-walked.invariant.full in
    record { spots = c.requires.spots; lane = is.lane; way = is.short_way; angle = is.turned }

pub beyond-rest-requires : goal.beyond-rest-requires
beyond-rest-requires c = (of_this _ c.in-Some.is c.loop-walked.invariant.full).lane.few

pub walk-walked-requires-in-Some : goal.walk-walked-requires-in-Some
walk-walked-requires-in-Some c =
    let side = c.args.ray.side in
    let start = c.args.ray.start in
    let is = of_this _ c.in-Some.is c.loop-walked.invariant.full in
    let reached = of_this _ c.in-Some.is c.loop-walked.invariant.reached in
    record {
      spots = c.requires.spots;
      from = c.requires.from;
      outside = subst (λ (s : Ray). IsNoFarther s.side (c.args.from.track.cylinder * 2 ^ 37) s.start) (sym c.beyond-rest.ensures)
          (still_outside side (c.args.from.track.cylinder * 2 ^ 37) start c.in-Some.visit.lane.start c.requires.outside reached);
      any = is;
      first = c.soonest_of_lane-best.ensures.found c.args.from is c.loop-walked.invariant.found;
    }

pub returns-clause-least : goal.returns-clause-least
returns-clause-least c = λ key request held on.
    subst (ComesNoLaterUntil c.args.disk.now c.args.from.track c.args.from.instant c.args.waiting.now c.loop-walked.walked.best c.args.ray)
    c.in_default.is c.loop-walked.invariant.seen key request held on tt

pub loop-walked-smaller : goal.loop-walked-smaller
loop-walked-smaller c =
    let side = c.args.ray.side in
    let new = c.walk-walked-in-Some.result.full in
    let is = of_this _ c.in-Some.is c.loop-walked.invariant.full in
    let further = subst (λ (s : Ray). IfSome new (λ v. IsReached s.side s.start v.lane.start)) c.beyond-rest.ensures
    c.walk-walked-in-Some.ensures.reached in
    subst (λ full. left_of side new < left_of side full) (sym c.in-Some.is) (less_left side c.in-Some.visit new is.lane.few further)
