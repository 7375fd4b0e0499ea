use Rattle.std.proofs.Common.{refl}
use Rattle.fb_decide.proofs.Decided.{join_waiting}
use Rattle.fb_decide.proofs.Delivering.{if_ok_with}
use Rattle.fb_decide.proofs.deciding.advance.Goals as goal

pub act-requires-clause-waiting : goal.act-requires-clause-waiting
act-requires-clause-waiting g c =
    let joined = c.in_ok-course-2.ensures in
    join_waiting c.requires.may_decide.waiting joined.within joined.joined joined.left joined.arrived

pub returns-clause-decided : goal.returns-clause-decided
returns-clause-decided g c = if_ok_with _ _ _ c.act.result (λ goes_on acted waits past called tells.
    let joined = c.in_ok-course-2.ensures in
    record {
      ready = _;
      is_ready = record {
        same = refl;
        same_requests = refl;
        test = c.in_ok-course.ensures past called tells;
        same_left = joined.left;
        come = joined.come;
        arrived = joined.arrived;
        ahead = joined.ahead;
      };
      acted = acted;
    }) c.act.ensures.acted c.act.ensures.waiting
