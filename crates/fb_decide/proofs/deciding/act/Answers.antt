use Rattle.fb_decide.proofs.Words.{◌≡◌, ◌≤◌, true, drop, length, sym, subst, ◌∙◌, arith, AllByRecursion, all_weaker, all_append, all_left}
use Rattle.fb_decide.proofs.Words.{all_right, IsRequestOf, inputs_of, HasActed, serves_pick, stays_on, stays_last, ends_here}
use Rattle.fb_units.proofs.Comparing.{some_number}
use Rattle.fb_decide.specs.RunState.{state_by}
use Rattle.fb_decide.proofs.Decided.{taken, none_waits, still_waiting}
use Rattle.fb_decide.proofs.deciding.act.Goals as goal

pub serve_next-requires-clause-some : goal.serve_next-requires-clause-some
serve_next-requires-clause-some g c =
    some_number (length (g.Q.Queue.pending c.args.queue.now)) (sym c.if-not-is_empty.ensures)

pub serve_next-requires-clause-on_disk : goal.serve_next-requires-clause-on_disk
serve_next-requires-clause-on_disk g c =
    let disk = c.args.inputs.disk.now.map in
    all_left (IsRequestOf disk) (g.Q.Queue.pending c.args.queue.now)
    (drop c.args.course.now.joined c.args.requests.now) c.requires.waiting.on_disk

pub returns-then-not-is_empty-clause-acted : goal.returns-then-not-is_empty-clause-acted
returns-then-not-is_empty-clause-acted g c =
    let served = c.in_ok-serve_next.ensures.served in
    let inputs = inputs_of c.args.inputs g.Q.Queue.key in
    let before = state_by g.Q.Queue.pending g.Q.Queue.joined c.args.requests.now c.args.course.now c.args.queue.now in
    let after = state_by g.Q.Queue.pending g.Q.Queue.joined c.args.requests.now c.serve_next.new.course c.serve_next.new.queue in
    subst (λ n. HasActed inputs before true (record after { joined = n })) (sym c.in_ok-serve_next.ensures.counted)
    (serves_pick served.0 _ _ served.1 served.2)

pub returns-then-not-is_empty-clause-waiting : goal.returns-then-not-is_empty-clause-waiting
returns-then-not-is_empty-clause-waiting g c = λ _.
    let requests = c.args.requests.now in
    let before = c.requires.waiting in
    let served = c.in_ok-serve_next.ensures.served in
    let disk = c.args.inputs.disk.now.map in
    let ps = g.Q.Queue.pending c.args.queue.now in
    let qs = drop c.args.course.now.joined requests in
    let key = g.Q.Queue.key c.args.inputs.disk.now c.args.course.now.head c.args.course.now.now in
    let rest = g.Q.Queue.pending c.serve_next.new.queue in
    let later = served.2.later in
    let came = taken (λ r. r.arrival ≤ c.args.course.now.now) key ps served.0 rest before.arrived served.1 in
    let lie = taken (IsRequestOf disk) key ps served.0 rest (all_left (IsRequestOf disk) ps qs before.on_disk) served.1 in
    let same : c.serve_next.new.course.joined ≡ c.args.course.now.joined = served.2.same_joined in
    record {
      within = subst (λ n. n ≤ length requests) (sym same) before.within;
      counted = c.in_ok-serve_next.ensures.counted ∙ before.counted ∙ sym same;
      arrived = all_weaker (λ r. r.arrival ≤ c.args.course.now.now) (λ r. r.arrival ≤ c.serve_next.new.course.now)
          (λ r le. omega (arith, le, later)) rest came.1.0;
      on_disk = all_append (IsRequestOf disk) rest (drop c.serve_next.new.course.joined requests) lie.1.0
          (subst (λ n. AllByRecursion (IsRequestOf disk) (drop n requests)) (sym same) (all_right (IsRequestOf disk) ps qs before.on_disk));
    }

pub returns-in_ok-stay_until-in-Some-clause-acted : goal.returns-in_ok-stay_until-in-Some-clause-acted
returns-in_ok-stay_until-in-Some-clause-acted g c =
    stays_on c.in-Some.instant _ (none_waits (g.Q.Queue.pending c.args.queue.now) c.if-not-is_empty.ensures)
    (sym c.next_instant.ensures ∙ c.in-Some.is) c.in_ok-stay_until-in-Some.ensures

pub returns-in_ok-stay_until-in-Some-clause-waiting : goal.returns-in_ok-stay_until-in-Some-clause-waiting
returns-in_ok-stay_until-in-Some-clause-waiting g c = λ yes.
    still_waiting c.requires.waiting c.in_ok-stay_until-in-Some.ensures.same_joined
    (none_waits (g.Q.Queue.pending c.args.queue.now) c.if-not-is_empty.ensures)

pub returns-in_ok-stay_until-in-None-clause-acted : goal.returns-in_ok-stay_until-in-None-clause-acted
returns-in_ok-stay_until-in-None-clause-acted g c =
    stays_last _ (none_waits (g.Q.Queue.pending c.args.queue.now) c.if-not-is_empty.ensures)
    (sym c.next_instant.ensures ∙ c.in-None.is) c.if-course-inputs.true c.in_ok-stay_until-in-None.ensures

pub returns-else-course-inputs-clause-acted : goal.returns-else-course-inputs-clause-acted
returns-else-course-inputs-clause-acted g c =
    ends_here (none_waits (g.Q.Queue.pending c.args.queue.now) c.if-not-is_empty.ensures)
    (sym c.next_instant.ensures ∙ c.in-None.is) (omega (arith, c.if-course-inputs.false))
