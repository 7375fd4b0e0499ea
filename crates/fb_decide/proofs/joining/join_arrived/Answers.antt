use Rattle.fb_decide.proofs.Words.{◌+◌, ◌≤◌, ap, sym, ◌∙◌, arith, subst, take, get_or, false, IfSome, AllByRecursion, slice_get-get_or}
use Rattle.fb_decide.proofs.Words.{slice_get_past, Request}
use Rattle.std.specs.Prelude.{◌<◌}
use Rattle.std.proofs.lemmas.List.{take_more}
use Rattle.fb_units.proofs.Lists.{all_push}
use Rattle.fb_units.specs.declared.types.Name.TheVariants.{Traced}
use Rattle.fb_decide.proofs.Decided.{next_joined}
use Rattle.fb_decide.proofs.joining.join_arrived.Goals as goal

pub add-requires : goal.add-requires
add-requires g c = record { few = omega (arith, c.loop-next.invariant.counted, c.loop-next.invariant.within, c.requires.few) }

pub loop-next-preserved : goal.loop-next-preserved
loop-next-preserved g c =
    let requests = c.args.requests.now in
    let next = c.loop-next.next in
    let before = c.loop-next.invariant in
    let waiting = g.Q.Queue.pending c.loop-next.queue in
    let has_come = λ (r : Request). r.arrival ≤ c.args.now in
    let added = c.in_ok-add.ensures.ok in
    let within = c.loop-next-test.true in
    let joins = get_or requests next _ in
    record {
      within = omega (arith, within);
      fits = λ disk fit. c.in_ok-add.ensures.fits disk (before.fits disk fit);
      counted = c.in_ok-add.ensures.counted ∙ ap (λ n. n + 1) before.counted;
      same = next_joined requests waiting (g.Q.Queue.pending c.add.new.self) next _ within added ∙ before.same;
      arrived = subst (AllByRecursion has_come) (sym added)
          (all_push has_come waiting joins before.arrived (omega (arith, c.if-requests-next.true)));
      come = subst (AllByRecursion has_come) (sym (take_more requests next _ within))
          (all_push has_come (take next requests) joins before.come (omega (arith, c.if-requests-next.true)));
    }

pub returns-after-loop-next-clause-ahead : goal.returns-after-loop-next-clause-ahead
returns-after-loop-next-clause-ahead g c =
    rw (slice_get_past c.args.requests.now c.loop-next.next (omega (arith, c.loop-next-test.false))) tt

pub returns-else-requests-next-clause-ahead : goal.returns-else-requests-next-clause-ahead
returns-else-requests-next-clause-ahead g c =
    let none : Request = record { name = Traced 0; arrival = 0; lbn = 0; count = 0; write = false } in
    subst (λ next. IfSome next (λ r. c.args.now < r.arrival))
    (sym (slice_get-get_or c.args.requests.now c.loop-next.next none c.loop-next-test.true)) (omega (arith, c.if-requests-next.false))
