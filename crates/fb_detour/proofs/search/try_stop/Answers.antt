use Rattle.fb_detour.proofs.Words.{ap, arith, subst, ◌+◌, ◌-◌, ◌∙◌, ◌≡◌, on_track, Over, IsEnough, IsStop, early_to, offered, stay}
use Rattle.fb_detour.proofs.Found.{itself, not_better}
use Rattle.fb_detour.proofs.Offers.{gives}
use Rattle.fb_detour.proofs.Ranges.{not_itself}
use Rattle.fb_detour.proofs.Ways.{by_interval, late-part}
use Rattle.fb_detour.proofs.search.try_stop.Goals as goal

pub overflow_add-arrive : goal.overflow_add-arrive
overflow_add-arrive c =
    omega (arith, c.requires.search.gap.in_time, c.requires.search.gap.early_enough, c.pos_with-there.ensures.bound)

pub overflow_add-arrive-2 : goal.overflow_add-arrive-2
overflow_add-arrive-2 c =
    let gap = c.requires.search.gap in
    omega (arith, gap.in_time, gap.early_enough, c.pos_with-there.ensures.bound, c.pos_with-on.ensures.bound)

pub returns-then-search-arrive-clause-keeps : goal.returns-then-search-arrive-clause-keeps
returns-then-search-arrive-clause-keeps c = itself c.args.search.now c.args.best.plan

pub returns-then-search-arrive-clause-tried : goal.returns-then-search-arrive-clause-tried
returns-then-search-arrive-clause-tried c = λ leave is. absurd (omega (
  arith,
  c.if-search-arrive.true,
  is.after_arrival,
  is.in_time,
  c.pos_with-there.ensures.value,
  c.pos_with-on.ensures.value,
))

pub stop_at-stop-requires-clause-early : goal.stop_at-stop-requires-clause-early
stop_at-stop-requires-clause-early c = omega (arith, c.if-search-arrive.false, c.requires.search.gap.early_enough)

pub overflow_add-arrive-3 : goal.overflow_add-arrive-3
overflow_add-arrive-3 c = omega (arith, c.if-search-arrive.false, c.requires.search.gap.early_enough)

pub late_at-after-requires-clause-begin : goal.late_at-after-requires-clause-begin
late_at-after-requires-clause-begin c = omega (arith, c.requires.search.late.from_now)

pub returns-then-misses_enough-clause-keeps : goal.returns-then-misses_enough-clause-keeps
returns-then-misses_enough-clause-keeps c = itself c.args.search.now c.args.best.plan

pub returns-then-misses_enough-clause-tried : goal.returns-then-misses_enough-clause-tried
returns-then-misses_enough-clause-tried c = λ leave is.
    let search = c.args.search.now in
    let disk = search.disk.now in
    let entries = search.wanted.now in
    let track = c.args.track in
    let best = c.args.best in
    let there = c.pos_with-there in
    let on = c.pos_with-on in
    let arrive = search.gap.now.now + there.result in
    let latest = search.gap.now.deadline - on.result in
    let stop = c.stop_at-stop.result in
    let its : IsStop disk (on_track track entries) stop = subst (λ xs. IsStop disk xs stop) c.requires.its c.stop_at-stop.ensures.stop in
    let most = c.misses_enough.ensures c.if-misses_enough.true in
    let ceiling = most.0 + c.late_at-after.result in
    let enough : IsEnough best ceiling track = subst (IsEnough best ceiling) c.stop_at-stop.ensures.track most.2 in
    let same : offered stop latest ≡ stay disk (early_to track arrive latest) entries =
    gives disk (early_to track stop.turning.from latest) entries stop its
    ∙ ap (λ t. stay disk (early_to track t latest) entries) c.stop_at-stop.ensures.arrive in
    let bound = by_interval search (Over track) leave arrive latest (arrive + on.result)
    (ap (λ x. search.gap.now.now + x) there.ensures.value) (omega (arith, is.in_time, on.ensures.value))
    (omega (arith, is.after_arrival, there.ensures.value, on.ensures.value)) in
    let late = late-part search search.late.now (arrive + on.result) c.requires.search.late (omega arith) in
    not_better search best ceiling track track leave c.requires.best enough (not_itself track)
    (omega (arith, bound, same, most.1, late, c.late_at-after.ensures.value))

pub ceilings_of-ceilings-requires : goal.ceilings_of-ceilings-requires
ceilings_of-ceilings-requires c = record {
  search = c.requires.search;
  stop = rw c.requires.its at c.stop_at-stop.ensures.stop;
  arrive = omega (arith, c.stop_at-stop.ensures.arrive, c.pos_with-there.ensures.value);
  on = c.pos_with-on.ensures.value;
  soon = c.pos_with-on.ensures.bound;
  in_time = omega (arith, c.stop_at-stop.ensures.arrive, c.if-search-arrive.false);
}

pub none_is_better-requires-clause-in_time : goal.none_is_better-requires-clause-in_time
none_is_better-requires-clause-in_time c =
    let its = c.ceilings_of-ceilings.ensures in
    omega (arith, its.begin, its.on, c.pos_with-there.ensures.value, c.pos_with-on.ensures.value, c.if-search-arrive.false)

pub returns-then-none_is_better-clause-keeps : goal.returns-then-none_is_better-clause-keeps
returns-then-none_is_better-clause-keeps c = itself c.args.search.now c.args.best.plan

pub returns-then-none_is_better-clause-tried : goal.returns-then-none_is_better-clause-tried
returns-then-none_is_better-clause-tried c = c.none_is_better.ensures c.if-none_is_better.true

pub try_leaves-requires : goal.try_leaves-requires
try_leaves-requires c = record {
  way = λ leave after in_time. record {
    on_disk = c.requires.track;
    not_source = c.requires.detour;
    not_target = c.requires.elsewhere;
    after_arrival = after;
    in_time = in_time;
  };
  track = c.requires.track;
  search = c.requires.search;
  stop = rw c.requires.its at c.stop_at-stop.ensures.stop;
  arrive = omega (arith, c.stop_at-stop.ensures.arrive, c.pos_with-there.ensures.value);
  ceilings = c.ceilings_of-ceilings.ensures;
  best = c.requires.best;
}

pub returns-clause-tried : goal.returns-clause-tried
returns-clause-tried c = c.try_leaves.ensures.tried
