use Rattle.fb_decide.proofs.Words.{arith, IsServiceOf, served_from}
use Rattle.fb_decide.proofs.Served.{has-served}
use Rattle.fb_decide.proofs.serving.serve_request.Given as given
use Rattle.fb_decide.proofs.serving.serve_request.Goals as goal
use Rattle.fb_decide.proofs.serving.serve_request.Goals.{In_ok-service}

pub serve-requires-clause-access : goal.serve-requires-clause-access
serve-requires-clause-access g c =
    let request = c.requires.start.request in
    record { some = request.range.some; few = request.few; inside = request.range.inside }

-- what was served is the service that starts so
passes : (g : given.Over) (c : In_ok-service g) → IsServiceOf c.args.disk.now c.args.start c.in_ok-service.service
passes g c =
    let service = c.in_ok-service.ensures in
    record {
      passages = service.passages;
      unbroken = service.unbroken;
      media = service.media;
      finish = service.finish;
      later = service.later;
      early = omega (arith, c.requires.start.instant, c.requires.start.request.few, service.soon);
    }

pub deliver_around-requires-clause-service : goal.deliver_around-requires-clause-service
deliver_around-requires-clause-service g c = passes g (goal.at.deliver_around-requires-clause-service g c).In_ok-service

pub row_of-requires-clause-range : goal.row_of-requires-clause-range
row_of-requires-clause-range g c = omega (arith, c.requires.start.request.range.inside, c.args.disk.now.few_blocks)

pub after_service-requires : goal.after_service-requires
after_service-requires g c =
    let around = c.in_ok-deliver_around.ensures c.requires.current.0 c.requires.current.1 in
    (c.args.disk.now.map, _, around.delivered.current.tells)

pub write_sectors-requires : goal.write_sectors-requires
write_sectors-requires g c = omega (arith, c.requires.start.request.range.inside, c.args.disk.now.few_blocks)

pub returns-clause-row : goal.returns-clause-row
returns-clause-row g c = c.in_ok-row.ensures c.args.disk.now (passes g (goal.at.returns-clause-row g c).In_ok-service)

pub returns-clause-later : goal.returns-clause-later
returns-clause-later g c = omega (
  arith,
  c.in_ok-service.ensures.after,
  c.in_ok-service.ensures.later,
  c.in_ok-service.ensures.finish,
  (c.in_ok-row.ensures c.args.disk.now (passes g (goal.at.returns-clause-later g c).In_ok-service)).finish,
)

pub returns-clause-soon : goal.returns-clause-soon
returns-clause-soon g c = omega (
  arith,
  c.in_ok-service.ensures.soon,
  c.requires.start.request.few,
  c.in_ok-service.ensures.finish,
  (c.in_ok-row.ensures c.args.disk.now (passes g (goal.at.returns-clause-soon g c).In_ok-service)).finish,
)

pub returns-clause-served : goal.returns-clause-served
returns-clause-served g c = λ past current.
    has-served c.args.disk.now c.args.store.now past (served_from c.args.disk.now c.args.start) c.args.background.now.rows
    c.deliver_around.new.self c.after_service.new.self (c.in_ok-deliver_around.ensures past current)
    (c.after_service.ensures.tells c.args.disk.now.map) c.after_service.ensures.rows
