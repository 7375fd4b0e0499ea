use Rattle.fb_decide.proofs.Words.{arith, IsRequestOf}
use Rattle.fb_decide.proofs.Decided.{taken}
use Rattle.fb_decide.proofs.deciding.serve_next.Goals as goal

pub serve_request-requires-clause-start : goal.serve_request-requires-clause-start
serve_request-requires-clause-start g c = record {
  request = (taken (IsRequestOf c.args.disk.now.map) (g.Q.Queue.key c.args.disk.now c.args.course.now.head c.args.course.now.now)
      (g.Q.Queue.pending c.args.queue.now) c.take-request.result _
      c.requires.on_disk c.take-request.ensures.least).0;
  head = c.requires.head;
  instant = omega (arith, c.requires.now);
}
