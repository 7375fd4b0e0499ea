use Rattle.fb_tasks.proofs.Words.{◌+◌, length, ap, refl, all_any, arith}
use Rattle.fb_tasks.proofs.Written.{one_rewanted, passed}
use Rattle.fb_tasks.proofs.sessions.Sessions.rewant_near.Goals as goal

pub loop-task-init : goal.loop-task-init
loop-task-init c = record {
  within = omega (arith, c.next_near-task.ensures.order, c.len-opened.ensures, c.self.inside.sessions.ok.0, ap length c.self.view_is);
  rewanted = passed c.args.first c.args.count c.args.self.now c.self.view_is c.self.invariant c.chunks_near-chunks.ensures 0
      c.next_near-task.result c.args.wanted.now c.args.wanted.now (λ chunk k among low less. c.next_near-task.ensures.others chunk k among low less)
      (refl, all_any _ (λ e none. absurd (omega (arith, none))) c.args.wanted.now, c.requires);
}

pub loop-task-preserved : goal.loop-task-preserved
loop-task-preserved c = record {
  within = omega (
    arith,
    c.next_near-task-in-loop-task.ensures.order,
    c.len-opened.ensures,
    c.self.inside.sessions.ok.0,
    ap length c.self.view_is,
  );
  rewanted = passed c.args.first c.args.count c.args.self.now c.self.view_is c.self.invariant c.chunks_near-chunks.ensures
      (c.loop-task.task + 1) c.next_near-task-in-loop-task.result c.args.wanted.now c.rewant.new.wanted
      c.next_near-task-in-loop-task.ensures.others
      (one_rewanted c.args.first c.args.count c.args.self.now c.loop-task.task c.args.wanted.now c.loop-task.wanted
      c.rewant.new.wanted c.rewant.ensures c.loop-task.invariant.rewanted);
}
