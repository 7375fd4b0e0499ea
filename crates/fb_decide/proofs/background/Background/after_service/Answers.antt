use Rattle.std.proofs.Common.{refl}
use Rattle.fb_decide.proofs.background.Background.after_service.Goals as goal

pub returns-then-request-clause-tells : goal.returns-then-request-clause-tells
returns-then-request-clause-tells c = λ disk past tells. c.after_write.ensures disk past c.args.request c.if-request.true refl refl tells

pub returns-else-request-clause-tells : goal.returns-else-request-clause-tells
returns-else-request-clause-tells c = λ disk past tells.
    c.reads_change_nothing.ensures disk past c.args.request c.args.self.now.sessions c.args.self.now.blocks c.if-request.false tells
