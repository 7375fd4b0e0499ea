use Rattle.fb_tasks.proofs.Words.{◌<◌, on_err, on_ok_weaker, on_err_weaker, length, set, sym, ◌∙◌, arith, ap, element_at}
use Rattle.fb_tasks.proofs.{Frames.set_same, Frames.touched_length, Frames.touched-now, Frames.touched-set, Listed.listed_touched-set}
use Rattle.fb_tasks.proofs.Leaving.{begun_not, on_ok_both}
use Rattle.fb_tasks.proofs.AfterDelivery.{within_sessions, may-touched, delivers, wanted-entry, held-now, tells-delivered}
use Rattle.fb_tasks.proofs.AfterDelivery.{up_to_date-delivered}
use Rattle.fb_tasks.proofs.sessions.Sessions.delivered.Goals as goal

pub deliver-requires : goal.deliver-requires
deliver-requires c = wanted-entry c.args.got c.requires.2

pub touch-requires : goal.touch-requires
touch-requires c = within_sessions c.args.got c.requires.2

pub index_mut-requires : goal.index_mut-requires
index_mut-requires c =
    let opened = within_sessions c.args.got c.requires.2 in
    omega (
      arith,
      opened,
      touched_length c.args.self.now opened c.in_ok-touch.ensures.ok,
      ap length c.self.view_is,
      c.self.inside.sessions.ok.0,
    )

pub take_delivery-requires : goal.take_delivery-requires
take_delivery-requires c = (
  c.requires.0,
  c.requires.1,
  c.touch.new.self,
  c.args.wanted.now,
  delivers c.args.got (may-touched c.args.got c.requires.2 c.in_ok-touch.ensures.ok) c.self.view_is c.index_mut.ensures.value
      c.deliver.ensures,
)

pub returns-in_err-touch-clause-stay_sessions : goal.returns-in_err-touch-clause-stay_sessions
returns-in_err-touch-clause-stay_sessions c =
    let own = element_at c.args.self.now c.args.got.block.task (within_sessions c.args.got c.requires.2) in
    (own.0, c.in_err-touch.ensures.err ∙ sym (set_same c.args.self.now c.args.got.block.task own.0 own.1))

pub returns-clause-tells : goal.returns-clause-tells
returns-clause-tells c = on_ok_weaker c.take_delivery.result (λ says disk past may.
    let flagged = c.in_ok-touch.ensures.ok in
    let may_now = may-touched c.args.got may flagged in
    let new = c.deliver.new.self in
    let is = says.0 disk past c.touch.new.self c.args.wanted.now
    (delivers c.args.got may_now c.self.view_is c.index_mut.ensures.value c.deliver.ensures) in
    rw c.self.view_is (tells-delivered c.args.got may_now new (held-now c.args.got may new c.deliver.ensures)
    c.take_delivery.new.self (says.1 ∙ touched-now c.args.self.now (within_sessions c.args.got may) flagged c.index_mut.result.now
    (rw c.self.view_is at c.index_mut.ensures.value)) is.0 is.1))
    (on_ok_both _ _ c.take_delivery.result c.take_delivery.ensures.delivered c.take_delivery.ensures.touched)

pub returns-clause-up_to_date : goal.returns-clause-up_to_date
returns-clause-up_to_date c = on_ok_weaker c.take_delivery.result (λ _ disk past may.
    up_to_date-delivered c.args.got may c.deliver.new.self (held-now c.args.got may c.deliver.new.self
    c.deliver.ensures)) c.take_delivery.ensures.touched

pub returns-clause-rows : goal.returns-clause-rows
returns-clause-rows c = on_ok_weaker c.take_delivery.result (λ says disk past may. (says disk past c.touch.new.self c.args.wanted.now
    (delivers c.args.got (may-touched c.args.got may c.in_ok-touch.ensures.ok) c.self.view_is c.index_mut.ensures.value
    c.deliver.ensures)).2) c.take_delivery.ensures.delivered

pub returns-clause-err_rows : goal.returns-clause-err_rows
returns-clause-err_rows c = on_err_weaker c.take_delivery.result (λ says disk past may. says disk past c.touch.new.self c.args.wanted.now
    (delivers c.args.got (may-touched c.args.got may c.in_ok-touch.ensures.ok) c.self.view_is c.index_mut.ensures.value
    c.deliver.ensures)) c.take_delivery.ensures.err_rows

pub returns-in_err-touch-clause-err_rows : goal.returns-in_err-touch-clause-err_rows
returns-in_err-touch-clause-err_rows c = on_err c.from_residual.result (λ disk past may. begun_not)

pub returns-clause-stay_sessions : goal.returns-clause-stay_sessions
returns-clause-stay_sessions c =
    let session = c.take_delivery.new.self in (
      session,
      ap (λ xs. set xs c.args.got.block.task session) c.self.view_is
          ∙ touched-set c.args.self.now (within_sessions c.args.got c.requires.2) c.in_ok-touch.ensures.ok session,
    )

pub invariant_of-self : goal.invariant_of-self
invariant_of-self c =
    let opened = within_sessions c.args.got c.requires.2 in
    let session = c.index_mut.result.now in
    let within : c.args.got.block.task < length c.self.inside.sessions.items =
    omega (arith, opened, touched_length c.args.self.now opened c.in_ok-touch.ensures.ok, ap length c.self.view_is) in
    listed_touched-set c.self.invariant c.args.got.block.task session c.take_delivery.new.self within c.index_mut.ensures.value
    (touched-now c.args.self.now opened c.in_ok-touch.ensures.ok session (rw c.self.view_is at c.index_mut.ensures.value))
    c.take_delivery.ensures.chunks
