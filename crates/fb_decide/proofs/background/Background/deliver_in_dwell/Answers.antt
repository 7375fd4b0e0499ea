use Rattle.fb_decide.proofs.Words.{◌∙◌, sym, subst, on_ok_weaker, HasDelivered, AreDeliverable}
use Rattle.fb_decide.proofs.Placing.{wanted-distinct, due-caught, left-caught, rows-of_catches}
use Rattle.fb_decide.proofs.Delivering.{fits-told}
use Rattle.fb_decide.proofs.background.Background.deliver_in_dwell.Goals as goal

pub caught-requires-clause-blocks : goal.caught-requires-clause-blocks
caught-requires-clause-blocks c =
    fits-told c.args.disk.now c.requires.current.0 c.args.self.now.sessions c.args.self.now.blocks c.requires.current.1.tells

pub deliver_all-requires : goal.deliver_all-requires
deliver_all-requires c =
    let past = c.requires.current.0 in
    let current = c.requires.current.1 in (
      c.args.disk.now.map,
      past,
      current,
      subst (AreDeliverable past) (sym (rows-of_catches c.args.disk.now c.args.store.now c.args.how c.args.dwell past c.args.self.now
          current c.as_slice.result.now (c.as_slice.ensures.value ∙ c.in_ok-catches.ensures.all)))
          (due-caught c.args.disk.now c.args.store.now c.args.how c.args.dwell past (wanted-distinct current.tells)),
    )

pub returns-clause-delivered : goal.returns-clause-delivered
returns-clause-delivered c = on_ok_weaker c.deliver_all.result (λ all past current.
    let rows = rows-of_catches c.args.disk.now c.args.store.now c.args.how c.args.dwell past c.args.self.now current c.as_slice.result.now
    (c.as_slice.ensures.value ∙ c.in_ok-catches.ensures.all) in
    subst (λ gots. HasDelivered c.args.disk.now.map past gots c.args.self.now.rows c.deliver_all.new.self) rows
    (all c.args.disk.now.map past current (subst (AreDeliverable past) (sym rows)
    (due-caught c.args.disk.now c.args.store.now c.args.how c.args.dwell past (wanted-distinct current.tells)))))
    c.deliver_all.ensures

pub returns-clause-left : goal.returns-clause-left
returns-clause-left c = on_ok_weaker c.deliver_all.result (λ all past current.
    left-caught c.args.disk.now c.args.store.now c.args.how c.args.dwell past (wanted-distinct current.tells)) c.deliver_all.ensures
