use Rattle.fb_wanted.proofs.Words.{arith, sym, subst, is_of, AreInOrder, blocks_of}
use Rattle.fb_wanted.proofs.Changing.{all_left, none_yet, further, as_many, all_changed}
use Rattle.fb_wanted.proofs.wanted.Wanted.change.Goals as goal

pub returns-then-not-may_change : goal.returns-then-not-may_change
returns-then-not-may_change c = sym (all_left c.args.task c.args.change c.args.self.now
    (c.may_change.ensures c.if-not-may_change.true (is_of c.args.task) c.args.self.now c.counts.ensures))

pub loop-number-init : goal.loop-number-init
loop-number-init c = none_yet c.args.task c.args.change 0 c.args.self.now

pub change_at-number-requires-clause-there : goal.change_at-number-requires-clause-there
change_at-number-requires-clause-there c = omega (
  arith,
  as_many c.args.task c.args.change 0 c.loop-number.number c.args.self.now c.loop-number.self c.loop-number.invariant,
  c.loop-number-test.true,
  c.registered_count-end.ensures,
)

pub loop-number-preserved : goal.loop-number-preserved
loop-number-preserved c = further c.args.task c.args.change 0 c.loop-number.number c.change_at-number.result c.args.self.now
    c.loop-number.self c.change_at-number.new.self c.loop-number.invariant c.change_at-number.ensures.changed

pub returns : goal.returns
returns c = all_changed c.args.task c.args.change c.loop-number.number c.args.self.now c.loop-number.self
    (subst (λ es. AreInOrder (blocks_of es)) c.self.view_is c.self.invariant.0.in_order)
    (omega (arith, c.loop-number-test.false, c.registered_count-end.ensures)) c.loop-number.invariant
