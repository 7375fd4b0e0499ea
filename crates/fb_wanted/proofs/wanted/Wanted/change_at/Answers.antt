use Rattle.fb_wanted.proofs.Words.{◌+◌, ◌/◌, ◌∙◌, arith, ap, sym, subst, length, filter-le, counted, is_in_group, is_of_task, AreChanged}
use Rattle.fb_wanted.proofs.Words.{AreInOrder, blocks_of}
use Rattle.fb_wanted.proofs.Changing.{one_further, passed_over}
use Rattle.fb_wanted.proofs.wanted.Wanted.change_at.Goals as goal

pub next_group-requires : goal.next_group-requires
next_group-requires c = omega (
  arith,
  filter-le (is_of_task c.args.task) c.args.self.now,
  c.self.invariant.0.few,
  ap length c.self.view_is,
  c.requires.there,
)

pub returns-then-not-may_change-clause-changed : goal.returns-then-not-may_change-clause-changed
returns-then-not-may_change-clause-changed c =
    let now = c.args.self.now in
    let group = c.args.number / 512 in
    let test = is_in_group c.args.task group in
    let counts = c.at.ensures ∙ (c.self.invariant.6 c.args.task group ∙ ap (counted test) c.self.view_is) in
    subst (λ n. AreChanged c.args.task c.args.change c.args.number n now now) (sym c.next_group.ensures)
    (passed_over c.args.task c.args.change c.args.number now (c.may_change.ensures c.if-not-may_change.true test now counts))

pub overflow_add-result : goal.overflow_add-result
overflow_add-result c = omega (
  arith,
  filter-le (is_of_task c.args.task) c.args.self.now,
  c.self.invariant.0.few,
  ap length c.self.view_is,
  c.requires.there,
)

pub returns-clause-changed : goal.returns-clause-changed
returns-clause-changed c =
    let now = c.args.self.now in
    let in_order = subst (λ es. AreInOrder (blocks_of es)) c.self.view_is c.self.invariant.0.in_order in
    subst (λ es. AreChanged c.args.task c.args.change c.args.number (c.args.number + 1) now es) (sym c.change_block.ensures)
    (one_further c.args.task c.args.change c.args.number now in_order c.requires.stable)
