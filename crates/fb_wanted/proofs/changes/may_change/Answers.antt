use Rattle.fb_wanted.proofs.Words.{◌≡◌, ap, arith, nat_tests, Abort, Suspend, Resume}
use Rattle.fb_wanted.proofs.Unchanged.{none_open, none_delivered, open_aborted, open_suspended, open_resumed}
use Rattle.fb_wanted.proofs.changes.may_change.Goals as goal

pub returns-in-Abort : goal.returns-in-Abort
returns-in-Abort c = λ same test es is.
    rw c.in-Abort.is (none_open test (Abort c.in-Abort.first c.in-Abort.count) es (open_aborted c.in-Abort.first c.in-Abort.count)
    (omega (
      arith,
      c.has_open-some_open.ensures.none same,
      ap (λ n. n.registered) is,
      ap (λ n. n.delivered) is,
      ap (λ n. n.aborted) is,
    )))

pub returns-in-Rewant : goal.returns-in-Rewant
returns-in-Rewant c = λ same test es is.
    let none : c.args.counts.delivered ≡ 0 = grind (arith, nat_tests, same) in
    rw c.in-Rewant.is (none_delivered test c.in-Rewant.first c.in-Rewant.count c.in-Rewant.suspended es
    (omega (arith, none, ap (λ n. n.delivered) is)))

pub returns-in-Suspend : goal.returns-in-Suspend
returns-in-Suspend c = λ same test es is.
    rw c.in-Suspend.is (none_open test Suspend es open_suspended (omega (
      arith,
      c.has_open-some_open.ensures.none same,
      ap (λ n. n.registered) is,
      ap (λ n. n.delivered) is,
      ap (λ n. n.aborted) is,
    )))

pub returns-in-Resume : goal.returns-in-Resume
returns-in-Resume c = λ same test es is.
    rw c.in-Resume.is (none_open test Resume es open_resumed (omega (
      arith,
      c.has_open-some_open.ensures.none same,
      ap (λ n. n.registered) is,
      ap (λ n. n.delivered) is,
      ap (λ n. n.aborted) is,
    )))
