use Rattle.fb_puts.proofs.Words.{◌≡◌, drop, list_any, share}
use Rattle.fb_puts.proofs.Asking.{called}
use Rattle.fb_puts.proofs.asked.is_called.Given as goal

abbrev pub invariant-loop-call : goal.invariant-loop-call
invariant-loop-call l = list_any (share l.range) (called l.calls l.calls) ≡ list_any (share l.range)
    (called l.calls (drop l.call-index l.calls))
