use Rattle.fb_puts.proofs.Words.{◌≡◌, map, drop, list_any, request_range, share}
use Rattle.fb_puts.proofs.asked.is_requested.Given as goal

abbrev pub invariant-loop-request : goal.invariant-loop-request
invariant-loop-request l = list_any (share l.range) (map request_range l.requests) ≡ list_any (share l.range)
    (map request_range (drop l.request-index l.requests))
