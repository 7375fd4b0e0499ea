use Rattle.std.proofs.Common.{◌≡◌, ◌+◌, ◌++◌, length, drop}
use Rattle.fb_script.specs.Promoted.{promoted_from, promoted}
use Rattle.fb_script.proofs.reads.promoted.Given as goal

abbrev pub invariant-loop-call : goal.invariant-loop-call
invariant-loop-call l =
    l.reads.items ++ promoted_from (length l.reads.items + 1) (drop l.call-index l.calls.calls.items) ≡ promoted l.calls.calls.items
