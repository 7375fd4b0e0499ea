use Rattle.std.proofs.Common.{◌≡◌, take}
use Rattle.fb_calls.specs.Live.{bits}
use Rattle.fb_calls.proofs.live_digits.read_live.Given as goal

abbrev pub invariant-loop-block : goal.invariant-loop-block
invariant-loop-block l = l.live ≡ take l.block (bits l.digits)
