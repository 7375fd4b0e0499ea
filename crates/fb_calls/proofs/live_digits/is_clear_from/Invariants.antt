use Rattle.std.proofs.Common.{◌≡◌, drop, not}
use Rattle.std.specs.List.{list_all}
use Rattle.fb_calls.specs.Live.{bits}
use Rattle.fb_calls.proofs.live_digits.is_clear_from.Given as goal

abbrev pub invariant-loop-later : goal.invariant-loop-later
invariant-loop-later l = list_all not (drop l.block (bits l.digits)) ≡ list_all not (drop l.later (bits l.digits))
