use Rattle.test_tasks.specs.Following.{Follows}
use Rattle.test_tasks.proofs.played.follow.Given as goal

-- a history of the steps so far
abbrev pub invariant-loop-step : goal.invariant-loop-step
invariant-loop-step g l =
    Follows l.played.up_to_date l.played.map l.played.calls.calls.items l.played.called l.played.sessions l.played.blocks
