use Rattle.fb_tasks.proofs.Words.{◌-◌, length, false}
use Rattle.test_tasks.specs.Following.{Follows}
use Rattle.test_tasks.proofs.played.PlayedScript.call.Given as goal

-- the calls so far have taken effect
abbrev pub invariant-loop-self : goal.invariant-loop-self
invariant-loop-self l = Follows false l.self.map l.self.calls.calls.items l.self.called l.self.sessions l.self.blocks

abbrev pub decreases-loop-self : goal.decreases-loop-self
decreases-loop-self l = length l.self.calls.calls.items - l.self.called
