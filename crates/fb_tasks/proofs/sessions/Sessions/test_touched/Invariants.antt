use Rattle.fb_tasks.proofs.Words.{◌≤◌, ◌-◌, length, Shape, Past, HaveChosen, AreListed, OnlyTouched}
use Rattle.fb_tasks.proofs.Tested.{AreTested}
use Rattle.fb_tasks.proofs.sessions.Sessions.test_touched.Given as goal

-- the sessions before this one are tested, and their rows stand
abbrev pub invariant-loop-task : goal.invariant-loop-task
invariant-loop-task l = record {
  kept : AreListed l.self-inside.sessions.items l.self-inside.listed_touched l.self-inside.near;
  within : l.from ≤ length l.self-inside.sessions.items;
  stay : OnlyTouched l.fn.self l.self-inside.sessions.items;
  tested : (disk : Shape) (past : Past) → HaveChosen disk past l.initial.self-inside.sessions.items l.wanted
      → AreTested past l.initial.self-inside.sessions.items l.self-inside.sessions.items l.now l.initial.rows l.rows l.from;
}

abbrev pub decreases-loop-task : goal.decreases-loop-task
decreases-loop-task l = length l.self-inside.sessions.items - l.from
