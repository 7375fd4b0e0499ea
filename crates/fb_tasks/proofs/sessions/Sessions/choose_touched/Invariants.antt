use Rattle.fb_tasks.proofs.Words.{◌≤◌, ◌-◌, length, Past, MaySettle, AreListed, OnlyTouched}
use Rattle.fb_tasks.proofs.AllChoices.{Partly}
use Rattle.fb_tasks.proofs.sessions.Sessions.choose_touched.Given as goal

-- the first tasks have chosen
abbrev pub invariant-loop-task : goal.invariant-loop-task
invariant-loop-task l = record {
  kept : AreListed l.self-inside.sessions.items l.self-inside.listed_touched l.self-inside.near;
  within : l.from ≤ length l.self-inside.sessions.items;
  partly : (past : Past) → MaySettle l.map past l.fn.self l.initial.wanted
      → Partly l.map past l.self-inside.sessions.items l.wanted l.now l.initial.rows l.rows l.from;
  stay : OnlyTouched l.fn.self l.self-inside.sessions.items;
}

abbrev pub decreases-loop-task : goal.decreases-loop-task
decreases-loop-task l = length l.self-inside.sessions.items - l.from
