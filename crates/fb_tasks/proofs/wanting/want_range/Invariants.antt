use Rattle.fb_tasks.proofs.Words.{◌≡◌, ◌+◌, ◌≤◌, ◌++◌, length, cutting, blocks_of, numbered, new_entries, HasGrown}
use Rattle.fb_sectormap.specs.Runs.{IsSpan}
use Rattle.fb_wanted.specs.Numbering.{registered_count}
use Rattle.fb_tasks.proofs.wanting.want_range.Given as goal

-- the registered blocks and those that are left are all that the range gives
abbrev pub invariant-loop-left : goal.invariant-loop-left
invariant-loop-left l = record {
  all : l.wanted ++ new_entries l.session (numbered l.task l.session.weight l.number (cutting l.map l.session.block l.lbn l.left))
      ≡ l.initial.wanted ++ new_entries l.session (numbered l.task l.session.weight (registered_count l.task (blocks_of l.initial.wanted))
      (cutting l.map l.session.block l.first l.count));
  next : l.number ≡ registered_count l.task (blocks_of l.wanted);
  within : l.lbn + l.left ≡ l.first + l.count;
  span : IsSpan l.map l.span;
  few : length l.wanted + length (cutting l.map l.session.block l.lbn l.left) ≤ 16000000;
  grown : HasGrown l.initial.wanted l.wanted;
}

abbrev pub decreases-loop-left : goal.decreases-loop-left
decreases-loop-left l = l.left
