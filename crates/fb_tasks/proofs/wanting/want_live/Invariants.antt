use Rattle.fb_tasks.proofs.Words.{◌≡◌, ◌+◌, ◌≤◌, ◌++◌, length, drop, live_of, blocks_of, numbered, new_entries, cuts_of, HasGrown}
use Rattle.fb_wanted.specs.Numbering.{registered_count}
use Rattle.fb_tasks.proofs.wanting.want_live.Given as goal

-- the registered blocks and those that are left are all that the live blocks give
abbrev pub invariant-loop-i : goal.invariant-loop-i
invariant-loop-i l = record {
  all : l.wanted ++ new_entries l.session (numbered l.task l.session.weight (registered_count l.task (blocks_of l.wanted))
      (cuts_of l.map l.session.block (drop l.i (live_of l.session.log l.segment))))
      ≡ l.initial.wanted ++ new_entries l.session (numbered l.task l.session.weight (registered_count l.task (blocks_of l.initial.wanted))
      (cuts_of l.map l.session.block (live_of l.session.log l.segment)));
  few : length l.wanted + length (cuts_of l.map l.session.block (drop l.i (live_of l.session.log l.segment))) ≤ 16000000;
  grown : HasGrown l.initial.wanted l.wanted;
}
