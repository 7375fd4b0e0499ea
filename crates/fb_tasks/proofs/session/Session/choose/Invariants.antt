use Rattle.fb_tasks.proofs.Words.{◌≡◌, true, false, is_clean, Past, choose_up_to, MayChoose, HasChosenUpTo, by_calls}
use Rattle.fb_tasks.proofs.session.Session.choose.Given as goal

-- so many choices were made
abbrev pub invariant-loop-choice : goal.invariant-loop-choice
invariant-loop-choice l = record {
  cleans : (is_clean l.self.kind ≡ true) × (l.self.closed ≡ false);
  same : (by_calls l.self ≡ by_calls l.initial.self) × (l.self.touched ≡ l.initial.self.touched);
  chunks : l.self.chunks ≡ l.initial.self.chunks;
  chosen : (past : Past) → MayChoose l.map past l.stamp.task l.initial.self l.initial.wanted
      → HasChosenUpTo l.map past (choose_up_to l._choice l.map l.stamp.task past) l.stamp.task l.stamp.instant l.self l.wanted
      l.initial.rows
      l.rows;
}
