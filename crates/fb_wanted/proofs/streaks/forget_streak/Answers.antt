use Rattle.fb_wanted.proofs.Words.{◌∙◌, sym, inl, inr, is_at, contains, streak_cmp, key_of}
use Rattle.fb_wanted.proofs.Keys.{unless_taken, if_taken, same_key}
use Rattle.fb_wanted.proofs.streaks.forget_streak.Goals as goal

pub returns-clause-only : goal.returns-clause-only
returns-clause-only c = λ k has. unless_taken (is_at (streak_cmp (key_of c.args.task c.args.streak)) k)
    (contains streak_cmp c.args.streaks.now k) (sym (c.remove.ensures.updates.0 k) ∙ has)

pub returns-clause-others : goal.returns-clause-others
returns-clause-others c = λ k has. elim (if_taken (is_at (streak_cmp (key_of c.args.task c.args.streak)) k)
    (contains streak_cmp c.args.streaks.now k) has) [
      | inl here ↦ inr (same_key (key_of c.args.task c.args.streak) k here)
      | inr rest ↦ inl (c.remove.ensures.updates.0 k ∙ rest)
    ]
