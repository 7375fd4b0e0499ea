use Rattle.fb_wanted.proofs.Words.{◌∙◌, sym, inl, inr, is_at, contains, streak_cmp, key_of}
use Rattle.fb_wanted.proofs.Keys.{still, if_added, same_key}
use Rattle.fb_wanted.proofs.streaks.note_streak.Goals as goal

pub returns-in_ok-insert-clause-stay : goal.returns-in_ok-insert-clause-stay
returns-in_ok-insert-clause-stay c = λ k has. c.in_ok-insert.ensures.updates.0 k
    ∙ still (is_at (streak_cmp (key_of c.args.task c.args.streak)) k) (contains streak_cmp c.args.streaks.now k) has

pub returns-in_ok-insert-clause-more : goal.returns-in_ok-insert-clause-more
returns-in_ok-insert-clause-more c = λ k has. elim
    (if_added (is_at (streak_cmp (key_of c.args.task c.args.streak)) k) (contains streak_cmp c.args.streaks.now k)
    (sym (c.in_ok-insert.ensures.updates.0 k) ∙ has)) [
      | inl here ↦ inr (c.if-is_streak.true, same_key (key_of c.args.task c.args.streak) k here)
      | inr old ↦ inl old
    ]
