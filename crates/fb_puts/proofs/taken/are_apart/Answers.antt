use Rattle.fb_puts.proofs.Words.{subst, AreApart}
use Rattle.fb_puts.proofs.Shuffled.{apart_shuffled}
use Rattle.fb_puts.proofs.taken.are_apart.Goals as goal

pub returns : goal.returns
returns c = λ yes. apart_shuffled c.args.ranges.items c.sort_unstable_by_key.new.self.items c.sort_unstable_by_key.ensures.permutation
    (subst AreApart c.deref.ensures.value (c.are_in_turn.ensures yes))
