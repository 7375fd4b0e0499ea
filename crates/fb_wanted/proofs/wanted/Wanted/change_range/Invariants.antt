use Rattle.fb_wanted.proofs.Words.{◌≡◌, ◌≤◌, ◌<◌, ◌+◌, ◌-◌, ◌*◌, ◌^◌, ℕ, Bool, true, length, Streak, lbns, IsUpTo, IsInStreak}
use Rattle.fb_wanted.proofs.Words.{BeginsStreak, changed_where}
use Rattle.fb_wanted.proofs.wanted.Wanted.change_range.Given as goal

-- the blocks of all streaks before this one are changed, from the first region on whose blocks can reach the range
abbrev pub invariant-loop-streak : goal.invariant-loop-streak
invariant-loop-streak l = record {
  chosen : ℕ → Bool;
  changed : l.self ≡ changed_where chosen l.task l.change l.initial.self;
  done : (streak : Streak) (k : ℕ) → BeginsStreak (lbns l.task l.initial.self) streak → l.start ≤ streak.region
      → (IsUpTo (record { region = l.region; number = l.number }) streak → ⊥)
      → k < length (lbns l.task l.initial.self) → IsInStreak (lbns l.task l.initial.self) streak k → chosen k ≡ true;
}

abbrev pub decreases-loop-streak : goal.decreases-loop-streak
decreases-loop-streak l = (2 ^ 64 - l.region) * 2 ^ 32 + (2 ^ 32 - l.number)
