use Rattle.fb_wanted.proofs.Words.{◌≡◌, ◌≤◌, ◌-◌, ◌∙◌, true, false, ap, sym, inl, inr, arith, slice_get, subst, contains, cases_lt}
use Rattle.fb_wanted.proofs.Words.{true≢false, Streak, is_of, AreInOrder, blocks_of, lbns, region_of, streak_cmp, key_of, BeginsStreak}
use Rattle.fb_wanted.proofs.Words.{AreShort, changed_where, after}
use Rattle.fb_wanted.proofs.Changing.{all_left}
use Rattle.fb_wanted.proofs.Choosing.{none_chosen, lbns_stay}
use Rattle.fb_wanted.proofs.Finding.{AreBehind, up_or_not, streak_between, behind_first, before_end, comes_later, finished}
use Rattle.fb_wanted.proofs.wanted.Wanted.change_range.Goals as goal
use Rattle.fb_wanted.proofs.wanted.Wanted.change_range.Goals.{After-next_streak}

pub loop-streak-init : goal.loop-streak-init
loop-streak-init c = record {
  chosen = λ k. false;
  changed = sym (none_chosen c.args.task c.args.change c.args.self.now);
  done = λ streak k begins near before within own. absurd (before (elim (cases_lt c.region_of-start.result streak.region) [
    | inl less ↦ inl less
    | inr most ↦ inr (omega (arith, most, near), omega arith)
  ]));
}

pub returns-then-not-may_change : goal.returns-then-not-may_change
returns-then-not-may_change c = sym (all_left c.args.task c.args.change c.args.self.now
    (c.may_change.ensures c.if-not-may_change.true (is_of c.args.task) c.args.self.now c.counts.ensures))

-- the walk goes on behind the streak's first block
pub loop-streak-smaller : goal.loop-streak-smaller
loop-streak-smaller c =
    let streak = c.in-Some.streak in
    let begins = (c.self-in-loop-streak.invariant.1 c.args.task streak).0 c.in-Some.ensures.found in
    let here = subst (λ es. BeginsStreak (lbns c.args.task es) streak) c.self-in-loop-streak.view_is begins in
    let went = c.change_streak-number in
    comes_later c.loop-streak.region c.loop-streak.number went.result streak c.in-Some.ensures.from (omega arith)
    (behind_first (lbns c.args.task c.loop-streak.self) streak went.result here went.ensures.since went.ensures.over) (omega arith)

-- the streaks of the blocks at the entry are noted
noted : (c : After-next_streak) (streak : Streak) → BeginsStreak (lbns c.args.task c.args.self.now) streak
    → contains streak_cmp c.self-in-loop-streak.inside.streaks (key_of c.args.task streak) ≡ true
noted c streak begins =
    let old = c.loop-streak.invariant in
    let same = lbns_stay old.chosen c.args.task c.args.task c.args.change c.args.self.now in
    let here = ap (lbns c.args.task) (c.self-in-loop-streak.view_is ∙ old.changed) ∙ same in
    (c.self-in-loop-streak.invariant.1 c.args.task streak).1 (subst (λ l. BeginsStreak l streak) (sym here) begins)

pub loop-streak-preserved : goal.loop-streak-preserved
loop-streak-preserved c =
    let now = c.args.self.now in
    let old = c.loop-streak.invariant in
    let from : Streak = record { region = c.loop-streak.region; number = c.loop-streak.number } in
    let went = c.change_streak-number in
    let new = went.ensures.changed now old.chosen old.changed in
    let same = ap (lbns c.args.task) old.changed ∙ lbns_stay old.chosen c.args.task c.args.task c.args.change now in
    record {
      chosen = new.more;
      changed = new.is;
      done = λ streak k begins near before within own. elim (up_or_not from streak) [
        | inr not_up ↦ new.kept k (old.done streak k begins near not_up within own)
        | inl up ↦
            let known = noted (goal.at.loop-streak-preserved c).After-next_streak streak begins in
            let first = c.in-Some.ensures.first streak up known in
            let it = streak_between c.in-Some.streak streak went.result first before in
            let since : c.in-Some.streak.number ≤ k = elim first [
              | inl less ↦ omega (arith, less, it.0)
              | inr up_to ↦ omega (arith, up_to.1, own.0)
            ] in
            new.own k since (before_end (lbns c.args.task now) streak went.result k it.1 within own
            (λ last at region. went.ensures.over last (ap (λ l. slice_get l went.result) same ∙ at) (region ∙ it.0)))
      ];
    }

-- the walk is over where each streak from this one on begins behind the range
over : (c : After-next_streak)
    → AreBehind c.args.task c.args.first c.args.count c.args.self.now
    (record { region = c.loop-streak.region; number = c.loop-streak.number })
    → changed_where c.loop-streak.invariant.chosen c.args.task c.args.change c.args.self.now
    ≡ after c.args.task c.args.change c.args.self.now
over c behind =
    let old = c.loop-streak.invariant in
    let from : Streak = record { region = c.loop-streak.region; number = c.loop-streak.number } in
    let before = c.saturating_sub-2.ensures ∙ ap (λ reach. c.args.first - reach) c.saturating_sub.ensures in
    let begin = c.region_of-start.ensures ∙ ap region_of before in
    finished c.args.task c.args.first c.args.count c.self.inside.longest c.args.change c.args.self.now old.chosen from c.requires.within
    (subst (λ es. AreInOrder (blocks_of es)) c.self.view_is c.self.invariant.0.in_order)
    (subst (AreShort c.self.inside.longest) c.self.view_is c.self.invariant.4)
    (λ streak k begins near. old.done streak k begins (omega (arith, near, begin))) behind

pub returns-then-is_behind : goal.returns-then-is_behind
returns-then-is_behind c =
    let walk = (goal.at.returns-then-is_behind c).After-next_streak in
    c.loop-streak.invariant.changed ∙ over walk (λ streak lbn begins up region.
    let later : c.in-Some.streak.region ≤ streak.region = elim (c.in-Some.ensures.first streak up (noted walk streak begins)) [
      | inl less ↦ omega (arith, less)
      | inr same ↦ omega (arith, same.0)
    ] in
    c.is_behind.ensures c.if-is_behind.true lbn (omega (arith, later, region)))

pub returns : goal.returns
returns c =
    let walk = (goal.at.returns c).After-next_streak in
    c.loop-streak.invariant.changed
    ∙ over walk (λ streak lbn begins up region. absurd (true≢false (sym (noted walk streak begins) ∙ c.in_default.ensures.none streak up)))
