-- Changes of the blocks of a task from one number up to another.
use Rattle.fb_wanted.proofs.Words.{◌≡◌, ℕ, ◌+◌, ◌*◌, ◌/◌, ◌≤◌, inl, inr, ◌==◌, ◌||◌, List, true, false, length, filter, slice_get, refl}
use Rattle.fb_wanted.proofs.Words.{ap, sym, ◌∙◌, arith, subst, cases_Bool, cases_lt, nat_tests, slice_get_within, Change, Entry, after}
use Rattle.fb_wanted.proofs.Words.{entry_after, state_after, is_of, is_in_group, AreInOrder, blocks_of, is_of_task, lbns, AreChanged}
use Rattle.fb_wanted.proofs.Words.{IsStable, LeavesAll, change_nth}
use Rattle.std.proofs.lemmas.Bool.{or_right}
use Rattle.fb_wanted.proofs.Standing.{among}
use Rattle.fb_wanted.proofs.Numbers.{number_at}
use Rattle.fb_wanted.proofs.OfTask.{own_after, others_after}
use Rattle.fb_wanted.proofs.Regions.{length-lbns}
use Rattle.fb_wanted.proofs.Choosing.{all_chosen, blocks_stay, lbns_stay, more_chosen, none_chosen, one_more}

module _ (task : ℕ) (change : Change) where
  stays : (e : Entry) → (is_of task e.block ≡ true → state_after change e.block e.state ≡ e.state) → entry_after task change e ≡ e
  stays e left = elim (cases_Bool (is_of_task task e)) [
    | inl own ↦ own_after task change e e.state own (sym (left own))
    | inr other ↦ others_after task change e other
  ]

  -- the change leaves all blocks of the task as they are
  pub all_left : (es : List Entry) → LeavesAll (is_of task) change es → after task change es ≡ es
  all_left es left = sym (all_chosen (λ k. false) task change es (λ i e at. inr (stays e (λ own. left i e at own))))
      ∙ none_chosen task change es

  -- no block is changed yet
  pub none_yet : (from : ℕ) (old : List Entry) → AreChanged task change from from old old
  none_yet from old = λ es chosen same. record {
    more = chosen;
    is = same;
    kept = λ k own. own;
    own = λ k low high. absurd (omega (arith, low, high));
  }

  -- the change goes on
  pub further : (from mid end : ℕ) (old half new : List Entry) → AreChanged task change from mid old half
      → AreChanged task change mid end half new → AreChanged task change from end old new
  further from mid end old half new before then = λ es chosen same.
      let first = before es chosen same in
      let last = then es first.more first.is in
      record {
        more = last.more;
        is = last.is;
        kept = λ k own. last.kept k (first.kept k own);
        own = λ k low high. elim (cases_lt k mid) [
          | inl less ↦ last.kept k (first.own k low less)
          | inr most ↦ last.own k most high
        ];
      }

  -- one block is changed
  pub one_further : (k : ℕ) (old : List Entry) → AreInOrder (blocks_of old) → IsStable change
      → AreChanged task change k (k + 1) old (change_nth (is_of_task task) (entry_after task change) k old)
  one_further k old in_order stable = λ es chosen same. record {
    more = λ i. chosen i || (i == k);
    is = ap (change_nth (is_of_task task) (entry_after task change) k) same
        ∙ one_more chosen task k change es (subst AreInOrder (ap blocks_of same ∙ blocks_stay chosen task change es) in_order) stable;
    kept = λ i own. rw own refl;
    own = λ i low high. let here : (i == k) ≡ true = grind (arith, nat_tests, low, high) in or_right (chosen i) (i == k) here;
  }

  -- a group that the change leaves as it is is passed over
  pub passed_over : (k : ℕ) (old : List Entry) → LeavesAll (is_in_group task (k / 512)) change old
      → AreChanged task change k ((k / 512 + 1) * 512) old old
  passed_over k old left = λ es chosen same. record {
    more = λ i. chosen i || (i / 512 == k / 512);
    is = same ∙ more_chosen chosen (λ i. i / 512 == k / 512) task change es (λ i e at here.
        stays e (λ own. left i e (ap (λ l. slice_get l i) same ∙ at) (rw (own, here) refl)));
    kept = λ i own. rw own refl;
    own = λ i low high.
        let its : i / 512 ≡ k / 512 = omega (arith, low, high) in
        let here : (i / 512 == k / 512) ≡ true = grind (arith, nat_tests, its) in or_right (chosen i) (i / 512 == k / 512) here;
  }

  module _ (from end : ℕ) (old new : List Entry) (changed : AreChanged task change from end old new) where
    -- its blocks have the LBNs that they had
    pub lbns_same : lbns task new ≡ lbns task old
    lbns_same = let it = changed old (λ k. false) (sym (none_chosen task change old)) in
        ap (lbns task) it.is ∙ lbns_stay it.more task task change old

    -- the task has as many blocks as before
    pub as_many : length (filter (is_of_task task) new) ≡ length (filter (is_of_task task) old)
    as_many = omega (arith, length-lbns task new, length-lbns task old, ap length lbns_same)

  -- all blocks of the task are changed
  pub all_changed : (end : ℕ) (old new : List Entry) → AreInOrder (blocks_of old) → length (filter (is_of_task task) old) ≤ end
      → AreChanged task change 0 end old new → new ≡ after task change old
  all_changed end old new in_order all changed =
      let it = changed old (λ k. false) (sym (none_chosen task change old)) in
      it.is ∙ all_chosen it.more task change old (λ i e at. elim (cases_Bool (is_of_task task e)) [
        | inl own ↦
            let its = among (is_of_task task) old i e at own in
            let number = number_at old task its.0 e in_order its.2 in
            let within = slice_get_within (filter (is_of_task task) old) its.0 e its.2 in
            inl (it.own e.block.index (omega arith) (omega (arith, number, within, all)))
        | inr other ↦ inr (others_after task change e other)
      ])
