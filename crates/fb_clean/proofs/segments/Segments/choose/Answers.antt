use Rattle.std.proofs.Common.{◌≡◌, ◌+◌, Some, ap, sym, ◌∙◌, arith, length, subst, slice_get}
use Rattle.fb_clean.specs.Segments.{choice_of, without, no_longer_waiting, first_best, waiting}
use Rattle.fb_clean.specs.Numbers.{AreNumbered}
use Rattle.fb_clean.specs.Ranks.{rank}
use Rattle.fb_clean.proofs.Ranked.{some_at, ranked_passed, ranked_chosen}
use Rattle.fb_clean.proofs.Greatest.{choice_is_greatest}
use Rattle.fb_clean.proofs.Kept.{get_one, stopped_at, sound_chosen, none_unfinished, number_chosen}
use Rattle.fb_clean.proofs.segments.Segments.choose.Goals as goal

pub invariant_of-self-2 : goal.invariant_of-self-2
invariant_of-self-2 c =
    let h = c.self.invariant in
    let segments = c.self.inside.segments.items in
    let best = c.in_ok-best.best in
    let here = some_at _ segments best c.deref-2.ensures.value c.in_ok-best.ensures.within in
    let stopped = c.stop_waiting.ensures ∙ ap no_longer_waiting c.index_mut.ensures.value in
    let next = c.next_waiting-self-inside.ensures in
    let same : c.rank.result ≡ rank here.1 = c.rank.ensures ∙ ap rank (c.index.ensures ∙ get_one segments best here.1 _ here.2) in (
      sound_chosen c.self.inside.block segments _ c.self.inside.unfinished (length c.self.inside.taken.items) best here.1 h.0 here.2 here.0
          (stopped_at segments best here.1 c.index_mut.result.now c.stop_waiting.new.self h.0.numbered here.2 stopped),
      ranked_chosen h.0.numbered h.0.few
          (ranked_passed h.0.numbered h.0.few h.1 c.next_waiting-self-inside.result (rw c.deref.ensures.value at next.order.1)
          (rw c.deref.ensures.value at next.passed))
          best here.1 c.stop_waiting.new.self c.remove.new.self here.2
          (stopped ∙ ap no_longer_waiting (get_one segments best here.1 _ here.2)) (rw same at c.remove.ensures.updates.0),
    )

pub returns-clause-choice : goal.returns-clause-choice
returns-clause-choice c =
    let segments = c.self.inside.segments.items in
    let here = some_at _ segments c.in_ok-best.best c.deref-2.ensures.value c.in_ok-best.ensures.within in
    number_chosen segments c.self.inside.unfinished c.in_ok-best.best here.1 c.self.invariant.0.numbered here.2
    (none_unfinished c.self.inside.unfinished (sym c.is_some.ensures ∙ c.if-is_some.false))
    (subst (λ xs. slice_get xs c.in_ok-best.best ≡ first_best (waiting xs)) c.deref-2.ensures.value c.in_ok-best.ensures.some)
    ∙ ap choice_of c.self.view_is

pub returns-clause-greatest : goal.returns-clause-greatest
returns-clause-greatest c = choice_is_greatest c.args.self.now (Some (c.in_ok-best.best + 1))
    (subst (λ v. AreNumbered 1 v.segments) c.self.view_is c.self.invariant.0.numbered) (returns-clause-choice c)

pub returns-clause-state : goal.returns-clause-state
returns-clause-state c =
    let segments = c.self.inside.segments.items in
    let here = some_at _ segments c.in_ok-best.best c.deref-2.ensures.value c.in_ok-best.ensures.within in
    let number : 1 + c.in_ok-best.best ≡ c.in_ok-best.best + 1 = omega arith in
    ap (λ xs. record {
      block = c.self.inside.block;
      segments = xs;
      unfinished = Some (c.in_ok-best.best + 1);
      taken = c.self.inside.taken.items;
    })
    (stopped_at segments c.in_ok-best.best here.1 c.index_mut.result.now c.stop_waiting.new.self c.self.invariant.0.numbered here.2
    (c.stop_waiting.ensures
    ∙ ap no_longer_waiting c.index_mut.ensures.value) ∙ ap (λ n. without n segments) number)
    ∙ ap (λ v. record {
      block = v.block;
      segments = without (c.in_ok-best.best + 1) v.segments;
      unfinished = Some (c.in_ok-best.best + 1);
      taken = v.taken;
    }) c.self.view_is
