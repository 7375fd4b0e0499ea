use Rattle.fb_mirror.proofs.Words.{◌≡◌, ◌+◌, ◌≤◌, ◌^◌, map, None, sym, ap, ◌∙◌, ℕ, List, subst, option_map, AllByRecursion, IfOk-weaker}
use Rattle.fb_mirror.proofs.Words.{IsPermutation, sectors_of, after_taking, Change, IsWithin, events, held_after}
use Rattle.std.proofs.Common.{rules}
use Rattle.std.proofs.lemmas.List.Sorted.{answers_always, IsNonDecreasingBy-from_sort_by_key}
use Rattle.fb_mirror.proofs.Deciding.{latest, latest_decides}
use Rattle.fb_mirror.proofs.Order.{Ends, sorted_decide, sorted_ends, sorted_within}
use Rattle.fb_mirror.proofs.changes.contents_in_order.Goals as goal

pub contents_of-requires : goal.contents_of-requires
contents_of-requires c =
    let sorted = c.sort_by_key.new.self.items in
    let moved = subst (λ changes. IsPermutation changes sorted) c.in_ok-changes.ensures c.sort_by_key.ensures.permutation in
    let each = sorted_ends (10 ^ 12) (events c.args.run.now) sorted moved c.requires in
    subst (AllByRecursion (Ends (10 ^ 12))) (sym c.deref.ensures.value) each

pub returns-clause-held : goal.returns-clause-held
returns-clause-held c =
    let all = c.in_ok-changes.changes.items in
    let sorted = c.sort_by_key.new.self.items in
    let same = ap (λ (changes : List Change). map (λ change. change.run) changes) c.deref.ensures.value in
    let up =
    IsNonDecreasingBy-from_sort_by_key (λ change. change.instant) sorted c.in_ok-sort_by_key.ensures.sorted (λ a r q k. search rules) in
    let stable = c.sort_by_key.ensures.stable (λ change. change.instant) (answers_always _ _ _ (λ f a r g h. search rules)) in
    IfOk-weaker c.contents_of.result (λ contents. contents ≡ map (λ change. change.run) c.deref.result.now)
    (λ contents. (lbn : ℕ) → after_taking (sectors_of contents) lbn None ≡ held_after (events c.args.run.now) lbn)
    (λ contents is lbn. ap (λ runs. after_taking (sectors_of runs) lbn None) (is ∙ same) ∙ sorted_decide lbn all sorted stable up
    ∙ ap (λ changes. option_map (λ last. last.1) (latest lbn changes)) c.in_ok-changes.ensures
    ∙ ap (option_map (λ last. last.1)) (latest_decides lbn (events c.args.run.now))) c.contents_of.ensures

pub returns-clause-within : goal.returns-clause-within
returns-clause-within c =
    let sorted = c.sort_by_key.new.self.items in
    let same = ap (λ (changes : List Change). map (λ change. change.run) changes) c.deref.ensures.value in
    let moved = subst (λ changes. IsPermutation changes sorted) c.in_ok-changes.ensures c.sort_by_key.ensures.permutation in
    IfOk-weaker c.contents_of.result (λ contents. contents ≡ map (λ change. change.run) c.deref.result.now) (λ contents. (end : ℕ)
    → AllByRecursion (IsWithin end) (events c.args.run.now) → AllByRecursion (λ run. run.first + run.count ≤ end) contents)
    (λ contents is end all. subst (AllByRecursion (λ run. run.first + run.count ≤ end)) (sym (is ∙ same))
    (sorted_within end (events c.args.run.now) sorted moved all)) c.contents_of.ensures
