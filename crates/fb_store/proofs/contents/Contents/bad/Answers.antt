use Rattle.fb_store.proofs.Words.{◌≡◌, ◌≤◌, ◌+◌, ℕ, List, ap, ◌∙◌, arith, take, Some, slice_get, sum_by, get_or_from_slice_get, ContentRun}
use Rattle.fb_store.proofs.Words.{Content, Filled, Unreadable, bad_in}
use Rattle.std.proofs.lemmas.Option.{slice_get_within}
use Rattle.std.proofs.lemmas.List.Sums.{sum_by_more, sum_by_more_le, sum_by-le-sum_by, sum_by-take-le}
use Rattle.fb_store.proofs.contents.Contents.bad.Goals as goal

bad_within : (first count : ℕ) (content : Content) → bad_in (record { first = first; count = count; content = content }) ≤ count
bad_within first count (Filled writer) = omega arith
bad_within first count Unreadable = omega arith

bad-le : (run : ContentRun) → bad_in run ≤ run.count
bad-le run = bad_within run.first run.count run.content

one_more : (runs : List ContentRun) (i : ℕ) (run : ContentRun) → slice_get runs i ≡ Some run
    → sum_by bad_in (take i runs) + bad_in run ≤ sum_by (λ run. run.count) runs
one_more runs i run there =
    let this = ap bad_in (get_or_from_slice_get runs i run run there) in
    omega (
      arith,
      this,
      sum_by_more_le bad_in runs i run (slice_get_within runs i run there),
      sum_by-le-sum_by bad_in (λ (run : ContentRun). run.count) runs bad-le,
    )

next : (runs : List ContentRun) (i : ℕ) (run : ContentRun) → slice_get runs i ≡ Some run
    → sum_by bad_in (take (i + 1) runs) ≡ sum_by bad_in (take i runs) + bad_in run
next runs i run there = sum_by_more bad_in runs i run (slice_get_within runs i run there)
    ∙ ap (λ r. sum_by bad_in (take i runs) + bad_in r) (get_or_from_slice_get runs i run run there)

pub overflow_add-bad : goal.overflow_add-bad
overflow_add-bad c =
    let so_far : c.loop-i.bad ≡ sum_by bad_in (take c.loop-i.i c.args.self.now) = c.loop-i.invariant in
    omega (arith, c.requires, so_far, c.unreadable-bad.ensures, one_more c.args.self.now c.loop-i.i c.get.result c.get.ensures.value)

pub loop-i-preserved : goal.loop-i-preserved
loop-i-preserved c =
    let so_far : c.loop-i.bad ≡ sum_by bad_in (take c.loop-i.i c.args.self.now) = c.loop-i.invariant in
    let more : c.loop-i.bad + c.unreadable-bad.result ≡ sum_by bad_in (take (c.loop-i.i + 1) c.args.self.now) =
    omega (arith, so_far, c.unreadable-bad.ensures, next c.args.self.now c.loop-i.i c.get.result c.get.ensures.value) in
    more

pub returns-clause-most : goal.returns-clause-most
returns-clause-most c =
    let so_far : c.loop-i.bad ≡ sum_by bad_in (take c.loop-i.i c.args.self.now) = c.loop-i.invariant in
    omega (
      arith,
      so_far,
      sum_by-take-le bad_in c.args.self.now c.loop-i.i,
      sum_by-le-sum_by bad_in (λ (run : ContentRun). run.count) c.args.self.now bad-le,
    )
