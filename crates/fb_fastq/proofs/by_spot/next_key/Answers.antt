use Rattle.fb_fastq.proofs.Words.{sym, subst, IsSome, IfSome, slice_get, order}
use Rattle.std.proofs.Common.{true≢false}
use Rattle.std.specs.BTreeMap.Range.{IsLeBy, IsEntryInRange}
use Rattle.std.specs.declared.ops.Bound.TheVariants.{Included, Unbounded}
use Rattle.fb_fastq.proofs.Keys.{no_later_is, is_no_later}
use Rattle.fb_fastq.proofs.by_spot.next_key.Goals as goal

pub returns-in-Some-clause-least : goal.returns-in-Some-clause-least
returns-in-Some-clause-least c = λ k has from.
    let lies = no_later_is c.args.start.0 c.args.start.1 k.0 k.1 from in
    let first = (c.range.ensures.in_range tt).2 k (lies, tt) has in
    let here = subst (λ ws. IfSome (slice_get ws 0) (λ e. IsLeBy order e.0 k)) (c.in-Some.ensures.steps) first in
    is_no_later c.in-Some.key.now.0 c.in-Some.key.now.1 k.0 k.1 here

pub returns-in-Some-clause-behind : goal.returns-in-Some-clause-behind
returns-in-Some-clause-behind c =
    let first = subst (λ ws. IfSome (slice_get ws 0) (IsEntryInRange order (Included c.args.start) Unbounded c.args.waiting.now))
    c.in-Some.ensures.steps (c.range.ensures.in_range tt).1 in
    is_no_later c.args.start.0 c.args.start.1 c.in-Some.key.now.0 c.in-Some.key.now.1 first.0.0

pub returns-in-None-clause-none : goal.returns-in-None-clause-none
returns-in-None-clause-none c = λ k has from. true≢false
    (sym (subst IsSome ((c.range.ensures.in_range tt).5 c.in-None.ensures.steps.0 k (no_later_is c.args.start.0 c.args.start.1 k.0 k.1 from, tt)) has))
