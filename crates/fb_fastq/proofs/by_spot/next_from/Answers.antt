use Rattle.fb_fastq.proofs.Words.{sym, subst, inl, inr, IsSome, IfSome, slice_get, cases_lt, order}
use Rattle.std.proofs.Common.{true≢false}
use Rattle.std.specs.BTreeMap.Range.{IsLeBy}
use Rattle.fb_fastq.proofs.Keys.{at_spot, spots_rise}
use Rattle.fb_fastq.proofs.by_spot.next_from.Goals as goal

pub returns-in-Some-clause-least : goal.returns-in-Some-clause-least
returns-in-Some-clause-least c = λ k has from.
    let lies = at_spot c.args.spot k.0 k.1 from in
    let first = (c.range.ensures.in_range tt).2 k (lies, tt) has in
    let here = subst (λ ws. IfSome (slice_get ws 0) (λ e. IsLeBy order e.0 k)) (c.in-Some.ensures.steps) first in
    spots_rise c.in-Some.key.now.0 c.in-Some.key.now.1 k.0 k.1 here

pub returns-in-None-clause-none : goal.returns-in-None-clause-none
returns-in-None-clause-none c = λ k has. elim (cases_lt k.0 c.args.spot) [
  | inl below ↦ below
  | inr from ↦ absurd (true≢false
      (sym (subst IsSome ((c.range.ensures.in_range tt).5 c.in-None.ensures.steps.0 k (at_spot c.args.spot k.0 k.1 from, tt)) has)))
]
