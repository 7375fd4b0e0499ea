use Rattle.fb_fastq.proofs.Words.{sym, subst, inl, inr, IsSome, cases_lt}
use Rattle.std.proofs.Common.{true≢false}
use Rattle.fb_fastq.proofs.Keys.{before_spot, spots_fall}
use Rattle.fb_fastq.proofs.by_spot.last_before.Goals as goal

pub returns-in-Some-clause-greatest : goal.returns-in-Some-clause-greatest
returns-in-Some-clause-greatest c = λ k has below.
    let inside = before_spot k.0 c.args.spot k.1 below in
    let last = (c.range.ensures.in_range tt).4 (c.in-Some.key.now, c.in-Some.request.now) c.next_back.new.self c.in-Some.ensures.steps k
    (tt, inside) has in
    spots_fall c.in-Some.key.now.0 c.in-Some.key.now.1 k.0 k.1 last

pub returns-in-None-clause-none : goal.returns-in-None-clause-none
returns-in-None-clause-none c = λ k has. elim (cases_lt k.0 c.args.spot) [
  | inl below ↦ absurd (true≢false
      (sym (subst IsSome ((c.range.ensures.in_range tt).5 c.in-None.ensures.steps.0 k (tt, before_spot k.0 c.args.spot k.1 below)) has)))
  | inr from ↦ from
]
