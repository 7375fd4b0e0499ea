use Rattle.fb_fastq.proofs.Words.{◌≡◌, ◌++◌, ◌<◌, ap, sym, subst, Some, arith, length, AllByRecursion, sptf, first_least, Waiting, pending_of}
use Rattle.fb_fastq.proofs.Words.{List, NumbersDiffer, IsAlong, Row, all_of_rows}
use Rattle.fb_fastq.proofs.{Least.length_pending, Chosen.rank_of_pick}
use Rattle.fb_fastq.proofs.row_buckets.RowBucketsPlacing.least_key.Goals as goal

pub soonest_of_all-requires : goal.soonest_of_all-requires
soonest_of_all-requires c =
    let ws = c.self.inside.overflow.entries ++ all_of_rows c.self.inside.rows.items in
    let all = length_pending ws in
    let some = subst (λ es. 0 < length (pending_of es)) (sym (ap (λ v. v.waiting) c.self.view_is)) c.requires.some in
    rw c.as_slice.ensures.value (record {
      some = omega (arith, all, some);
      apart = c.self.invariant.0.numbers.numbered;
      rows = c.self.invariant.0.own_rows;
      occupied = c.self.invariant.1;
      spots = subst (AllByRecursion (λ (w : Waiting). IsAlong c.args.disk.now w.1 w.0.0))
          (sym (ap (λ v. v.waiting) c.self.view_is)) c.requires.fits;
      head = c.requires.head;
      now = c.requires.now;
    })

pub returns : goal.returns
returns c = λ request others is.
    let rank = sptf c.args.disk.now c.args.head c.args.now in
    let rows = c.as_slice.result.now in
    let entries = c.self.inside.overflow.entries in
    rank_of_pick c.args.disk.now c.args.head c.args.now c.self.inside.overflow rows c.soonest_of_all.result
    (subst (λ (rs : List Row). NumbersDiffer (entries ++ all_of_rows rs)) (sym c.as_slice.ensures.value)
    c.self.invariant.0.numbers.numbered) c.soonest_of_all.ensures.first request others
    (subst (λ (rs : List Row). first_least rank (pending_of (entries ++ all_of_rows rs)) ≡ Some (request, others))
    (sym c.as_slice.ensures.value)
    (subst (λ ws. first_least rank (pending_of ws) ≡ Some (request, others)) (sym (ap (λ v. v.waiting) c.self.view_is)) is))
    c.soonest_of_all.ensures.found
