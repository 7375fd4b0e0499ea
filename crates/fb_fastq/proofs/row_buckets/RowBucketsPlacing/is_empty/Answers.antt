use Rattle.fb_fastq.proofs.Words.{◌≡◌, ℕ, ◌+◌, length, Bool, false, ap, subst, arith, ◌==◌, nat_tests, pending_of}
use Rattle.fb_fastq.proofs.{Least.tells_none, Divided.none_of_both}
use Rattle.fb_fastq.proofs.row_buckets.RowBucketsPlacing.is_empty.Goals as goal

some_left : (b : Bool) (entries all others : ℕ) → b ≡ (entries == 0) → b ≡ false → all ≡ entries + others → b ≡ (all == 0)
some_left b entries all others is some sum = grind (arith, nat_tests)

pub returns-then-is_empty : goal.returns-then-is_empty
returns-then-is_empty c =
    let inside = c.self.inside in
    let count = none_of_both inside.overflow.entries inside.rows.items inside.in_rows inside.joined c.self.invariant.0 in
    let none : length inside.overflow.entries ≡ 0 = c.is_empty.ensures.0 c.if-is_empty.true in
    subst (λ ws. (inside.in_rows == 0) ≡ (length (pending_of ws) == 0)) (ap (λ v. v.waiting) c.self.view_is)
    (ap (λ n. n == 0) (omega (arith, count, none)))

pub returns-else-is_empty : goal.returns-else-is_empty
returns-else-is_empty c =
    let inside = c.self.inside in
    let count = none_of_both inside.overflow.entries inside.rows.items inside.in_rows inside.joined c.self.invariant.0 in
    subst (λ ws. c.is_empty.result ≡ (length (pending_of ws) == 0)) (ap (λ v. v.waiting) c.self.view_is)
    (some_left c.is_empty.result (length inside.overflow.entries) _ inside.in_rows
    (tells_none c.is_empty.result (length inside.overflow.entries) c.is_empty.ensures) c.if-is_empty.false count)
