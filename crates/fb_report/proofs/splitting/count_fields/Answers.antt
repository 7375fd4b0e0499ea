use Rattle.fb_report.proofs.Words.{arith, at_drop_more, drop, get_or, length, report_fields, ◌+◌}
use Rattle.fb_report.proofs.Cuts.{space_more, other_more}
use Rattle.fb_report.proofs.splitting.count_fields.Goals as goal
use Rattle.fb_report.proofs.splitting.count_fields.Goals.{then-byte-eq32, else-byte-eq32}

pub loop-byte-preserved : goal.loop-byte-preserved
loop-byte-preserved c =
    let line = c.args.line.now in
    let i = c.loop-byte.byte-index in
    let next = at_drop_more (λ rest. length (report_fields rest)) line i 0 c.loop-byte-test.true in
    let so_far = c.loop-byte.invariant in
    elim c.if-byte-eq32.branch [
      | then-byte-eq32 w ↦ record {
        few = omega (arith, w.spaces-is, so_far.few);
        rest = omega (arith, w.spaces-is, so_far.rest, next, space_more (get_or line i 0) (drop (i + 1) line) w.if-byte-eq32.true);
      }
      | else-byte-eq32 w ↦ record {
        few = omega (arith, w.spaces-is, so_far.few);
        rest = omega (arith, w.spaces-is, so_far.rest, next, other_more (get_or line i 0) (drop (i + 1) line) w.if-byte-eq32.false);
      }
    ]
