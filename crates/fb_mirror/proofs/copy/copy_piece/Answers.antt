use Rattle.std.proofs.Common.{codes, ◌≡◌, Some, slice_get, ap, sym, ◌∙◌, arith}
use Rattle.std.proofs.lemmas.Result.{IfOk-weaker}
use Rattle.fb_mirror.specs.Copy.{copy_lines, run_line, end_line, seal_line}
use Rattle.fb_mirror.proofs.CopyLines.{line_of_run, last_line}
use Rattle.fb_mirror.proofs.copy.copy_piece.Goals as goal

pub returns-then-run-len : goal.returns-then-run-len
returns-then-run-len c =
    let copy = c.args.copy.now in
    let is = line_of_run (codes "freeblock copy 1\n") (seal_line copy.sealed) (end_line copy.covered
    c.args.count) copy.content c.args.k c.get.result (omega (arith, c.if-k-eq0.false, c.if-k-eq1.false)) c.get.ensures.value in
    IfOk-weaker c.run_line.result (λ line. line.items ≡ run_line c.get.result)
    (λ line. slice_get (copy_lines copy c.args.count) c.args.k ≡ Some line.items)
    (λ line made. is ∙ ap Some (sym made)) c.run_line.ensures

pub returns-else-run-len : goal.returns-else-run-len
returns-else-run-len c =
    let copy = c.args.copy.now in
    let is = last_line (codes "freeblock copy 1\n") (seal_line copy.sealed) (end_line copy.covered c.args.count) copy.content c.args.k
    (omega (arith, c.if-k-eq0.false, c.if-k-eq1.false)) (omega (arith, c.len.ensures, c.if-run-len.false)) c.requires.line in
    IfOk-weaker c.end_line.result (λ line. line.items ≡ end_line copy.covered c.args.count)
    (λ line. slice_get (copy_lines copy c.args.count) c.args.k ≡ Some line.items)
    (λ line made. is ∙ ap Some (sym made)) c.end_line.ensures
