use Rattle.fb_geometry.proofs.Words.{arith, sym}
use Rattle.fb_geometry.proofs.{Marking.none_next}
use Rattle.fb_geometry.proofs.marks.is_marked.Goals as goal

pub returns-then-next-marks : goal.returns-then-next-marks
returns-then-next-marks c = sym (none_next c.args.marks.now c.requires.ascending c.args.position c.rank-next.result
    c.rank-next.ensures.value (omega arith) c.args.position (omega arith))
