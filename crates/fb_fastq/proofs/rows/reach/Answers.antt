use Rattle.fb_fastq.proofs.Words.{◌∙◌, ap, sym, subst, all_of_rows, AreRows, AreOccupied}
use Rattle.fb_fastq.proofs.OneMore.{no_more, no_more_rows, occupied_end}
use Rattle.fb_fastq.proofs.rows.reach.Goals as goal

pub loop-alloc-preserved : goal.loop-alloc-preserved
loop-alloc-preserved c =
    let rows = c.loop-alloc.rows.items in
    let is = c.in_ok-push.ensures.items in record {
      same = ap all_of_rows is ∙ (no_more rows c.new.result c.new.ensures.items ∙ c.loop-alloc.invariant.same);
      rows = λ old. subst (AreRows 0) (sym is) (no_more_rows 0 rows c.new.result c.new.ensures.items (c.loop-alloc.invariant.rows old));
      occupied = λ occupied old. subst (AreOccupied occupied) (sym is)
          (occupied_end occupied rows c.new.result c.new.ensures.items (c.loop-alloc.invariant.occupied occupied old));
    }
