use Rattle.fb_fastq.proofs.Words.{◌≡◌, subst, all_of_rows, IsMore, AreOccupied}
use Rattle.std.specs.Prelude.{OnErr, OnOk}
use Rattle.fb_fastq.proofs.rows.put.Goals as goal

pub returns-clause-more : goal.returns-clause-more
returns-clause-more c =
    subst (λ ws. OnOk c.add_to.result (IsMore c.args.waiting ws (all_of_rows c.add_to.new.rows.items))) c.in_ok-reach.ensures.same
    c.add_to.ensures.more

pub returns-clause-err : goal.returns-clause-err
returns-clause-err c =
    subst (λ ws. OnErr c.add_to.result (all_of_rows c.add_to.new.rows.items ≡ ws)) c.in_ok-reach.ensures.same c.add_to.ensures.err

pub returns-clause-occupied : goal.returns-clause-occupied
returns-clause-occupied c =
    c.add_to.ensures.occupied c.occupy.new.occupied c.in_ok-occupy.ensures.has
    (subst (AreOccupied c.occupy.new.occupied) c.as_slice.ensures.value c.in_ok-occupy.ensures.occupied)
