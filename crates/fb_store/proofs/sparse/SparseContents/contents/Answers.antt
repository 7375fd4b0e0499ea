use Rattle.fb_store.proofs.Words.{[], held_at}
use Rattle.fb_store.proofs.Taken.{contents_to}
use Rattle.fb_store.proofs.sparse.SparseContents.contents.Goals as goal

pub returns-clause-fewest : goal.returns-clause-fewest
returns-clause-fewest c end ends = contents_to (held_at c.args.self.now) c.add_runs.new.runs c.end.result end c.end.ensures.none
    (c.in_ok-add_runs.ensures [] c.new-runs.ensures) ends
