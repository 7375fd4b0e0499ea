use Rattle.fb_store.proofs.Runs.{sectors_of-runs_of, AreFewest-runs_of}
use Rattle.fb_store.proofs.store.runs_are_fewest.Goals as goal

pub returns : goal.returns
returns c = λ sectors. record { contents = sectors_of-runs_of sectors; fewest = AreFewest-runs_of sectors }
