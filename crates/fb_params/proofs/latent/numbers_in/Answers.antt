use Rattle.std.proofs.lemmas.Map.Keys.{IsStrictlyIncreasing-from_sorted}
use Rattle.fb_params.proofs.latent.numbers_in.Goals as goal

pub returns-clause-rises : goal.returns-clause-rises
returns-clause-rises c = IsStrictlyIncreasing-from_sorted _ c.iter.ensures.ordered
