use Rattle.fb_params.proofs.Words.{◌<◌, arith}
use Rattle.std.proofs.lemmas.Grind.{common_steps}
use Rattle.fb_params.proofs.LatentSets.{all-insert_key}
use Rattle.fb_params.proofs.latent.latent_set.Goals as goal

pub loop-value-preserved : goal.loop-value-preserved
loop-value-preserved c = record {
  inside = grind (arith, common_steps);
  kept = grind (arith, common_steps);
  below = rw c.in_ok-insert.ensures.keys (all-insert_key (λ lbn. lbn < c.args.count) c.loop-value.latent.keys c.number-lbn.result
      c.if-lbn-count.false c.loop-value.invariant.below);
}
