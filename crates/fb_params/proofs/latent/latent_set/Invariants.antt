use Rattle.fb_params.proofs.Words.{◌≡◌, ◌<◌, map, nat_le, take, drop, find, AllByRecursion, view, number_of, ascending}
use Rattle.fb_params.proofs.latent.latent_set.Given as goal

abbrev pub invariant-loop-value : goal.invariant-loop-value
invariant-loop-value l = record {
  inside : find (λ lbn. nat_le l.count lbn) (map number_of (map view l.listed))
      ≡ find (λ lbn. nat_le l.count lbn) (map number_of (map view (drop l.value-index l.listed)));
  kept : l.latent.keys ≡ ascending (map number_of (map view (take l.value-index l.listed)));
  below : AllByRecursion (λ lbn. lbn < l.count) l.latent.keys;
}
