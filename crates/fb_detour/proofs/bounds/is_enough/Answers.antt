use Rattle.fb_detour.proofs.Words.{inl, inr}
use Rattle.fb_detour.proofs.Ahead.{ahead-earliest}
use Rattle.fb_detour.proofs.bounds.is_enough.Goals as goal

pub returns : goal.returns
returns c = λ yes'. elim (c.is_no_worse.ensures.yes yes') [
  | inl less ↦ inl less
  | inr same ↦ inr (same.0, ahead-earliest c.args.best.plan c.args.track same.1)
]
