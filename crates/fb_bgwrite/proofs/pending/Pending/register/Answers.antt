use Rattle.fb_bgwrite.proofs.Words.{all_weaker, arith, refl, IsNoShorter}
use Rattle.fb_bgwrite.proofs.Lengths.{registered_too}
use Rattle.fb_bgwrite.proofs.pending.Pending.register.Goals as goal

pub invariant_of-self : goal.invariant_of-self
invariant_of-self c =
    let old = c.self.inside in (
      all_weaker (IsNoShorter old.shortest) (IsNoShorter c.lower.new.self)
          (λ e long wanted. omega (arith, long wanted, c.in_err-lower.ensures.err e.block.track.cylinder)) old.blocks c.self.invariant.0,
      c.self.invariant.1,
    )

pub invariant_of-self-2 : goal.invariant_of-self-2
invariant_of-self-2 c =
    let old = c.self.inside in
    registered_too c.register.result old.shortest c.lower.new.self old.blocks c.register.new.self _ c.self.invariant.0 c.self.invariant.1
    refl c.in_ok-lower.ensures.ok c.register.ensures.ok c.register.ensures.err
