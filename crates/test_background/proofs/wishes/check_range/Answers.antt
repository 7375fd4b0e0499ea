use Rattle.std.proofs.Common.{refl}
use Rattle.test_background.proofs.wishes.check_range.Goals as goal

pub deliver-requires : goal.deliver-requires
deliver-requires g c = rw (
  c.abort.ensures.states,
  c.in_ok-register-3.ensures.ok,
  c.in_ok-register-2.ensures.ok,
  c.in_ok-register.ensures.ok,
  c.requires,
) (_, 1, refl, refl, refl)
