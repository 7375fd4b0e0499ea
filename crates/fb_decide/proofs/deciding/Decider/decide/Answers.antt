use Rattle.std.proofs.Common.{refl}
use Rattle.fb_decide.proofs.Delivering.{if_ok_with}
use Rattle.fb_decide.proofs.Looping.{made_with, made_one_with, now_may_decide, now_called, made_one}
use Rattle.fb_decide.proofs.deciding.Decider.decide.Goals as goal

pub advance-requires : goal.advance-requires
advance-requires g c =
    let made = made_with _ c.as_slice.ensures.value c.requires.made.1 in
    record { may_decide = now_may_decide _ _ _ made; fits = c.requires.fits; called = now_called _ _ _ made }

pub returns-clause-decided : goal.returns-clause-decided
returns-clause-decided g c = if_ok_with _ _ _ c.advance.result
    (λ goes_on decided waits steps made. made_one_with _ c.as_slice.ensures.value
    (made_one _ steps _ (made_with _ c.as_slice.ensures.value made) goes_on _ refl decided waits))
    c.advance.ensures.decided c.advance.ensures.waiting
