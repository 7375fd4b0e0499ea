use Rattle.fb_maker.proofs.Words.{◌≡◌, take, true, list_all, is_long}
use Rattle.fb_maker.proofs.script.are_long.Given as goal

abbrev pub invariant-loop-i : goal.invariant-loop-i
invariant-loop-i l = list_all is_long (take l.i l.geometry.zones) ≡ true
