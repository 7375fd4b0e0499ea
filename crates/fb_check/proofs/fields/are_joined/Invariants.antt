use Rattle.fb_check.proofs.Joined.{IsLeft}
use Rattle.fb_check.proofs.fields.are_joined.Given as goal

abbrev pub invariant-loop-i : goal.invariant-loop-i
invariant-loop-i l = IsLeft l.fields l.text l.rest l.i
