use Rattle.std.proofs.Common.{not, sym, ap, ◌∙◌, arith}
use Rattle.std.specs.List.{list_all}
use Rattle.std.proofs.lemmas.List.{drop_all}
use Rattle.fb_calls.specs.Live.{bits}
use Rattle.fb_calls.proofs.Bits.{length-bits}
use Rattle.fb_calls.proofs.live_digits.is_clear_from.Goals as goal

pub returns : goal.returns
returns c = sym (c.loop-later.invariant
    ∙ ap (list_all not) (drop_all c.loop-later.later (bits c.args.digits.now) (omega (arith, length-bits c.args.digits.now))))
