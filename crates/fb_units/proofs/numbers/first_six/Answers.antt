use Rattle.std.proofs.Common.{◌+◌, ◌-◌, ◌*◌, drop, sym, ap, arith, ◌∙◌}
use Rattle.std.proofs.lemmas.List.{at_drop_more}
use Rattle.std.proofs.lemmas.Nat.{pow-add}
use Rattle.fb_units.specs.Numbers.{digits_after, six_of}
use Rattle.fb_units.proofs.SixDigits.{length-six_of, get_or-six_of}
use Rattle.fb_units.proofs.numbers.first_six.Goals as goal

pub loop-index-preserved : goal.loop-index-preserved
loop-index-preserved c =
    let i = c.loop-index.index in
    let ds = c.args.digits.now in
    let v = c.loop-index.value in
    record {
      small = omega (arith, pow-add 10 i 1);
      rest =
          ap (λ x. digits_after (10 * v + x) (drop (i + 1) (six_of ds)))
          (c.digit_at.ensures.value ∙ ap (λ x. x - 48) (sym (get_or-six_of ds i 0 (omega arith))))
          ∙ sym (at_drop_more (digits_after v) (six_of ds) i 0 (omega (arith, length-six_of ds)))
          ∙ c.loop-index.invariant.rest;
    }
