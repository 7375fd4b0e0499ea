use Rattle.std.proofs.Common.{◌≡◌, ◌/◌, ◌%◌, nat_eq, get_or, false, sym, ap, ◌∙◌, arith}
use Rattle.fb_calls.specs.Live.{bits_of}
use Rattle.fb_calls.proofs.Bits.{bit_at}
use Rattle.fb_calls.proofs.live_digits.is_live_block.Goals as goal

pub returns-in-0 : goal.returns-in-0
returns-in-0 c =
    let digit = get_or c.args.digits.now (c.args.block / 4) 0 in
    ap (λ v. nat_eq (v / 8 % 2) 1) c.digit_value-value.ensures
    ∙ sym (bit_at c.args.digits.now c.args.block c.requires.block ∙ ap (λ place. get_or (bits_of digit) place false) c.in-0.is)

pub returns-in-1 : goal.returns-in-1
returns-in-1 c =
    let digit = get_or c.args.digits.now (c.args.block / 4) 0 in
    ap (λ v. nat_eq (v / 4 % 2) 1) c.digit_value-value.ensures
    ∙ sym (bit_at c.args.digits.now c.args.block c.requires.block ∙ ap (λ place. get_or (bits_of digit) place false) c.in-1.is)

pub returns-in-2 : goal.returns-in-2
returns-in-2 c =
    let digit = get_or c.args.digits.now (c.args.block / 4) 0 in
    ap (λ v. nat_eq (v / 2 % 2) 1) c.digit_value-value.ensures
    ∙ sym (bit_at c.args.digits.now c.args.block c.requires.block ∙ ap (λ place. get_or (bits_of digit) place false) c.in-2.is)

pub returns-in_default : goal.returns-in_default
returns-in_default c =
    let digit = get_or c.args.digits.now (c.args.block / 4) 0 in
    let last : c.args.block % 4 ≡ 3 = omega (arith, c.in_default) in
    ap (λ v. nat_eq (v % 2) 1) c.digit_value-value.ensures
    ∙ sym (bit_at c.args.digits.now c.args.block c.requires.block ∙ ap (λ place. get_or (bits_of digit) place false) last)
