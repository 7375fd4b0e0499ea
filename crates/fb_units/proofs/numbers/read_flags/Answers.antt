use Rattle.std.proofs.Common.{ℕ, ◌<◌, ◌≤◌, arith, ◌^◌, ◌+◌, ◌∙◌, sym, get_or, drop}
use Rattle.std.proofs.lemmas.Nat.{pow-add}
use Rattle.std.proofs.lemmas.List.{at_drop_more}
use Rattle.std.proofs.Math.Nat.{pow-le-pow_right}
use Rattle.fb_units.proofs.Flags.{hex_from, hex_more}
use Rattle.fb_units.proofs.numbers.read_flags.Goals as goal

-- a digit more fits
most : (i : ℕ) → i < 16 → 16 ^ (i + 1) ≤ 16 ^ 16
most i h = pow-le-pow_right (omega arith) {i = i + 1} {j = 16} (omega arith)

pub overflow_mul-value : goal.overflow_mul-value
overflow_mul-value c = let i = c.loop-byte.byte-index in omega (arith, pow-add 16 i 1, most c.loop-byte.byte-index (omega arith))

pub overflow_add-value : goal.overflow_add-value
overflow_add-value c = let i = c.loop-byte.byte-index in
    omega (arith, pow-add 16 i 1, most c.loop-byte.byte-index (omega arith), c.in_ok-digit.ensures)

pub loop-byte-preserved : goal.loop-byte-preserved
loop-byte-preserved c =
    let i = c.loop-byte.byte-index in
    let ds = c.behind_mark-digits.result.now in
    let digit = c.in_ok-digit.ensures.value in
    record {
      small = omega (arith, pow-add 16 i 1, digit.0, digit.1);
      rest =
          hex_more c.loop-byte.value (get_or ds i 0) c.in_ok-digit.digit (drop (i + 1) ds) digit.0 digit.1
          ∙ sym (at_drop_more (hex_from c.loop-byte.value) ds i 0 c.loop-byte-test.true)
          ∙ c.loop-byte.invariant.rest;
    }
