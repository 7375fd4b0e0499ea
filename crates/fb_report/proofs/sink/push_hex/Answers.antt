use Rattle.fb_report.proofs.Words.{refl, sym, ap, ◌∙◌, ◌++◌, arith, append-nil, drop_all, encode_lower}
use Rattle.fb_report.proofs.Digits.{digits_more, no_digits}
use Rattle.fb_report.proofs.sink.push_hex.Goals as goal

pub loop-byte-preserved : goal.loop-byte-preserved
loop-byte-preserved c =
    digits_more c.args.bytes.now c.loop-byte.text.items c.push_digits.new.text.items c.loop-byte.byte-index _ 0 _ c.loop-byte-test.true refl
    c.loop-byte.invariant c.in_ok-push_digits.ensures

pub returns : goal.returns
returns c =
    sym (append-nil c.loop-byte.text.items)
    ∙ ap (λ rest. c.loop-byte.text.items ++ rest) (no_digits _ refl)
    ∙ ap (λ rest. c.loop-byte.text.items ++ encode_lower rest) (sym (drop_all c.loop-byte.byte-index c.args.bytes.now (omega arith)))
    ∙ c.loop-byte.invariant
