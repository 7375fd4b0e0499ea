use Rattle.std.proofs.Common.{◌∙◌, ap, arith, ◌++◌, take, length, refl, sym}
use Rattle.std.proofs.lemmas.List.{length-take-le}
use Rattle.fb_units.proofs.Written.{read_back, short_whole, three_parts}
use Rattle.fb_units.proofs.numbers.write_millis.Goals as goal

pub returns-clause-text : goal.returns-clause-text
returns-clause-text c = c.put.ensures.text ∙ ap (λ x. take c.put-fraction.result c.put-fraction.new.into ++ x) c.last_six.ensures
    ∙ three_parts c.args.value (take 0 c.args.into.now) (take c.put-point.result c.put-point.new.into)
    (take c.put-fraction.result c.put-fraction.new.into) refl
    (c.put-point.ensures.text ∙ ap (λ x. take 0 c.args.into.now ++ x) (c.as_bytes-whole.ensures.value ∙ c.format.ensures.text))
    c.put-fraction.ensures.text

pub returns-clause-short : goal.returns-clause-short
returns-clause-short c =
    omega (
      arith,
      c.put.ensures.end,
      c.put-fraction.ensures.end,
      c.put-point.ensures.end,
      ap length c.last_six.ensures,
      ap length (c.as_bytes-whole.ensures.value ∙ c.format.ensures.text),
      short_whole c.args.value c.ranges.value.fits,
    )

pub returns-clause-length : goal.returns-clause-length
returns-clause-length c = sym (length-take-le c.put.result c.put.new.into (omega (arith, c.put.array_long, returns-clause-short c)))
    ∙ ap length (returns-clause-text c)

pub returns-clause-back : goal.returns-clause-back
returns-clause-back c = read_back c.args.value
