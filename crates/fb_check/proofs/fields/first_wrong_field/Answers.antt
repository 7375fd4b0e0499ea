use Rattle.fb_check.proofs.Words.{rules, tests, ◌≡◌, ◌∙◌, ap, arith, ◌==◌, zip, bytes_eq, YieldsList-from_zip, count_from_yields_List}
use Rattle.fb_check.proofs.Words.{YieldsList-at, YieldsList-from_take_while, YieldsList-from_slice_split, length-prefix_len, report_fields}
use Rattle.std.specs.Prelude.{◌+◌}
use Rattle.std.proofs.lemmas.Iterator.{YieldsList-from_slice}
use Rattle.fb_check.proofs.FirstField.{agreeing, differ_at, few_agree}
use Rattle.fb_check.proofs.fields.first_wrong_field.Goals as goal

counted : (c : goal.After-count) → c.count.result ≡ agreeing (report_fields c.args.due.now) c.args.printed.now
counted c = count_from_yields_List _ _ c.count.ensures.ran
    (YieldsList-from_take_while _ (λ p. bytes_eq p.0 p.1)
    (YieldsList-at c.take_while-same.ensures.source (YieldsList-from_zip
    (YieldsList-at c.zip-fields.ensures.first (YieldsList-from_slice_split _ (λ byte. byte == 32) c.args.due.now c.split.ensures.rest
    c.split.ensures.done c.split.ensures.closure (λ x r q k. search (rules, tests))))
    (YieldsList-from_slice {s = c.zip-fields.result.b} c.as_slice.result.now c.zip-fields.ensures.second.0)))
    c.take_while-same.ensures.closure c.take_while-same.ensures.done (λ x r q k. search (rules, tests)))
    ∙ (length-prefix_len (λ p. bytes_eq p.0 p.1) (zip (report_fields c.args.due.now) c.as_slice.result.now)
    ∙ ap (agreeing (report_fields c.args.due.now)) c.as_slice.ensures)

pub overflow_cast-result : goal.overflow_cast-result
overflow_cast-result c =
    omega (arith, counted c, few_agree (report_fields c.args.due.now) c.args.printed.now, c.requires.few)

pub overflow_add-result : goal.overflow_add-result
overflow_add-result c =
    omega (arith, counted c, few_agree (report_fields c.args.due.now) c.args.printed.now, c.requires.few)

pub returns : goal.returns
returns c = (
  _,
  ap (λ n. n + 1) (counted c),
  differ_at (report_fields c.args.due.now) c.args.printed.now c.requires.differ,
)
