use Rattle.fb_check.proofs.Words.{length, sym, subst, ◌∙◌, arith, all_get, HasTaskBelow, BeginsLikeEnd}
use Rattle.fb_check.proofs.Beginnings.{back_ended, back_not_end}
use Rattle.fb_check.proofs.Comparisons.{one_more_row, more_rows, all_rows}
use Rattle.fb_check.proofs.comparing.Comparison.compare_back.Goals as goal

pub returns-then-is_some-clause-compared : goal.returns-then-is_some-clause-compared
returns-then-is_some-clause-compared c = λ printed back h. more_rows _ _ _ _ _ printed c.loop-i.self back c.args.rows.now c.loop-i.i
    (sym c.is_some.ensures ∙ c.if-is_some.true) (c.loop-i.invariant.compared printed back h)

pub back_line-requires-clause-named : goal.back_line-requires-clause-named
back_line-requires-clause-named c =
    all_get (HasTaskBelow (length c.args.names.now)) c.args.rows.now c.loop-i.i c.get-row.result.now c.requires.named c.get-row.ensures

pub compare_row-requires-clause-whole : goal.compare_row-requires-clause-whole
compare_row-requires-clause-whole c =
    let line = back_ended c.args.names.now c.args.sector_bytes c.args.bytes c.get-row.result.now in
    (line.0, c.as_slice.ensures.value ∙ c.in_ok-due.ensures.value ∙ line.1)

pub loop-i-preserved : goal.loop-i-preserved
loop-i-preserved c =
    let due = c.as_slice.ensures.value ∙ c.in_ok-due.ensures.value in
    record {
      ready = c.compare_row.ensures.ready
          (λ begins. back_not_end c.args.names.now c.args.sector_bytes c.args.bytes c.get-row.result.now (subst BeginsLikeEnd due begins));
      compared = λ printed back h. one_more_row _ _ _ _ _ printed c.loop-i.self c.compare_row.new.self
          back c.args.rows.now c.loop-i.i c.get-row.result.now c.as_slice.result.now c.get-row.ensures due c.compare_row.ensures.one
          (c.loop-i.invariant.compared printed back h);
    }

pub returns-clause-compared : goal.returns-clause-compared
returns-clause-compared c = λ printed back h. all_rows _ _ _ _ _ printed c.loop-i.self back c.args.rows.now c.loop-i.i
    (let past = c.loop-i-test.false in omega arith) (c.loop-i.invariant.compared printed back h)
