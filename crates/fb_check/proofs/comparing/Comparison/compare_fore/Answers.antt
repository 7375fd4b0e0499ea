use Rattle.fb_check.proofs.Words.{sym, subst, ◌∙◌, arith, BeginsLikeEnd}
use Rattle.fb_check.proofs.Beginnings.{fore_not_end}
use Rattle.fb_check.proofs.Comparisons.{one_more_row, more_rows, all_rows}
use Rattle.fb_check.proofs.comparing.Comparison.compare_fore.Goals as goal

pub returns-then-is_some-clause-compared : goal.returns-then-is_some-clause-compared
returns-then-is_some-clause-compared c = λ printed fore h. more_rows _ _ _ _ _ printed c.loop-i.self fore c.args.rows.now c.loop-i.i
    (sym c.is_some.ensures ∙ c.if-is_some.true) (c.loop-i.invariant.compared printed fore h)

pub loop-i-preserved : goal.loop-i-preserved
loop-i-preserved c =
    let due = c.as_slice.ensures.value ∙ c.in_ok-due.ensures.value in
    record {
      ready = c.compare_line.ensures.ready
          (λ begins. fore_not_end c.args.sector_bytes c.args.bytes c.get.result.now (subst BeginsLikeEnd due begins));
      compared = λ printed fore h. one_more_row _ _ _ _ _ printed c.loop-i.self c.compare_line.new.self fore c.args.rows.now c.loop-i.i
          c.get.result.now c.as_slice.result.now c.get.ensures due c.compare_line.ensures.one (c.loop-i.invariant.compared printed fore h);
    }

pub returns-clause-compared : goal.returns-clause-compared
returns-clause-compared c = λ printed fore h. all_rows _ _ _ _ _ printed c.loop-i.self fore c.args.rows.now c.loop-i.i
    (let past = c.loop-i-test.false in omega arith) (c.loop-i.invariant.compared printed fore h)
