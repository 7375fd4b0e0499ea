use Rattle.fb_check.proofs.Words.{◌∙◌, [], true, true≢false, inl, inr, refl, sym, subst, inputs_of, state_of, HasMade, lines_of}
use Rattle.fb_check.proofs.Words.{reports_of}
use Rattle.fb_report.specs.Grammar.{fore_grammar, back_grammar}
use Rattle.fb_decide.proofs.Looping.{one_by}
use Rattle.fb_check.proofs.Judged.{at_first, going, less, back_named, wrong_now, next, none_by}
use Rattle.fb_check.proofs.judging.judge_over.Goals as goal

pub begin_fore-requires : goal.begin_fore-requires
begin_fore-requires g c = record { ends = c.reports_end_once.ensures fore_grammar (lines_of c.args.printed.fore) (inl refl) c.requires.fore }

pub begin_back-requires : goal.begin_back-requires
begin_back-requires g c = record { ends = c.reports_end_once.ensures back_grammar (lines_of c.args.printed.back) (inr refl) c.requires.back }

pub loop-goes_on-init : goal.loop-goes_on-init
loop-goes_on-init g c = record {
  inputs = sym c.inputs-inputs.ensures;
  judged = at_first (inputs_of c.inputs-inputs.result g.Q.Queue.key) (reports_of c.inputs-inputs.result c.args.printed) _ c.in_ok-fore.fore
      c.in_ok-back.back (subst (λ inputs. HasMade (inputs_of inputs g.Q.Queue.key) true []
      (state_of g.Q.Queue.pending g.Q.Queue.joined c.args.decider.now)) (sym c.inputs-inputs.ensures) c.requires.made)
      c.requires.no_fore c.requires.no_back
      (c.in_ok-fore.ensures.compared _ _) (c.in_ok-back.ensures.compared _ _ _) c.in_ok-fore.ensures.ready c.in_ok-back.ensures.ready;
  right = λ e. absurd (true≢false e);
  fits = c.requires.fits;
}

pub decide-requires-clause-made : goal.decide-requires-clause-made
decide-requires-clause-made g c =
    let judged = going (inputs_of c.inputs-inputs.result g.Q.Queue.key) (reports_of c.inputs-inputs.result
    c.args.printed) true _ _ _ _ c.loop-goes_on-test.true c.loop-goes_on.invariant.judged in (
      judged.steps,
      subst (λ inputs. HasMade (inputs_of inputs g.Q.Queue.key) true judged.steps
          (state_of g.Q.Queue.pending g.Q.Queue.joined c.loop-goes_on.decider))
          (sym c.loop-goes_on.invariant.inputs) judged.made,
    )

pub returns-in-Some : goal.returns-in-Some
returns-in-Some g c =
    let judged = going (inputs_of c.inputs-inputs.result g.Q.Queue.key) (reports_of c.inputs-inputs.result
    c.args.printed) true _ _ _ _ c.loop-goes_on-test.true c.loop-goes_on.invariant.judged in
    let one = one_by c.loop-goes_on.invariant.inputs c.in_ok-goes_on.ensures.decided judged.steps judged.made in
    rw (sym c.inputs-inputs.ensures)
    (wrong_now _ _ _ _ _ _ _ judged one c.decisions_make_a_run.ensures c.take_rows-rows.result.fore
    c.compare_rows-compared.new.fore c.in-Some.mismatch c.take_rows-rows.ensures.fore
    (c.in_ok-compared.ensures.fore_compared _ judged.fore_rows judged.fore_compared) c.in-Some.is)

pub compare_rows-compared-requires-clause-whole : goal.compare_rows-compared-requires-clause-whole
compare_rows-compared-requires-clause-whole g c = rw c.inputs-inputs.ensures c.requires.whole

pub compare_rows-compared-requires-clause-named : goal.compare_rows-compared-requires-clause-named
compare_rows-compared-requires-clause-named g c =
    let judged = going (inputs_of c.inputs-inputs.result g.Q.Queue.key) (reports_of c.inputs-inputs.result
    c.args.printed) true _ _ _ _ c.loop-goes_on-test.true c.loop-goes_on.invariant.judged in
    let one = one_by c.loop-goes_on.invariant.inputs c.in_ok-goes_on.ensures.decided judged.steps judged.made in
    back_named _ _ _ _ _ _ _ judged one c.inputs-inputs.result.calls.now.names c.take_rows-rows.result.back
    (rw c.inputs-inputs.ensures c.requires.names) c.take_rows-rows.ensures.back

pub loop-goes_on-smaller : goal.loop-goes_on-smaller
loop-goes_on-smaller g c =
    let judged = going (inputs_of c.inputs-inputs.result g.Q.Queue.key) (reports_of c.inputs-inputs.result
    c.args.printed) true _ _ _ _ c.loop-goes_on-test.true c.loop-goes_on.invariant.judged in
    let one = one_by c.loop-goes_on.invariant.inputs c.in_ok-goes_on.ensures.decided judged.steps judged.made in
    let made = c.take_rows-rows.ensures.made (inputs_of c.inputs-inputs.result g.Q.Queue.key) _ _ one.made in
    less _ _ _ _ _ _ _ judged one _ c.loop-goes_on-test.true _ made

pub loop-goes_on-preserved : goal.loop-goes_on-preserved
loop-goes_on-preserved g c =
    let judged = going (inputs_of c.inputs-inputs.result g.Q.Queue.key) (reports_of c.inputs-inputs.result
    c.args.printed) true _ _ _ _ c.loop-goes_on-test.true c.loop-goes_on.invariant.judged in
    let one = one_by c.loop-goes_on.invariant.inputs c.in_ok-goes_on.ensures.decided judged.steps judged.made in
    let made = c.take_rows-rows.ensures.made (inputs_of c.inputs-inputs.result g.Q.Queue.key) _ _ one.made in
    let right = none_by c.compare_rows-compared.new.fore.wrong c.in_default.not-Some in
    record {
      inputs = c.take_rows-rows.ensures.inputs ∙ (c.in_ok-goes_on.ensures.inputs ∙ c.loop-goes_on.invariant.inputs);
      judged = next _ _ _ _ _ _ _ judged one c.decisions_make_a_run.ensures _ made c.take_rows-rows.ensures.no_fore
          c.take_rows-rows.ensures.no_back c.take_rows-rows.result.fore c.take_rows-rows.result.back c.take_rows-rows.ensures.fore
          c.take_rows-rows.ensures.back
          c.compare_rows-compared.new.fore c.compare_rows-compared.new.back (c.in_ok-compared.ensures.fore_compared _ judged.fore_rows
          judged.fore_compared) (c.in_ok-compared.ensures.back_compared right _ judged.back_rows judged.back_compared)
          c.in_ok-compared.ensures.fore_ready (c.in_ok-compared.ensures.back_ready right);
      right = λ _. right;
      fits = subst (λ inputs. g.Q.Queue.fits c.take_rows-rows.new.self.queue inputs.disk.now) (sym c.take_rows-rows.ensures.inputs)
          (subst (λ queue. g.Q.Queue.fits queue c.decide.new.self.inputs.disk.now)
          (sym c.take_rows-rows.ensures.queue) c.in_ok-goes_on.ensures.fits);
    }

pub judge_ends-requires : goal.judge_ends-requires
judge_ends-requires g c = record {
  judged = going (inputs_of c.inputs-inputs.result g.Q.Queue.key)
      (reports_of c.inputs-inputs.result c.args.printed) _ _ _ _ _ c.loop-goes_on-test.false c.loop-goes_on.invariant.judged;
  right = c.loop-goes_on.invariant.right c.loop-goes_on-test.false;
  names = rw c.inputs-inputs.ensures c.requires.names;
  whole = rw c.inputs-inputs.ensures c.requires.whole;
}

pub returns : goal.returns
returns g c = rw (sym c.inputs-inputs.ensures) c.judge_ends.ensures
