use Rattle.fb_check.proofs.Words.{subst, inputs_of, reports_of, IsVerdict}
use Rattle.std.specs.Prelude.{IfOk}
use Rattle.fb_check.proofs.judging.judge_printed.Goals as goal

pub judge_over-requires : goal.judge_over-requires
judge_over-requires g c = record {
  made = c.in_ok-decider.ensures.made;
  no_fore = c.in_ok-decider.ensures.no_fore;
  no_back = c.in_ok-decider.ensures.no_back;
  fits = c.in_ok-decider.ensures.fits;
  names = rw c.in_ok-decider.ensures.inputs c.requires.names;
  whole = rw c.in_ok-decider.ensures.inputs c.requires.whole;
  fore = c.requires.fore;
  back = c.requires.back;
}

pub returns : goal.returns
returns g c = subst (λ inputs. IfOk c.judge_over.result (IsVerdict (inputs_of inputs g.Q.Queue.key) (reports_of inputs c.args.printed)))
    c.in_ok-decider.ensures.inputs c.judge_over.ensures
