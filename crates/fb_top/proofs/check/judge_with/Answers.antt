use Rattle.fb_top.proofs.Words.{rules, sym, subst, Calls, IsAccepted, Inputs, IsVerdict, key_of}
use Rattle.fb_decide.specs.RunInputs.{inputs_of}
use Rattle.fb_top.proofs.check.judge_with.Goals as goal

pub judge_by-requires-clause-fit : goal.judge_by-requires-clause-fit
judge_by-requires-clause-fit g c = subst IsAccepted (sym (c.run_inputs-inputs.ensures.inputs (key_of c.args.words.now.policy))) c.requires.fit

pub returns-in-Ok-judge_by-clause-judges : goal.returns-in-Ok-judge_by-clause-judges
returns-in-Ok-judge_by-clause-judges g c =
    let words = c.args.words.now in
    record {
      back = c.in-Ok.lines;
      back_read = search rules;
      verdict_is = subst (λ (inputs : Inputs). IsVerdict inputs (record {
        names = c.args.files.now.calls.names;
        bytes = words.bytes;
        fore = c.args.fore.now;
        back = c.in-Ok.lines;
      }) c.in-Ok-judge_by.verdict)
          (c.run_inputs-inputs.ensures.inputs (key_of words.policy))
          (subst (λ (calls : Calls). IsVerdict (inputs_of c.run_inputs-inputs.result (key_of words.policy)) (record {
            names = calls.names;
            bytes = words.bytes;
            fore = c.args.fore.now;
            back = c.in-Ok.lines;
          }) c.in-Ok-judge_by.verdict) c.run_inputs-inputs.ensures.calls c.in-Ok-judge_by.ensures);
    }
