use Rattle.fb_top.proofs.Words.{ℕ, List, Some, None, ◌∙◌, ap, arith, inl, inr, refl, rules, sym, subst, err_from_is_err_and, ForeReport}
use Rattle.fb_top.proofs.Words.{BackReport, fore_grammar, report_of, check_terms, check_asks, check_names, failed_input, IsHeld}
use Rattle.fb_top.proofs.Words.{ReadsReport, RefusesReport, files_of, and_then, ends_at, read_named}
use Rattle.std.proofs.lemmas.Result.{IfErr-weaker}
use Rattle.fb_inputs.specs.Account.{failed_in}
use Rattle.fb_inputs.specs.Causes.{StopsReport}
use Rattle.fb_inputs.specs.declared.error.InputsError.TheVariants as faults
use Rattle.fb_inputs.proofs.Account.{ends_in, ends_then, up_to}
use Rattle.fb_inputs.proofs.Later.{at_report}
use Rattle.fb_top.proofs.Checking.{report_before}
use Rattle.fb_top.proofs.check.judge_printed.Goals as goal

pub returns-in_err-text-clause-account : goal.returns-in_err-text-clause-account
returns-in_err-text-clause-account g c =
    let asks = check_asks (check_terms c.args.words.now) in
    let named = ap Some (sym c.as_str.ensures.value) in
    let gives = err_from_is_err_and c.from_residual.result c.from_residual.ensures.1 in
    rw (gives.1, gives.2) (up_to BackReport (read_named asks ForeReport c.as_str.result.now (failed_input c.in_err-text.field-0.0)
    (g.D.Desk.seen c.args.desk.now) (g.D.Desk.seen c.read_printed.new.desk) named c.in_err-text.ensures.only c.in_err-text.ensures.opened
    (c.in_err-text.ensures.calls asks named)) (omega arith))

pub returns-in_err-text-clause-stops : goal.returns-in_err-text-clause-stops
returns-in_err-text-clause-stops g c =
    let terms = check_terms c.args.words.now in
    let mid = g.D.Desk.seen c.args.desk.now in
    let new = g.D.Desk.seen c.read_printed.new.desk in
    let error = c.in_err-text.field-0.0 in
    let gives = err_from_is_err_and c.from_residual.result c.from_residual.ensures.1 in
    rw (gives.1, gives.2) (λ first takes.
    at_report (check_names terms) first mid new takes.account.held error ForeReport (inl refl)
    (record { files = files_of c.args.files.now; accepts = takes.accepts }) terms.fore refl (takes.account.later ForeReport (omega arith))
    (ends_then (ends_at takes.account) (omega arith) c.in_err-text.ensures.only)
    (subst (λ (name : List ℕ). StopsReport ForeReport name mid new error) c.as_str.ensures.value c.in_err-text.ensures.stops))

pub returns-in-Ok-clause-account : goal.returns-in-Ok-clause-account
returns-in-Ok-clause-account g c =
    let asks = check_asks (check_terms c.args.words.now) in
    let named = ap Some (sym c.as_str.ensures.value) in
    let mid = g.D.Desk.seen c.read_printed.new.desk in
    let new = g.D.Desk.seen c.judge_with.new.desk in
    and_then
    (read_named asks ForeReport c.as_str.result.now None (g.D.Desk.seen c.args.desk.now) mid named c.in_ok-text.ensures.only
    c.in_ok-text.ensures.opened (c.in_ok-text.ensures.calls asks named)) (omega arith)
    (read_named asks BackReport (check_terms c.args.words.now).back (failed_in c.judge_with.result) mid new refl c.judge_with.ensures.only
    c.judge_with.ensures.opened (ends_in asks c.judge_with.result mid.calls new.calls c.judge_with.ensures.calls))

pub returns-in-Ok-clause-stops : goal.returns-in-Ok-clause-stops
returns-in-Ok-clause-stops g c =
    let terms = check_terms c.args.words.now in
    let old = g.D.Desk.seen c.args.desk.now in
    let mid = g.D.Desk.seen c.read_printed.new.desk in
    let new = g.D.Desk.seen c.judge_with.new.desk in
    let only = c.in_ok-text.ensures.only in
    let reads : ReadsReport old terms.fore fore_grammar c.in-Ok.fore = search rules in
    IfErr-weaker c.judge_with.result _ _ (λ error stops first takes.
    at_report (check_names terms) first mid new (λ name. only.held name ∙ takes.account.held name) error BackReport (inr refl)
    (record {
      files = record { files = files_of c.args.files.now; accepts = takes.accepts };
      name = terms.fore;
      given = refl;
      lines = c.in-Ok.fore;
      reads_fore = report_before terms first old takes.account.held terms.fore fore_grammar c.in-Ok.fore reads;
    }) terms.back refl (only.inputs BackReport (λ e. cc) ∙ takes.account.later BackReport (omega arith))
    (ends_then (ends_then (ends_at takes.account) (omega arith) only) (omega arith) c.judge_with.ensures.only) stops)
    c.judge_with.ensures.stops

pub returns-in-Err-Fault-clause-stops : goal.returns-in-Err-Fault-clause-stops
returns-in-Err-Fault-clause-stops g c = λ first takes.
    let terms = check_terms c.args.words.now in
    let old = g.D.Desk.seen c.args.desk.now in
    let new = g.D.Desk.seen c.read_printed.new.desk in
    let fault = c.in-Err-Fault.fault in
    let refused = rw c.in-Err-Fault.field-0-is at c.in-Err-Fault.ensures.answer in
    let reads : RefusesReport old terms.fore fore_grammar fault.line = record {
      bytes = c.in_ok-text.text.items;
      held = subst (λ (name : List ℕ). IsHeld old name c.in_ok-text.text.items) c.as_str.ensures.value c.in_ok-text.ensures.whole;
      within = c.in_ok-text.ensures.few;
      spells = ap (report_of fore_grammar) (sym c.as_slice.ensures.value) ∙ refused.1;
    } in
    rw c.in-Err-Fault.field-0-is
    (at_report (check_names terms) first old new takes.account.held (faults.Reports fault) ForeReport (inl refl)
    (record { files = files_of c.args.files.now; accepts = takes.accepts }) terms.fore refl (takes.account.later ForeReport (omega arith))
    (ends_then (ends_at takes.account) (omega arith) c.in_ok-text.ensures.only) (inl (fault, refl, (refused.0, reads))))

pub returns-clause-stops : goal.returns-clause-stops
returns-clause-stops g c = λ first takes. record {
  input = ForeReport;
  before = record { files = files_of c.args.files.now; accepts = takes.accepts };
  ends = ends_then (ends_at takes.account) (omega arith) c.in_ok-text.ensures.only;
}
