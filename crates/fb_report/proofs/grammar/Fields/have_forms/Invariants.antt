use Rattle.fb_report.proofs.Words.{◌≡◌, drop, map, fits, listed, have_forms}
use Rattle.fb_report.proofs.Cuts.{listed_left}
use Rattle.fb_report.proofs.grammar.Fields.have_forms.Given as goal

abbrev pub invariant-loop-form : goal.invariant-loop-form
invariant-loop-form l =
    have_forms (map fits (drop l.form-index l.forms)) (listed_left l.left) ≡ have_forms (map fits l.forms) (listed l.self)
