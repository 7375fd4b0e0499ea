use Rattle.fb_top.proofs.Words.{List, Some, None, ap, sym, ℕ, subst, Params, make_terms, make_asks, then_ends, StopsDisk, failed_input}
use Rattle.fb_top.proofs.Words.{ReadsDisk, read_named, still_read, EndsAs, failed_at, MakeHasCause, Outcome}
use Rattle.fb_top.proofs.Ends.{unread_ends}
use Rattle.fb_top.proofs.Making.{disk_stopped}
use Rattle.fb_top.proofs.make.run_make.Goals as goal

pub returns-in-Ok-clause-cause : goal.returns-in-Ok-clause-cause
returns-in-Ok-clause-cause g c =
    let old = g.D.Desk.seen c.args.desk.now in
    c.make_for.ensures.cause old c.in-Ok.params.latent.items
    (subst (λ (name : List ℕ). ReadsDisk old name c.in-Ok.params.disk c.in-Ok.params.latent.items) c.as_str.ensures.value
    c.in-Ok.ensures.disk)
    c.in-Ok.ensures.only

pub returns-in-Err-clause-cause : goal.returns-in-Err-clause-cause
returns-in-Err-clause-cause g c =
    let terms = make_terms c.args.words.now in
    let old = g.D.Desk.seen c.args.desk.now in
    let new = g.D.Desk.seen c.read_disk.new.desk in
    subst (MakeHasCause terms old new) (sym c.from.ensures) (disk_stopped terms old new c.in-Err.error c.in-Err.ensures.only
    (subst (λ (name : List ℕ). StopsDisk name old new c.in-Err.error) c.as_str.ensures.value c.in-Err.ensures.stops))

pub returns-in-Ok-clause-inputs : goal.returns-in-Ok-clause-inputs
returns-in-Ok-clause-inputs g c =
    let asks = make_asks (make_terms c.args.words.now) in
    let named = ap Some (sym c.as_str.ensures.value) in
    still_read asks.inputs (g.D.Desk.seen c.args.desk.now) (g.D.Desk.seen c.read_disk.new.desk) (g.D.Desk.seen c.make_for.new.desk)
    (read_named asks Params c.as_str.result.now None (g.D.Desk.seen c.args.desk.now) (g.D.Desk.seen c.read_disk.new.desk) named
    c.in-Ok.ensures.only c.in-Ok.ensures.opened (c.in-Ok.ensures.calls asks named)).inputs c.make_for.ensures.inputs

pub returns-in-Err-clause-inputs : goal.returns-in-Err-clause-inputs
returns-in-Err-clause-inputs g c =
    let asks = make_asks (make_terms c.args.words.now) in
    let named = ap Some (sym c.as_str.ensures.value) in
    (read_named asks Params c.as_str.result.now (failed_input c.in-Err.error) (g.D.Desk.seen c.args.desk.now)
    (g.D.Desk.seen c.read_disk.new.desk) named c.in-Err.ensures.only c.in-Err.ensures.opened (c.in-Err.ensures.calls asks named)).inputs

pub returns-in-Ok-clause-calls : goal.returns-in-Ok-clause-calls
returns-in-Ok-clause-calls g c = then_ends (failed_at c.make_for.result) _
    (c.in-Ok.ensures.calls (make_asks (make_terms c.args.words.now)) (ap Some (sym c.as_str.ensures.value))) c.make_for.ensures.calls

pub returns-in-Err-clause-calls : goal.returns-in-Err-clause-calls
returns-in-Err-clause-calls g c =
    let asks = make_asks (make_terms c.args.words.now) in
    subst (λ (outcome : Outcome). EndsAs asks outcome (g.D.Desk.seen c.args.desk.now).calls (g.D.Desk.seen c.read_disk.new.desk).calls)
    (sym c.from.ensures) (unread_ends _ c.in-Err.error _ _ (c.in-Err.ensures.calls asks (ap Some (sym c.as_str.ensures.value))))
