use Rattle.fb_top.proofs.Words.{List, ℕ, ◌∙◌, Some, ap, sym, subst, string_bytes, err_from_is_err_and, Back, Copied, copy_lines}
use Rattle.fb_top.proofs.Words.{back_lines, then_result, failed_output, StopsTexts, WritesAll, WritesTexts, joined, one_text}
use Rattle.fb_top.proofs.Words.{stopped_sooner, then_texts}
use Rattle.fb_top.proofs.array.write_rebuild.Goals as goal

pub returns-in_err-write_lines-clause-texts : goal.returns-in_err-write_lines-clause-texts
returns-in_err-write_lines-clause-texts g c =
    let old = g.D.Desk.seen c.args.desk.now in
    let new = g.D.Desk.seen c.write_lines.new.desk in
    let words = c.args.words.now in
    let lines = c.args.back.now in
    let copy = c.args.copy.now in
    let text = joined (back_lines lines.names.now lines.sector_bytes lines.bytes lines.run.now) in
    let error = c.in_err-write_lines.field-0.0 in
    let failed = err_from_is_err_and c.from_residual.result c.from_residual.ensures.1 in
    rw (failed.1, failed.2) (stopped_sooner (one_text Back (string_bytes words.back) text)
    (one_text Copied (string_bytes words.copy) (joined (copy_lines copy.copy.now copy.sectors))) old new error
    (subst (λ (name : List ℕ). StopsTexts (one_text Back name text) old new error) c.as_str.ensures.value
    c.in_err-write_lines.ensures.texts))

pub returns-clause-texts : goal.returns-clause-texts
returns-clause-texts g c =
    let old = g.D.Desk.seen c.args.desk.now in
    let mid = g.D.Desk.seen c.write_lines.new.desk in
    let new = g.D.Desk.seen c.write_lines-2.new.desk in
    let words = c.args.words.now in
    let lines = c.args.back.now in
    let copy = c.args.copy.now in
    let text = joined (back_lines lines.names.now lines.sector_bytes lines.bytes lines.run.now) in
    let copied = joined (copy_lines copy.copy.now copy.sectors) in
    then_texts (one_text Back (string_bytes words.back) text) (one_text Copied (string_bytes words.copy) copied) new
    (subst (λ (name : List ℕ). WritesAll (one_text Back name text) old mid) c.as_str.ensures.value c.in_ok-write_lines.ensures.texts)
    (((λ e. cc), tt), tt) c.write_lines-2.result
    (subst (λ (name : List ℕ). WritesTexts (one_text Copied name copied) mid new c.write_lines-2.result) c.as_str-2.ensures.value
    c.write_lines-2.ensures.texts)

pub returns-clause-calls : goal.returns-clause-calls
returns-clause-calls g c = λ asked back copy.
    then_result failed_output c.write_lines-2.result _ (c.in_ok-write_lines.ensures.calls asked (back ∙ ap Some (sym c.as_str.ensures.value)))
    (c.write_lines-2.ensures.calls asked (copy ∙ ap Some (sym c.as_str-2.ensures.value)))
