use Rattle.fb_report.proofs.Words.{[], ◌∷◌, refl, inl, inr, codes, decimal, track_text, back_grammar, IsLine, is_row}
use Rattle.fb_report.proofs.{Fields.in_row, PrintedForms.word_is}
use Rattle.fb_report.proofs.PrintedRows.{◌&◌, ended_as}
use Rattle.fb_report.proofs.back_rows.idle_line.Goals as goal

pub returns-clause-form : goal.returns-clause-form
returns-clause-form c =
    let dwell = c.args.dwell.now in
    let fields = track_text dwell.track ∷ decimal dwell.begin ∷ decimal dwell.end ∷ [] in
    ended_as (IsLine (is_row back_grammar)) c.end.result c.number-2.new.self (codes "idle") fields c.end.ensures
    (rw (c.in_ok-number-2.ensures.value, c.in_ok-number.ensures.value, c.in_ok-track.ensures.value, c.in_ok-line.ensures) refl)
    (in_row back_grammar (codes "idle") fields
    (inr (inr
    (inl (word_is (codes "idle") refl & c.in_ok-track.ensures.form & c.in_ok-number.ensures.form & c.in_ok-number-2.ensures.form & tt)))))
