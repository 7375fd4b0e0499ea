use Rattle.std.proofs.Common.{◌∙◌, ◌++◌, ap, arith, refl, sym, Some}
use Rattle.std.specs.Prelude.{codes, decimal}
use Rattle.std.proofs.lemmas.Result.{IfOk-weaker}
use Rattle.fb_units.proofs.Lists.{all_get, element_at}
use Rattle.fb_texts.specs.Sections.{array_first, array_last, section}
use Rattle.fb_texts.proofs.Sections.{first_of_array, last_of_array, line_of_array}
use Rattle.fb_streams.specs.Called.{EndsLine}
use Rattle.fb_texts.proofs.LineEnds.{section_end, text_ends}
use Rattle.fb_texts.proofs.array_text.ArrayLinesLines.line.Goals as goal

pub returns-then-index-eq0-clause-value : goal.returns-then-index-eq0-clause-value
returns-then-index-eq0-clause-value c =
    let lines = c.args.self.now in
    IfOk-weaker c.first_line.result _ _ (λ line is.
    rw c.if-index-eq0.true (first_of_array lines.sector_bytes lines.bytes lines.runs.now ∙ ap Some (sym is))) c.first_line.ensures

pub returns-in-Some-clause-value : goal.returns-in-Some-clause-value
returns-in-Some-clause-value c =
    let lines = c.args.self.now in
    let runs = lines.runs.now in
    let here = element_at runs c.in-Some.device c.in-Some.ensures.device in
    IfOk-weaker c.section_line.result _ _ (λ line is.
    line_of_array lines.sector_bytes lines.bytes runs c.args.index _ line.items (omega (arith, c.if-index-eq0.false))
    (c.in-Some.ensures.same lines.sector_bytes lines.bytes here.0 here.1 ∙ is here.0 here.1)) c.section_line.ensures

pub returns-in-None-clause-value : goal.returns-in-None-clause-value
returns-in-None-clause-value c =
    let lines = c.args.self.now in
    IfOk-weaker c.last_line.result _ _ (λ line is.
    last_of_array lines.sector_bytes lines.bytes lines.runs.now c.args.index _ (omega (arith, c.if-index-eq0.false)) c.requires.inside
    (c.in-None.ensures.behind lines.sector_bytes lines.bytes)
    ∙ ap Some (sym (is ∙ ap array_last c.len.ensures.value))) c.last_line.ensures

pub returns-then-index-eq0-clause-ends : goal.returns-then-index-eq0-clause-ends
returns-then-index-eq0-clause-ends c = text_ends c.first_line.result array_first (codes "freeblock array 1", refl) c.first_line.ensures

pub returns-in-Some-clause-ends : goal.returns-in-Some-clause-ends
returns-in-Some-clause-ends c =
    let lines = c.args.self.now in
    let at = c.in-Some in
    let here = element_at lines.runs.now at.device at.ensures.device in
    IfOk-weaker c.section_line.result _ _ (λ line is.
    all_get EndsLine (section lines.sector_bytes lines.bytes at.device here.0) at.index line.items
    (section_end lines.sector_bytes lines.bytes at.device here.0) (is here.0 here.1)) c.section_line.ensures

pub returns-in-None-clause-ends : goal.returns-in-None-clause-ends
returns-in-None-clause-ends c = let n = c.len.result in
    text_ends c.last_line.result (array_last n) (codes "end " ++ decimal n, refl) c.last_line.ensures
