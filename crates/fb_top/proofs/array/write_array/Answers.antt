use Rattle.fb_top.proofs.Words.{◌∙◌, List, ap, refl, sym, subst, option_map, codes, slice_get, err_from_is_err_and, Fore, RebuildTerms}
use Rattle.fb_top.proofs.Words.{array_terms, array_of, then_result, array_asks, failed_output, Text, WritesTexts, joined, one_text}
use Rattle.fb_top.proofs.Words.{stopped_sooner, then_texts, rebuild_texts, survivor}
use Rattle.std.specs.Prelude.{option_and_then}
use Rattle.fb_words.specs.Verdict.{rebuild_terms}
use Rattle.fb_texts.specs.Sections.{array_lines}
use Rattle.fb_top.proofs.Arrayed.{is_from, rebuild_told, sections_apart}
use Rattle.fb_top.proofs.array.write_array.Goals as goal

pub returns-in_err-write_lines-clause-texts : goal.returns-in_err-write_lines-clause-texts
returns-in_err-write_lines-clause-texts g c =
    let terms = array_terms c.args.words.now in
    let array = array_of c.args.files.now in
    let runs = c.args.runs.now in
    let failed = err_from_is_err_and c.from_residual.result c.from_residual.ensures.1 in
    rw (failed.1, failed.2)
    (stopped_sooner (one_text Fore (codes "-") (joined (array_lines array.disk.sector_bytes terms.bytes runs)))
    (rebuild_texts terms array terms.rebuild (survivor terms.rebuild runs)) _ _ c.in_err-write_lines.field-0.0
    c.in_err-write_lines.ensures.texts)

pub write_rebuild-requires-clause-back_told : goal.write_rebuild-requires-clause-back_told
write_rebuild-requires-clause-back_told g c =
    let rebuild = c.in-Some-Some.rebuild in
    c.requires.back_told rebuild.device c.get.result.now c.get.ensures
    (is_from (array_terms c.args.words.now).rebuild (rebuild_terms rebuild) (ap (option_map rebuild_terms) c.in-Some-Some.is-0))

pub returns-in-Some-Some-clause-texts : goal.returns-in-Some-Some-clause-texts
returns-in-Some-Some-clause-texts g c =
    let mid = g.D.Desk.seen c.write_lines.new.desk in
    let new = g.D.Desk.seen c.write_rebuild.new.desk in
    let terms = array_terms c.args.words.now in
    let array = array_of c.args.files.now in
    let runs = c.args.runs.now in
    let rebuild = rebuild_terms c.in-Some-Some.rebuild in
    let given = ap (option_map rebuild_terms) c.in-Some-Some.is-0 in
    let there = ap (option_and_then (λ (r : RebuildTerms). slice_get runs r.device)) given ∙ c.get.ensures in
    let made = sym (ap (option_map (λ copy. copy.now)) c.in-Some-Some.is-1) ∙ c.requires.copied in
    let told = rebuild_told terms array rebuild c.get.result.now c.count-sectors.result c.count-sectors.ensures.value terms.rebuild
    (survivor terms.rebuild runs) c.in-Some-Some.copy.now given there made in
    let text = joined (array_lines array.disk.sector_bytes terms.bytes runs) in
    then_texts (one_text Fore (codes "-") text) (rebuild_texts terms array terms.rebuild (survivor terms.rebuild runs)) new
    c.in_ok-write_lines.ensures.texts (sections_apart terms array runs (codes "-") text)
    c.write_rebuild.result
    (subst (λ (texts : List Text). WritesTexts texts mid new c.write_rebuild.result) told c.write_rebuild.ensures.texts)

pub returns-in-Some-Some-clause-calls : goal.returns-in-Some-Some-clause-calls
returns-in-Some-Some-clause-calls g c =
    let asks = array_asks (array_terms c.args.words.now) in
    let given = ap (option_map rebuild_terms) c.in-Some-Some.is-0 in
    then_result failed_output c.write_rebuild.result _ (c.in_ok-write_lines.ensures.calls asks refl)
    (c.write_rebuild.ensures.calls asks (ap (option_map (λ (rebuild : RebuildTerms). rebuild.back)) given)
    (ap (option_map (λ (rebuild : RebuildTerms). rebuild.copy)) given))

pub returns-in_default-clause-calls : goal.returns-in_default-clause-calls
returns-in_default-clause-calls g c = c.in_ok-write_lines.ensures.calls (array_asks (array_terms c.args.words.now)) refl
