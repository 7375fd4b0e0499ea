-- The names that the proofs cite, of this crate's words and of the crates below: each proof takes them from here.
pub use Rattle.std.proofs.Common.{Bool, Err, Global, IfOk, List, None, Ok, Option, Result, Some, [], ap, append-nil, append_assoc, arith}
pub use Rattle.std.proofs.Common.{codes, cond, decimal, drop, false, get_or, inl, inr, length, length-append, length-drop, lit<, lit≤, map}
pub use Rattle.std.proofs.Common.{max, refl, subst, suc, sym, take, true, true≢false, zero, ℕ, ◌%◌, ◌*◌, ◌++◌, ◌+◌, ◌-◌, ◌/◌, ◌<◌, ◌^◌, ◌∙◌, ◌∷◌}
pub use Rattle.std.proofs.Common.{◌≡◌, ◌≢◌, ◌≤◌, ◌⊎◌}
pub use Rattle.std.specs.Borrow.{Bor}
pub use Rattle.std.specs.Char.{is_ascii_digit}
pub use Rattle.std.specs.List.{AllByRecursion, after_first, before_first, cons_option, count_by, filter_map, flat_map, fold, join_with_byte}
pub use Rattle.std.specs.List.{list_all, list_any, onto_first, position_or_len, range_with_len, slice_split, sum_by}
pub use Rattle.std.specs.Prelude.{if◌then◌else◌, nat_lt, not, option_map, replicate, slice_get, slice_index, ◌&&◌, ◌==◌}
pub use Rattle.std.specs.Str.{bytes_eq}
pub use Rattle.std.proofs.Math.Bool.{and-false, or-true}
pub use Rattle.std.proofs.lemmas.Bool.{and_parts, cases_Bool, cases_lt, not-true, or_parts}
pub use Rattle.std.proofs.lemmas.Bool.Decides.{Decides-eqb, nat_tests}
pub use Rattle.std.proofs.lemmas.Fmt.{decimal_by_steps, decimal_digit, decimal_nonempty, first_decimal}
pub use Rattle.std.proofs.lemmas.List.{at_drop_more, drop_all, drop_more, length-map, length-replicate, map-append, take_all, take_at}
pub use Rattle.std.proofs.lemmas.List.Folds.{list_all-append, list_any-append}
pub use Rattle.std.proofs.lemmas.List.Splits.{join_with_byte-slice_split, length-slice_split, slice_split-cons_no, slice_split-cons_yes}
pub use Rattle.std.proofs.lemmas.List.Splits.{slice_split_first, slice_split_none}
pub use Rattle.std.proofs.lemmas.List.Sums.{AllPass-from_list_all, fails_before_first, sum_by-append}
pub use Rattle.std.proofs.lemmas.Option.{slice_get-map, slice_get_within}
pub use Rattle.std.proofs.lemmas.Result.{IfOk-weaker, on_ok_weaker}
pub use Rattle.hex.specs.Hex.{encode_lower, lower_digits}
unfoldable pub use Rattle.hex.specs.Hex.{encode_with}
pub use Rattle.fb_desk.specs.declared.desk.Input.{Input}
pub use Rattle.fb_units.specs.Numbers.{are_digits, digits_after}
pub use Rattle.fb_units.specs.declared.read_error.ReadError.{ReadError}
pub use Rattle.fb_store.specs.Fill.{sector_bytes}
unfoldable pub use Rattle.fb_store.specs.Fill.{fill, mark}
pub use Rattle.fb_store.specs.declared.content.ContentRun.{ContentRun}
pub use Rattle.fb_script.specs.Names.{is_name, is_name_byte}
pub use Rattle.fb_report.specs.Back.{back_first, back_last, back_line, back_text, digest_text, gap_fields, got_fields, how_text}
pub use Rattle.fb_report.specs.Back.{is_complete_text, segment_fields, task_fields, task_kind_text, task_text}
unfoldable pub use Rattle.fb_report.specs.Back.{back_lines}
pub use Rattle.fb_report.specs.Fore.{fore_first, fore_last, fore_line, fore_text, kind_text, row_bytes, row_fields}
unfoldable pub use Rattle.fb_report.specs.Fore.{fore_lines}
pub use Rattle.fb_report.specs.Forms.{fields_left, fits, grammar_of, listed, written}
pub use Rattle.fb_report.specs.Grammar.{Form, Grammar, are_bytes, back_grammar, ended, ended_with, fore_grammar, has_no_leading_zero}
pub use Rattle.fb_report.specs.Grammar.{have_forms, is_line_of, is_lower_hex, is_number, is_one_of, is_point, is_request, is_track, is_word}
pub use Rattle.fb_report.specs.Grammar.{LineFields, may_end, may_follow, numbers, report_fields, report_of, spelled}
unfoldable pub use Rattle.fb_report.specs.Grammar.{lines_behind}
pub use Rattle.fb_report.specs.Lines.{line_of, name_text, track_text, with_fields}
pub use Rattle.fb_report.specs.Printed.{AreFields, AreNames, AreOneOf, CountsSectors, HasSectors, IsField, IsLine, IsReadBack}
pub use Rattle.fb_report.specs.Printed.{PrintedAreReadBack, ReadsSectors, is_first, is_in_place, is_last, is_row}
pub use Rattle.fb_report.specs.Reading.{AnswersReport, BeginsLikeEnd, EndsOnce, ReportsEndOnce}
pub use Rattle.fb_report.specs.Shown.{contents_bytes, run_bytes, shown}
pub use Rattle.fb_report.specs.Summary.{delivery_in, gap_in, last_finish, task_in}
unfoldable pub use Rattle.fb_report.specs.Summary.{summary_lines}
pub use Rattle.fb_report.specs.declared.bytes.Bytes.{Bytes}
pub use Rattle.fb_report.specs.declared.reading.ReportsFault.{ReportsFault}
