-- Names of definitions and of lower crates that several proofs of this crate cite.
pub use Rattle.std.proofs.Common.{Bool, List, [], ap, append-nil, append_assoc, arith, drop, false, inl, inr, length, length-append, map}
pub use Rattle.std.proofs.Common.{refl, rules, subst, suc, sym, take, tests, true, true≢false, zero, ℕ, ◌++◌, ◌+◌, ◌-◌, ◌<◌, ◌∙◌, ◌∷◌, ◌≡◌}
pub use Rattle.std.proofs.Common.{◌≢◌, ◌≤◌}
pub use Rattle.std.proofs.lemmas.Bool.{and_parts, cases_Bool}
pub use Rattle.std.proofs.lemmas.Bool.Decides.{Decides-eqb}
pub use Rattle.std.proofs.lemmas.Iterator.{YieldsList-from_zip}
pub use Rattle.std.proofs.lemmas.Iterator.Consumers.{YieldsList-at, count_from_yields_List}
pub use Rattle.std.proofs.lemmas.Iterator.Search.{YieldsList-from_take_while}
pub use Rattle.std.proofs.lemmas.Iterator.Splits.{YieldsList-from_slice_split}
pub use Rattle.std.proofs.lemmas.List.{append_cancel_left, length-map, map-append, take-append-le, take_all}
pub use Rattle.std.proofs.lemmas.List.Folds.{length-prefix_len}
pub use Rattle.std.proofs.lemmas.List.Splits.{join_with_byte-slice_split}
pub use Rattle.std.proofs.lemmas.Option.{MatchOption-at_some}
pub use Rattle.std.proofs.lemmas.Slice.Eq.{bytes_eq-Decides, strip_prefix_is}
pub use Rattle.std.specs.List.{AllByRecursion, flat_map, join_with_byte, sum_by, zip}
pub use Rattle.std.specs.Prelude.{None, Option, Some, codes, decimal, not, slice_get, ◌&&◌, ◌==◌}
pub use Rattle.std.specs.Str.{bytes_eq}
pub use Rattle.fb_check.specs.Comparing.{CanCompare, HasComparedBack, HasComparedFore, HasComparedOne, SoFar}
pub use Rattle.fb_check.specs.Judged.{HasJudged}
pub use Rattle.fb_check.specs.Printed.{lines_of, reports_of}
pub use Rattle.fb_check.specs.Verdict.{IsMismatch, IsVerdict}
pub use Rattle.fb_check.specs.declared.comparing.Comparison.{Comparison}
pub use Rattle.fb_check.specs.declared.verdict.Mismatch.{Mismatch}
pub use Rattle.fb_check.specs.declared.verdict.Rule.{Rule}
pub use Rattle.fb_check.specs.declared.verdict.Rule.TheVariants.{Foreground}
pub use Rattle.fb_decide.specs.Making.{HasMade, decisions_left}
pub use Rattle.fb_decide.specs.RunInputs.{inputs_of}
pub use Rattle.fb_decide.specs.RunState.{state_of}
pub use Rattle.fb_geometry.specs.Shape.{Shape}
pub use Rattle.fb_model.specs.Accepted.{IsAccepted}
pub use Rattle.fb_model.specs.Content.{Medium, content, contents_at}
unfoldable pub use Rattle.fb_model.specs.Content.{medium_of}
unfoldable pub use Rattle.fb_model.specs.Decisions.{decisions}
pub use Rattle.fb_model.specs.History.{Past, blocks_of, terms_of}
pub use Rattle.fb_model.specs.Inputs.{Inputs}
pub use Rattle.fb_model.specs.Segments.{numbered}
pub use Rattle.fb_model.specs.Steps.{Step, decision_in, history, step_rows}
pub use Rattle.fb_report.specs.Back.{back_line}
pub use Rattle.fb_report.specs.Fore.{fore_line}
pub use Rattle.fb_report.specs.Grammar.{LineFields, ended, report_fields, spelled}
pub use Rattle.fb_report.specs.Reading.{BeginsLikeEnd}
pub use Rattle.fb_report.specs.declared.bytes.Bytes.{Bytes}
pub use Rattle.fb_rows.specs.Tasks.{HasTaskBelow}
pub use Rattle.fb_rows.specs.declared.back.BackRow.{BackRow}
pub use Rattle.fb_rows.specs.declared.back.BackRow.TheVariants.{Seal}
pub use Rattle.fb_rows.specs.declared.fore.ForeRow.{ForeRow}
pub use Rattle.fb_script.specs.Sessions.{is_backup}
pub use Rattle.fb_script.specs.declared.call.Action.{Action}
pub use Rattle.fb_script.specs.declared.call.Action.TheVariants.{Open}
unfoldable pub use Rattle.fb_sectormap.specs.Cutting.{cutting}
pub use Rattle.fb_sectormap.specs.declared.cut.Cut.{Cut}
pub use Rattle.fb_store.specs.declared.content.Content.{Content}
pub use Rattle.fb_units.proofs.Lists.{all_append, all_get}
pub use Rattle.fb_wanted.specs.declared.block.Block.{Block}
