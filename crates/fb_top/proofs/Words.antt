-- Names of definitions and of lower crates that several proofs of this crate cite.
pub use Rattle.std.proofs.Common.{Err, Global, List, None, Ok, Option, Result, Some, [], ap, arith, false, inl, inr, length, map, refl}
pub use Rattle.std.proofs.Common.{rules, subst, sym, take, true, ℕ, ◌++◌, ◌+◌, ◌<◌, ◌^◌, ◌∙◌, ◌∷◌, ◌≡◌, ◌≢◌, ◌≤◌, ◌⊎◌}
pub use Rattle.std.proofs.lemmas.Bool.{cases_Bool}
pub use Rattle.std.proofs.lemmas.List.FromFn.{length-map-range_with_len}
pub use Rattle.std.proofs.lemmas.Option.{slice_get-map}
pub use Rattle.std.proofs.lemmas.Result.{err_from_is_err_and}
pub use Rattle.std.specs.List.{AllByRecursion, flat_map, range_with_len}
pub use Rattle.std.specs.Option.{option_map}
pub use Rattle.std.specs.Prelude.{Bool, IfSome, codes, decimal, if◌then◌else◌, is_some, slice_get}
pub use Rattle.std.specs.String.{string_bytes}
pub use Rattle.fb_bgwrite.specs.declared.items.SpillRun.{SpillRun}
pub use Rattle.fb_calls.specs.declared.fault.CallsFault.{CallsFault}
pub use Rattle.fb_check.specs.Verdict.{IsVerdict, Reports}
pub use Rattle.fb_check.specs.declared.verdict.Verdict.{Verdict}
pub use Rattle.fb_check.specs.declared.verdict.Verdict.TheVariants.{Yes}
pub use Rattle.fb_desk.specs.View.{DeskView, OutputView, begins}
pub use Rattle.fb_desk.specs.declared.desk.Input.TheVariants.{BackReport, ForeReport, Params, Puts, Trace}
pub use Rattle.fb_desk.specs.declared.desk.Output.{Output}
pub use Rattle.fb_desk.specs.declared.desk.Output.TheVariants.{Back, Copied, Fore, MadeTrace, Note, Spill}
unfoldable pub use Rattle.fb_geometry.specs.Places.{places}
pub use Rattle.fb_geometry.specs.Shape.{Shape}
pub use Rattle.fb_geometry.specs.Sound.{IsSound}
pub use Rattle.fb_inputs.proofs.Account.{and_then, ends_at, read_named, still_read}
pub use Rattle.fb_inputs.specs.Account.{AreReadAs}
pub use Rattle.fb_inputs.specs.Causes.{AcceptsDisk, RunsOut, StopsDisk, StopsInputs}
pub use Rattle.fb_inputs.specs.Devices.{Array, ReadsRebuild, StopsArray, array_of, device_inputs, is_rebuilt_from}
pub use Rattle.fb_inputs.specs.Ends.{failed_input}
pub use Rattle.fb_inputs.specs.Read.{Accepts, Files, ReadsDisk, ReadsReport, ReadsScript, ReadsTrace, RefusesReport, files_of}
pub use Rattle.fb_inputs.specs.Read.{inputs_of_files, key_of}
pub use Rattle.fb_inputs.specs.declared.error.InputsError.{InputsError}
pub use Rattle.fb_maker.proofs.ScriptRead.{some_sectors}
pub use Rattle.fb_maker.specs.Making.{Making, line_made}
pub use Rattle.fb_maker.specs.Script.{script_text}
pub use Rattle.fb_maker.specs.Trace.{made_lines}
unfoldable pub use Rattle.fb_maker.specs.Trace.{line_of, request_at}
pub use Rattle.fb_mirror.specs.Copy.{copy_lines}
pub use Rattle.fb_mirror.specs.Script.{rebuild_calls}
pub use Rattle.fb_mirror.specs.declared.rebuilt.Rebuilt.{Rebuilt}
pub use Rattle.fb_model.proofs.Chain.{decisions_follow, services}
pub use Rattle.fb_model.specs.Accepted.{IsAccepted}
pub use Rattle.fb_model.specs.Content.{Medium, fore_row}
unfoldable pub use Rattle.fb_model.specs.Content.{fore_rows, medium_of}
pub use Rattle.fb_model.specs.Decisions.{Decision}
pub use Rattle.fb_model.specs.Foreground.{promoted}
pub use Rattle.fb_model.specs.FullRun.{IsFull}
pub use Rattle.fb_model.specs.Inputs.{Inputs, requests}
pub use Rattle.fb_model.specs.PlainReplay.{Served}
unfoldable pub use Rattle.fb_report.specs.Back.{back_lines}
pub use Rattle.fb_report.specs.Fore.{fore_text}
unfoldable pub use Rattle.fb_report.specs.Fore.{fore_lines}
pub use Rattle.fb_report.specs.Grammar.{Grammar, LineFields, back_grammar, fore_grammar, report_of, spelled}
pub use Rattle.fb_report.specs.Printed.{IsReadBack}
pub use Rattle.fb_report.specs.Summary.{summary_text}
pub use Rattle.fb_report.specs.declared.bytes.Bytes.{Bytes}
pub use Rattle.fb_rows.specs.declared.fore.ForeRow.{ForeRow}
pub use Rattle.fb_rows.specs.declared.run.Run.{Run}
pub use Rattle.fb_script.specs.declared.call.Calls.{Calls}
pub use Rattle.fb_service.specs.declared.disk.Disk.{Disk}
pub use Rattle.fb_streams.proofs.Called.{no_call, one_call, then_calls, then_ends, then_result}
pub use Rattle.fb_streams.specs.Called.{AreServed, EndsLine, Told, array_asks, check_asks, make_asks, replay_asks}
pub use Rattle.fb_streams.specs.Names.{FileNames, array_names, check_names, replay_file_names, replay_names}
pub use Rattle.fb_streams.specs.Streams.{IsHeld, IsLonger, KeepsOutputs, ReadsAs}
pub use Rattle.fb_texts.proofs.Each.{counted}
pub use Rattle.fb_texts.proofs.LineEnds.{text_ends}
pub use Rattle.fb_texts.proofs.Texts.{all_given, stopped_sooner, stops_texts, then_texts, writes_all}
pub use Rattle.fb_texts.specs.Ends.{failed_output}
pub use Rattle.fb_texts.specs.Sections.{CanTellFore}
pub use Rattle.fb_texts.specs.Written.{HoldsTexts, HoldsWhole, StopsTexts, Text, WritesAll, WritesTexts, given_text, joined, one_text}
pub use Rattle.fb_texts.specs.declared.error.TextsError.{TextsError}
pub use Rattle.fb_top.specs.Array.{ArrayHasCause, IsRunOfDevice, array_texts, rebuild_texts, replacement, sectors_of, survivor}
pub use Rattle.fb_top.specs.Causes.{CheckHasCause, HasCause}
pub use Rattle.fb_top.specs.Checked.{IsVerdictOf, check_texts}
pub use Rattle.fb_top.specs.Complete.{IsJudged, TellsReport}
pub use Rattle.fb_top.specs.Done.{AreReadBack, CanBeRead, CanBeTold, IsRunOf, back_told, report_texts}
pub use Rattle.fb_top.specs.Ends.{EndsAs, failed_at, unread, unwritten}
pub use Rattle.fb_top.specs.Make.{MakeHasCause, make_texts}
pub use Rattle.fb_top.specs.Noted.{asks_note}
pub use Rattle.fb_top.specs.Notes.{note_of}
pub use Rattle.fb_top.specs.Spilled.{IsReplayCut, replay_texts, spill_told}
pub use Rattle.fb_top.specs.Taken.{TakesCheck, done_as}
pub use Rattle.fb_top.specs.Untouched.{HoldAlike, HoldFilesAlike, HoldsLines}
pub use Rattle.fb_top.specs.declared.outcome.Outcome.{Outcome}
pub use Rattle.fb_trace.specs.Reading.{Accepted}
pub use Rattle.fb_units.proofs.Lists.{all_append, all_left}
pub use Rattle.fb_units.specs.declared.types.Request.{Request}
pub use Rattle.fb_words.specs.Command.{ArrayTerms, CheckTerms, MakeTerms, RebuildTerms, ReplayTerms, Terms, arrays, checks, command_of}
pub use Rattle.fb_words.specs.Command.{makes, replays}
pub use Rattle.fb_words.specs.Verdict.{array_terms, check_terms, make_terms, replay_terms, terms}
pub use Rattle.fb_words.specs.declared.command.Policy.{Policy}
