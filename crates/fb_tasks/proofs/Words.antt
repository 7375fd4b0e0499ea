-- The names that the proofs cite, of this crate's words and of the crates below: each proof takes them from here.
pub use Rattle.std.proofs.Common.{Bool, List, None, Option, Some, [], ap, append-nil, append_assoc, ap₂, arith, drop, false, filter, find}
pub use Rattle.std.proofs.Common.{get_or, if◌then◌else◌, inl, inr, length, length-append, length-take, map, nat_lt, not, refl}
pub use Rattle.std.proofs.Common.{rules, set, slice_get, subst, suc, sym, take, true, zero, ℕ, ◌&&◌, ◌*◌, ◌++◌, ◌+◌, ◌-◌, ◌<◌, ◌==◌, ◌^◌}
pub use Rattle.std.proofs.Common.{◌||◌, ◌∙◌, ◌∷◌, ◌≡◌, ◌≤◌, ◌⊎◌}
pub use Rattle.std.specs.BTreeSet.{BTreeSet, contains}
pub use Rattle.std.specs.List.{AllByRecursion, best_of, flat_map, fold, list_all, list_any, range_with_len, slice_index_or, sum_by}
pub use Rattle.std.specs.Option.{option_map}
pub use Rattle.std.specs.Ordering.{nat_cmp}
pub use Rattle.std.proofs.Math.Bool.{and-false, and-true, and_comm, or-false, or-true, or_comm}
pub use Rattle.std.proofs.Math.Seq.{drop-append_seam, map-set_same, take-length}
pub use Rattle.std.proofs.lemmas.Bool.{and_parts, cases_Bool, cases_lt, eqb-true, ne_eqb, not-true}
pub use Rattle.std.proofs.lemmas.Bool.{true≢false}
pub use Rattle.std.proofs.lemmas.Bool.Decides.{nat_tests}
pub use Rattle.std.proofs.lemmas.List.{append_cancel_left, drop_more, get_or_past, get_or_push, length-map, length-set, map-append}
pub use Rattle.std.proofs.lemmas.List.{nil_from_length, take-append-drop, take-map, take_more}
pub use Rattle.std.proofs.lemmas.List.Concat.{flat_map-append}
pub use Rattle.std.proofs.lemmas.List.Elements.{filter-append}
pub use Rattle.std.proofs.lemmas.List.Folds.{list_any-append}
pub use Rattle.std.proofs.lemmas.List.FromFn.{map-range_with_len_more, take-map-range_with_len}
pub use Rattle.std.proofs.lemmas.List.Sums.{length-filter, sum_by-append, sum_by-cons}
pub use Rattle.std.proofs.lemmas.Option.{get_or_from_slice_get, none-some, same_Some, slice_get-get_or, slice_get_past}
pub use Rattle.std.proofs.lemmas.Option.{slice_get_within}
pub use Rattle.std.proofs.lemmas.Result.{IfOk-weaker, on_err_weaker, on_ok_weaker}
pub use Rattle.fb_units.proofs.Comparing.{one_or_other, other_number, same_number, step_to}
pub use Rattle.fb_units.proofs.Lists.{all_append, all_filter, all_from_index, all_get, all_left, all_range}
pub use Rattle.fb_units.proofs.Lists.{all_right, all_weaker, any_of_none, element_at, map_at}
pub use Rattle.fb_units.proofs.Lists.{none_of_any, on_err}
pub use Rattle.fb_units.specs.declared.types.Request.{Request}
pub use Rattle.fb_units.proofs.Searches.{find-none, find_all}
pub use Rattle.fb_units.proofs.Filtered.{filter_from, filter_to, none_kept}
pub use Rattle.fb_units.proofs.Each.{all_any, all_both, all_flat, all_map, all_pass, all_with, each_all, each_push, each_set}
pub use Rattle.fb_units.proofs.Each.{flat_all, list_all_each}
pub use Rattle.fb_units.proofs.Alike.{all_same, any_same, filter_same, flat_none, flat_same, map_same}
pub use Rattle.fb_geometry.specs.Places.{places}
pub use Rattle.fb_geometry.specs.Shape.{Shape}
pub use Rattle.fb_sectormap.specs.Cutting.{IsOneTurn, with_sector}
unfoldable pub use Rattle.fb_sectormap.specs.Cutting.{cutting}
pub use Rattle.fb_sectormap.specs.declared.cut.Cut.{Cut}
pub use Rattle.fb_store.specs.Ranges.{held_at}
pub use Rattle.fb_store.specs.Runs.{runs_of, same_content, sectors_of}
pub use Rattle.fb_store.specs.Sparse.{EndsBy, Gives, after_take, held_in, held_sector}
pub use Rattle.fb_store.specs.Writes.{is_within}
pub use Rattle.fb_store.specs.declared.content.Content.{Content}
pub use Rattle.fb_store.specs.declared.content.Content.TheVariants.{Unreadable}
pub use Rattle.fb_store.specs.declared.content.ContentRun.{ContentRun}
pub use Rattle.fb_script.specs.Allowed.{AreAllowed, MayAsk, blocks_from, has_want}
pub use Rattle.fb_script.specs.Blocks.{blocks_in, live_cuts}
pub use Rattle.fb_script.specs.Sessions.{is_backup, is_clean}
pub use Rattle.fb_script.specs.declared.call.Action.{Action}
pub use Rattle.fb_script.specs.declared.call.Action.TheVariants.{Abort, Close, Open, Promote, Resume, Segment, Suspend, Want}
pub use Rattle.fb_script.specs.declared.call.Call.{Call}
pub use Rattle.fb_script.specs.declared.call.Kind.{Kind}
pub use Rattle.fb_script.specs.declared.call.Kind.TheVariants.{Backup, Clean, Plain}
pub use Rattle.fb_wanted.specs.Counting.{counts_of, of_task}
pub use Rattle.fb_wanted.specs.Numbering.{blocks_of}
pub use Rattle.fb_wanted.specs.States.{after, entry_after, is_aborted, is_block, is_delivered, is_open, is_suspended, is_wanted, shares}
pub use Rattle.fb_wanted.specs.States.{state_after}
pub use Rattle.fb_wanted.specs.States.{wanted_unless}
pub use Rattle.fb_wanted.specs.declared.block.Block.{Block}
pub use Rattle.fb_wanted.specs.declared.block.Change.TheVariants.{Abort as AbortRange, Deliver, Resume as ResumeAll, Rewant}
pub use Rattle.fb_wanted.specs.declared.block.Change.TheVariants.{Suspend as SuspendAll}
pub use Rattle.fb_wanted.specs.declared.block.Counts.{Counts}
pub use Rattle.fb_wanted.specs.declared.block.Entry.{Entry}
pub use Rattle.fb_wanted.specs.declared.block.State.{State}
pub use Rattle.fb_wanted.specs.declared.block.State.TheVariants.{Aborted, Delivered, Suspended, Wanted}
pub use Rattle.fb_rows.specs.declared.back.BackRow.{BackRow}
pub use Rattle.fb_rows.specs.declared.back.BackRow.TheVariants.{Bad, Bad as BackBad, Complete as BackComplete, Got as BackGot}
pub use Rattle.fb_rows.specs.declared.back.BackRow.TheVariants.{Seal as BackSeal, Segment as BackSegment, Task as BackTask}
pub use Rattle.fb_rows.specs.declared.back.DeliveryRow.{DeliveryRow}
pub use Rattle.fb_clean.specs.Segments.{live_of}
pub use Rattle.fb_model.specs.Completion.{Choice, TaskView, Work, aborted_view, added_view, choices, chosen_view, closed_view}
pub use Rattle.fb_model.specs.Completion.{delivered_view, ended, is_choice_of, is_cleaned, is_closed, is_complete_as, is_done, is_over}
pub use Rattle.fb_model.specs.Completion.{is_segment_of, is_through, is_unsealed, own_of, rewanted, segment_by, segments, state_in}
pub use Rattle.fb_model.specs.Completion.{tested_view, wanted_view, was_complete, with_states, work, written_view}
unfoldable pub use Rattle.fb_model.specs.Completion.{is_complete, view}
pub use Rattle.fb_model.specs.History.{Event, LogSegment, Past, Terms, called, calls_of, chose, delivered, finished, is_open_backup}
pub use Rattle.fb_model.specs.History.{is_seal_of, opened_by, registered, same_block, state, task_numbers, tasks, terms_of, tested}
unfoldable pub use Rattle.fb_model.specs.History.{bare_state, content_of, wanted}
pub use Rattle.fb_model.specs.Images.{bad_sectors, complete_rows, findings, is_newly_cleaned, is_scrub, segment_row}
pub use Rattle.fb_model.specs.Segments.{choose_best, choose_in, choose_once, choose_up_to, is_better, is_busy, is_chosen, live_count}
pub use Rattle.fb_model.specs.Segments.{next_blocks, numbered, unchosen}
unfoldable pub use Rattle.fb_model.specs.Segments.{with_choices}
pub use Rattle.fb_model.specs.Steps.{blocks_by, take_call, task_row, with_delivery}
unfoldable pub use Rattle.fb_model.specs.Steps.{task_rows}
pub use Rattle.fb_model.proofs.Cuts.{AreCuts, cuts_are, cuts_rise}
pub use Rattle.fb_model.proofs.Views.{aborted-view, added-view, called-silent, chosen-silent, chosen-view, closed-view, delivered-silent}
pub use Rattle.fb_model.proofs.Views.{delivered-view, opened-silent, opened-view, promoted-silent, read-silent, resumed-view}
pub use Rattle.fb_model.proofs.Views.{suspended-view, tested-view, wanted-silent, wanted-view, written-silent, written-view}
pub use Rattle.fb_tasks.specs.Keeping.{HasTaken, IsSealed, are_over, complete_as, complete_by, cuts_of, is_none, is_worked_off}
pub use Rattle.fb_tasks.specs.Keeping.{new_entries, without_aborted}
pub use Rattle.fb_tasks.specs.Leaving.{HasBegun, HasBegunUpTo, HasGrown, OnlyTouched, by_calls, entries_after, entries_by}
pub use Rattle.fb_tasks.specs.Leaving.{entries_chosen}
pub use Rattle.fb_tasks.specs.Listing.{AreListed}
pub use Rattle.fb_tasks.specs.Nearby.{AreNearby, BeginsIn, IsAmong, IsNearby, chunk_of, pair_cmp}
pub use Rattle.fb_tasks.specs.declared.near.Chunks.{Chunks}
pub use Rattle.fb_tasks.specs.Script.{IsCalled}
pub use Rattle.fb_tasks.specs.Standing.{AreNumbered, AreReported, AreTestRowsOf, Ascend, Cleans, CleansBy, HasChosen, HasChosenUpTo}
pub use Rattle.fb_tasks.specs.Standing.{HasNoChoice, HaveChosen}
pub use Rattle.fb_tasks.specs.Standing.{HoldsBlock, HoldsBlocks, HoldsChoice, HoldsImage, IsAtNumber, IsAtWork, IsBlockOf, IsCutFrom}
pub use Rattle.fb_tasks.specs.Standing.{IsPlaced, IsQuiet, IsSegmentOf, IsUntouched, MayChoose, MayFinish, StandsAfterTest}
pub use Rattle.fb_tasks.specs.Standing.{Stands, Told, choice_in}
pub use Rattle.fb_tasks.specs.Standing.{choosable_by, entry_by, entry_in, entry_of, kept_segment}
pub use Rattle.fb_tasks.specs.Taken.{delivery_of, found_for, rows_after, seal_rows_found, segment_rows_found, ends_of}
unfoldable pub use Rattle.fb_tasks.specs.Taken.{test_rows_found}
pub use Rattle.fb_tasks.specs.Telling.{Delivers, IsCall, IsUpToDate, MayDeliver, MaySettle, MayTake, Tells, choosable}
pub use Rattle.fb_tasks.specs.Writing.{left_by_write, left_in, state_left}
pub use Rattle.fb_tasks.specs.declared.session.Session.{Session}
