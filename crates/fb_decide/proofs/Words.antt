-- Names of definitions and of lower crates that several proofs of this crate cite.
pub use Rattle.std.proofs.Common.{Bool, List, None, Option, Some, [], ap, append-nil, append_assoc, ap₂, arith, drop, false, filter, find}
pub use Rattle.std.proofs.Common.{get_or, if◌then◌else◌, inl, inr, length, map, max, not, refl, subst, suc, sym, take, take_all, true}
pub use Rattle.std.proofs.Common.{zero, ℕ, ◌&&◌, ◌++◌, ◌+◌, ◌-◌, ◌<◌, ◌==◌, ◌^◌, ◌||◌, ◌∙◌, ◌∷◌, ◌≡◌, ◌≤◌, ◌⊎◌}
pub use Rattle.std.proofs.lemmas.Bool.{and_parts, cases_Bool, cases_lt, true≢false}
pub use Rattle.std.proofs.lemmas.Bool.Decides.{nat_tests}
pub use Rattle.std.proofs.lemmas.List.{drop_all, drop_more, length-append, map-append}
pub use Rattle.std.proofs.lemmas.List.Concat.{flat_map-append}
pub use Rattle.std.proofs.lemmas.List.Elements.{filter-append}
pub use Rattle.std.proofs.lemmas.Option.{same_Some, slice_get-get_or, slice_get_past}
pub use Rattle.std.proofs.lemmas.Result.{on_ok_weaker}
pub use Rattle.std.specs.List.{AllByRecursion, flat_map, fold, list_any, range_with_len}
pub use Rattle.std.specs.Option.{option_map}
pub use Rattle.std.specs.Prelude.{IfSome, nat_le, nat_lt, slice_get, unwrap_or}
pub use Rattle.fb_decide.specs.Calls.{IsCalled, test_rows_by, tested_by}
pub use Rattle.fb_decide.specs.Carried.{AreExtents, AreLaid, added, begins_in}
pub use Rattle.fb_decide.specs.Contents.{left_by}
pub use Rattle.fb_decide.specs.Deciding.{HasActed, HasDecided, HasServedNext, HasStayed, PassagesTakeTime, dwell_until, ends_here, next_of}
pub use Rattle.fb_decide.specs.Deciding.{ready_to_act, serves_pick, stays_last, stays_on}
pub use Rattle.fb_decide.specs.Deliveries.{AreDeliverable, AreDistinct, HasDelivered, HasServed, IsOneOf, IsRegistered, TellsUpToDate}
pub use Rattle.fb_decide.specs.Deliveries.{block_in, followed, held_now, past_with}
pub use Rattle.fb_decide.specs.Making.{AreKnown, GoesOn, HasComeTo, IsMade, Replayed, all_writes, decisions_by, fore_row_of, rest_of}
pub use Rattle.fb_decide.specs.RunInputs.{inputs_of}
pub use Rattle.fb_decide.specs.RunState.{RunState}
pub use Rattle.fb_decide.specs.Standing.{IsFoundIn, IsTrue, Mirrors}
pub use Rattle.fb_decide.specs.Start.{IsServiceOf, served_from}
pub use Rattle.fb_decide.specs.Waiting.{AreByArrival, IsWaiting, left}
pub use Rattle.fb_decide.specs.declared.background.Background.{Background}
pub use Rattle.fb_decide.specs.declared.deciding.Course.{Course}
pub use Rattle.fb_decide.specs.declared.start.Start.{Start}
pub use Rattle.fb_geometry.specs.Shape.{IsTrackOf, Shape}
pub use Rattle.fb_geometry.specs.Sound.{IsSound}
pub use Rattle.fb_model.proofs.Due.{IsDueRow, due_block, due_true, wanted_all}
pub use Rattle.fb_model.proofs.DueUpTo.{DeliversBy}
pub use Rattle.fb_model.proofs.Events.{by_all}
pub use Rattle.fb_model.proofs.Instants.{IsAmong, was_all_among}
pub use Rattle.fb_model.proofs.Passages.{passed_between, written_by}
pub use Rattle.fb_model.specs.Accepted.{IsRequestOf}
pub use Rattle.fb_model.specs.Blocks.{IsBlockOn}
pub use Rattle.fb_model.specs.Completion.{Choice, choices}
unfoldable pub use Rattle.fb_model.specs.Completion.{view}
pub use Rattle.fb_model.specs.Content.{Medium, Written, content, contents_at, fore_row, writes_of}
unfoldable pub use Rattle.fb_model.specs.Content.{medium_of}
pub use Rattle.fb_model.specs.Decisions.{Act, Decision, decision_of, end_of, ending, ends, idle_until, idles, idling, instant_of}
pub use Rattle.fb_model.specs.Decisions.{instants_of, last_decision, run_end, serves, serving}
unfoldable pub use Rattle.fb_model.specs.Decisions.{decisions, decisions_from}
pub use Rattle.fb_model.specs.Deliveries.{carried_rows, caught_in_gap, caught_rows, delivery_row, in_order, lies_in, missed, placed}
pub use Rattle.fb_model.specs.Deliveries.{ride_of}
unfoldable pub use Rattle.fb_model.specs.Deliveries.{carried_of, due}
pub use Rattle.fb_model.specs.Foreground.{behind}
pub use Rattle.fb_model.specs.History.{Event, Past, blocks_of, called, chose, delivered, finished, is_open_backup, registered}
pub use Rattle.fb_model.specs.History.{registered_by, same_block, state, tasks, tested}
unfoldable pub use Rattle.fb_model.specs.History.{bare_state, content_of, wanted}
pub use Rattle.fb_model.specs.Images.{held_at_delivery}
unfoldable pub use Rattle.fb_model.specs.Images.{test_rows}
pub use Rattle.fb_model.specs.Inputs.{Inputs, requests}
unfoldable pub use Rattle.fb_model.specs.Inputs.{served}
pub use Rattle.fb_model.specs.PlainReplay.{Key, Served, finish, first_least, first_ready, last_track, media, service, start_of}
unfoldable pub use Rattle.fb_model.specs.PlainReplay.{plain}
pub use Rattle.fb_model.specs.Plans.{IsBest}
pub use Rattle.fb_model.specs.SoundRun.{IsTested}
pub use Rattle.fb_model.specs.Steps.{Delivery, Step, calls_due, chosen_by, decision_in, decisions_in, delivery_rows, history, step_rows}
pub use Rattle.fb_model.specs.Steps.{take_call, with_delivery}
unfoldable pub use Rattle.fb_model.specs.Steps.{chosen_past, past_after, task_rows}
pub use Rattle.fb_rows.specs.Tasks.{HasTaskBelow}
pub use Rattle.fb_rows.specs.declared.back.BackRow.{BackRow}
pub use Rattle.fb_rows.specs.declared.back.DeliveryRow.{DeliveryRow}
pub use Rattle.fb_rows.specs.declared.fore.ForeRow.{ForeRow}
pub use Rattle.fb_rows.specs.declared.gap.Catch.{Catch}
pub use Rattle.fb_rows.specs.declared.gap.How.{How}
pub use Rattle.fb_script.specs.Allowed.{AreAllowed}
pub use Rattle.fb_script.specs.declared.call.Action.{Action}
pub use Rattle.fb_script.specs.declared.call.Action.TheVariants.{Promote}
pub use Rattle.fb_script.specs.declared.call.Call.{Call}
pub use Rattle.fb_sectormap.specs.LookUp.{track_at}
unfoldable pub use Rattle.fb_seek.specs.Positioning.{pos}
pub use Rattle.fb_service.specs.Extents.{IsUnbroken, all_passages_of, passages_of}
pub use Rattle.fb_service.specs.Service.{finish_of, media_of, passage_from}
unfoldable pub use Rattle.fb_service.specs.Service.{passages}
pub use Rattle.fb_service.specs.declared.disk.Disk.{Disk}
pub use Rattle.fb_service.specs.declared.passage.Extent.{Extent}
pub use Rattle.fb_service.specs.declared.passage.Passage.{Passage}
pub use Rattle.fb_service.specs.declared.service.Service.{Service}
pub use Rattle.fb_store.specs.Ranges.{Holding, content_in}
pub use Rattle.fb_store.specs.Runs.{bad_of, runs_of, sectors_of}
pub use Rattle.fb_store.specs.Writes.{writer_of}
pub use Rattle.fb_store.specs.declared.content.Content.{Content}
pub use Rattle.fb_store.specs.declared.content.ContentRun.{ContentRun}
pub use Rattle.fb_tasks.proofs.Registered.{itself, own}
pub use Rattle.fb_tasks.specs.Standing.{AreNumbered}
pub use Rattle.fb_tasks.specs.Taken.{delivery_of, rows_after}
pub use Rattle.fb_tasks.specs.Telling.{IsBlockOf, MayDeliver, Tells, calls_of}
pub use Rattle.fb_tasks.specs.declared.session.Session.{Session}
pub use Rattle.fb_units.proofs.Alike.{filter_same, map_same}
pub use Rattle.fb_units.proofs.Comparing.{after_is, by_is}
pub use Rattle.fb_units.proofs.Each.{all_any, all_both, all_map, all_pass, all_unmapped, all_with}
pub use Rattle.fb_units.proofs.Filtered.{filter_to}
pub use Rattle.fb_units.proofs.Lists.{all_append, all_filter, all_from_index, all_get, all_left, all_right, all_weaker, map_at, take_at}
pub use Rattle.fb_units.specs.Rising.{IsRising}
pub use Rattle.fb_units.specs.declared.types.Request.{Request}
pub use Rattle.fb_units.specs.declared.types.Track.{Track}
pub use Rattle.fb_wanted.specs.States.{is_delivered, is_wanted, wanted_of}
pub use Rattle.fb_wanted.specs.declared.block.Block.{Block}
pub use Rattle.fb_wanted.specs.declared.block.Entry.{Entry}
pub use Rattle.fb_wanted.specs.declared.block.State.{State}
