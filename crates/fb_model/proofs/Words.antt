-- The names that the proofs cite, of this crate's words and of the crates below: each proof takes them from here.
pub use Rattle.std.proofs.Common.{Bool, IsPermutation, List, None, Option, Some, [], ap, append-nil, append_assoc, ap₂, arith, cond, drop}
pub use Rattle.std.proofs.Common.{false, inl, inr, length, map, max, nat_le, refl, subst, suc, sym, true, zero, ℕ, ◌%◌, ◌*◌, ◌++◌, ◌+◌}
pub use Rattle.std.proofs.Common.{◌-◌, ◌<◌, ◌∙◌, ◌∷◌, ◌≡◌, ◌≤◌, ◌⊎◌}
pub use Rattle.std.proofs.Math.Bool.{and-true}
pub use Rattle.std.proofs.lemmas.Bool.{and_parts, cases_Bool, cases_lt, or_cases, true≢false}
pub use Rattle.std.proofs.lemmas.Bool.Decides.{nat_tests}
pub use Rattle.std.proofs.lemmas.List.{length-append}
pub use Rattle.std.proofs.lemmas.List.Elements.{filter-append}
pub use Rattle.std.proofs.lemmas.List.Folds.{list_any-append}
pub use Rattle.std.proofs.lemmas.List.Sorted.{IsPermutation-cons, IsPermutation-refl, IsPermutation-trans}
pub use Rattle.std.proofs.lemmas.List.Sums.{sum_by-cons}
pub use Rattle.std.proofs.lemmas.Nat.{mul-le}
pub use Rattle.std.specs.List.{AllByRecursion, best_of, flat_map, fold, last_or, list_any, range_with_len, sum_by}
pub use Rattle.std.specs.Option.{option_map}
pub use Rattle.std.specs.Prelude.{filter, if◌then◌else◌, nat_lt, not, slice_get, unwrap_or, ◌&&◌, ◌==◌, ◌||◌}
pub use Rattle.fb_geometry.specs.Angles.{slot_begin}
unfoldable pub use Rattle.fb_geometry.specs.Places.{places}
pub use Rattle.fb_geometry.specs.Shape.{IsTrackOf, Shape, cylinders_of, slots_at}
pub use Rattle.fb_geometry.specs.Sound.{IsSound, LiesOn}
pub use Rattle.fb_geometry.specs.declared.zone.Zone.{Zone}
pub use Rattle.fb_model.specs.Accepted.{IsAccepted}
pub use Rattle.fb_model.specs.BestPlan.{is_track_before, leaves, tracks_of}
pub use Rattle.fb_model.specs.Completion.{Choice, choices, is_closed, own_of, segments, was_complete, work}
unfoldable pub use Rattle.fb_model.specs.Completion.{is_complete}
pub use Rattle.fb_model.specs.Content.{ContentsAt, Medium, Written, content, content_by, contents_at, fore_row, writes_of}
unfoldable pub use Rattle.fb_model.specs.Content.{fore_rows, medium_of}
pub use Rattle.fb_model.specs.Decisions.{Act, Decision, among, decision_of, end_of, ending, ends, idle_until, idles, idling, instant_of}
pub use Rattle.fb_model.specs.Decisions.{last_decision, run_end, serves, serving}
unfoldable pub use Rattle.fb_model.specs.Decisions.{decisions, decisions_from}
pub use Rattle.fb_model.specs.Deliveries.{begin_at, catch_of, caught_rows, delivery_row, end_at, gap_of, in_order, lies_in, missed}
pub use Rattle.fb_model.specs.Deliveries.{ride_of}
unfoldable pub use Rattle.fb_model.specs.Deliveries.{carried_of, caught_of, due}
pub use Rattle.fb_model.specs.Foreground.{behind, promoted}
pub use Rattle.fb_model.specs.FullRun.{HasBestPlan, IsAllDelivered, IsBestPlanned, IsFull}
pub use Rattle.fb_model.specs.History.{Event, LogSegment, Past, blocks_of, called, calls_of, chose, delivered, finished, is_open_backup}
pub use Rattle.fb_model.specs.History.{opened_by, registered, registers, same_block, state, task_numbers, tasks, terms_of, tested}
unfoldable pub use Rattle.fb_model.specs.History.{bare_state, content_of, wanted}
pub use Rattle.fb_model.specs.Images.{bad_sectors, complete_rows, findings, held_at_delivery, image, is_newly_cleaned, is_scrub, packed}
pub use Rattle.fb_model.specs.Images.{seal_rows, segment_row, segment_rows}
unfoldable pub use Rattle.fb_model.specs.Images.{test_rows}
pub use Rattle.fb_model.specs.Inputs.{HaveSameSectors, Inputs, requests}
unfoldable pub use Rattle.fb_model.specs.Inputs.{served}
pub use Rattle.fb_model.specs.Known.{fore_known, known_from, only_if, without_line}
pub use Rattle.fb_model.specs.Laws.{IsFirstReady, IsReadyAt, IsReadyPickOf}
pub use Rattle.fb_model.specs.PlainReplay.{Key, Served, finish, first_ready, first_track, has_arrived, last_track, media, plain_replay}
pub use Rattle.fb_model.specs.PlainReplay.{service, start_of}
unfoldable pub use Rattle.fb_model.specs.PlainReplay.{plain}
pub use Rattle.fb_model.specs.Plans.{IsBest, IsNoLater, IsNoWorse, IsPlan, IsTrackBefore, block_begin, block_end, catches, early_dwell}
pub use Rattle.fb_model.specs.Plans.{late_dwell}
unfoldable pub use Rattle.fb_model.specs.Plans.{value}
pub use Rattle.fb_model.specs.Segments.{choose_best, choose_in, choose_once, choose_up_to, is_better, is_busy, next_blocks, numbered}
pub use Rattle.fb_model.specs.Segments.{unchosen}
unfoldable pub use Rattle.fb_model.specs.Segments.{with_choices}
pub use Rattle.fb_model.specs.SoundRun.{AreFollowed, HasPlan, IsDelivered, IsPlanned, IsSublist, IsTested, Throughout, none, taken}
pub use Rattle.fb_model.specs.Steps.{AtEach, Delivery, Step, blocks_by, calls_due, calls_left, decision_in, decisions_in, delivery_rows}
pub use Rattle.fb_model.specs.Steps.{history, opening, step_rows, take_call, task_row, tested_past, with_delivery, with_finish}
unfoldable pub use Rattle.fb_model.specs.Steps.{chosen_past, past_after, task_rows}
pub use Rattle.fb_model.specs.Timeline.{IsPossible, gap_legs, stay, way}
unfoldable pub use Rattle.fb_model.specs.Timeline.{led_to, timeline}
pub use Rattle.fb_rows.specs.declared.back.BackRow.{BackRow}
pub use Rattle.fb_rows.specs.declared.back.DeliveryRow.{DeliveryRow}
pub use Rattle.fb_rows.specs.declared.fore.ForeRow.{ForeRow}
pub use Rattle.fb_rows.specs.declared.gap.Catch.{Catch}
pub use Rattle.fb_rows.specs.declared.gap.Dwell.{Dwell}
pub use Rattle.fb_rows.specs.declared.gap.Gap.{Gap}
pub use Rattle.fb_rows.specs.declared.gap.How.{How}
pub use Rattle.fb_rows.specs.declared.gap.Plan.{Plan}
pub use Rattle.fb_rows.specs.declared.gap.Plan.TheVariants.{Detour, Direct}
pub use Rattle.fb_rows.specs.declared.run.Run.{Run}
pub use Rattle.fb_script.specs.Allowed.{AreAllowed, MayAsk, Terms}
pub use Rattle.fb_script.specs.Blocks.{live_cuts}
pub use Rattle.fb_script.specs.Sessions.{is_clean}
pub use Rattle.fb_script.specs.declared.call.Action.{Action}
pub use Rattle.fb_script.specs.declared.call.Action.TheVariants.{Open, Promote, Want}
pub use Rattle.fb_script.specs.declared.call.Call.{Call}
pub use Rattle.fb_sectormap.proofs.ByCylinder.{has_place}
unfoldable pub use Rattle.fb_sectormap.specs.Cutting.{cutting}
pub use Rattle.fb_sectormap.specs.LookUp.{track_at}
unfoldable pub use Rattle.fb_sectormap.specs.LookUp.{place_at}
unfoldable pub use Rattle.fb_seek.specs.Positioning.{pos}
pub use Rattle.fb_service.specs.Passing.{begin_angle, length_of}
unfoldable pub use Rattle.fb_service.specs.Passing.{begin_from}
pub use Rattle.fb_service.specs.Service.{finish_of, media_of, passage_from}
unfoldable pub use Rattle.fb_service.specs.Service.{passages}
pub use Rattle.fb_service.specs.declared.disk.Disk.{Disk}
pub use Rattle.fb_service.specs.declared.passage.Passage.{Passage}
pub use Rattle.fb_store.specs.Runs.{bad_of, runs_of}
pub use Rattle.fb_store.specs.Writes.{unwritten}
pub use Rattle.fb_store.specs.declared.content.Content.{Content}
pub use Rattle.fb_store.specs.declared.content.Content.TheVariants.{Filled}
pub use Rattle.fb_units.proofs.Alike.{flat_map_same, same_map}
pub use Rattle.fb_units.proofs.Comparing.{after_is, by_is, by_later, is_after, is_by}
pub use Rattle.fb_units.proofs.Each.{all_any, all_both, all_flat, all_map, all_pass, all_unmapped, all_with, flat_all}
pub use Rattle.fb_units.proofs.Filtered.{kept_map, kept_twice, none_kept}
pub use Rattle.fb_units.proofs.Lists.{all_append, all_dropped, all_filter, all_range, all_weaker, not_none, same_first, same_rest}
pub use Rattle.fb_units.proofs.Tracks.{same_fields, same_tracks, track_itself}
pub use Rattle.fb_units.proofs.Waits.{wait_least}
pub use Rattle.fb_units.specs.Rising.{IsRising}
pub use Rattle.fb_units.specs.Tracks.{same_track}
pub use Rattle.fb_units.specs.declared.types.Place.{Place}
pub use Rattle.fb_units.specs.declared.types.Request.{Request}
pub use Rattle.fb_units.specs.declared.types.Track.{Track}
pub use Rattle.fb_wanted.specs.States.{is_delivered, is_wanted}
pub use Rattle.fb_wanted.specs.declared.block.Block.{Block}
pub use Rattle.fb_wanted.specs.declared.block.State.{State}
pub use Rattle.fb_wanted.specs.declared.block.State.TheVariants.{Wanted}
