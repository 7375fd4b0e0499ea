-- Names of definitions and of lower crates that several proofs of this crate cite.
pub use Rattle.std.proofs.Common.{Bool, List, None, Option, Some, [], ap, append-nil, ap₂, arith, cond, drop, false, inl, inr, length, map}
pub use Rattle.std.proofs.Common.{max, nat_le, refl, slice_get, subst, suc, sym, take, true, zero, ℕ, ◌++◌, ◌+◌, ◌-◌, ◌<◌, ◌^◌, ◌∙◌, ◌∷◌}
pub use Rattle.std.proofs.Common.{◌≡◌, ◌≤◌, ◌⊎◌}
pub use Rattle.std.proofs.lemmas.Bool.{cases_Bool, cases_lt, eqb-true, true≢false}
pub use Rattle.std.proofs.lemmas.Bool.Decides.{nat_tests}
pub use Rattle.std.proofs.lemmas.List.{length-append, map-append}
pub use Rattle.std.proofs.lemmas.List.Concat.{flat_map-append}
pub use Rattle.std.proofs.lemmas.List.Elements.{filter-append}
pub use Rattle.std.proofs.lemmas.List.FromFn.{length-range_with_len}
pub use Rattle.std.proofs.lemmas.Option.{none-some, same_Some}
pub use Rattle.std.proofs.lemmas.Result.{IfOk-weaker}
pub use Rattle.std.specs.List.{AllByRecursion, flat_map, fold, list_all, range_with_len, slice_index_or, sum_by}
pub use Rattle.std.specs.List.Sorted.{IsPermutation}
pub use Rattle.std.specs.Option.{option_map, unwrap_or}
pub use Rattle.std.specs.Prelude.{filter, if◌then◌else◌, is_some, nat_lt, not, ◌&&◌, ◌==◌}
unfoldable pub use Rattle.fb_geometry.specs.Places.{places}
pub use Rattle.fb_geometry.specs.Shape.{Shape}
pub use Rattle.fb_geometry.specs.Sound.{IsSound}
pub use Rattle.fb_mirror.specs.Changes.{changes_in, changes_of}
pub use Rattle.fb_mirror.specs.Copy.{run_line}
pub use Rattle.fb_mirror.specs.Replacement.{Event, IsWithin, decided, deliveries_in, events, given, held_after, later, sealed_in}
pub use Rattle.fb_mirror.specs.Replacement.{writes_in}
pub use Rattle.fb_mirror.specs.Script.{rebuild_calls}
pub use Rattle.fb_mirror.specs.Survivor.{IsAtRest, events_by, sectors, survives}
pub use Rattle.fb_mirror.specs.declared.changes.Change.{Change}
pub use Rattle.fb_model.proofs.DecisionsUpTo.{greatest_from}
pub use Rattle.fb_model.proofs.Due.{HasBytes, IsDueRow, delivery_true, due_block, due_bytes, wanted_all}
pub use Rattle.fb_model.proofs.HistoriesUpTo.{HasSector}
pub use Rattle.fb_model.proofs.Passages.{IsServiceOf, LiesOnDisk, passed_between, served_between}
pub use Rattle.fb_model.proofs.Written.{begun_after}
pub use Rattle.fb_model.specs.Accepted.{IsAccepted}
pub use Rattle.fb_model.specs.Completion.{segments, work}
unfoldable pub use Rattle.fb_model.specs.Completion.{is_complete}
pub use Rattle.fb_model.specs.Content.{Medium, Written, content, content_by, contents_at, fore_row, writes_of}
unfoldable pub use Rattle.fb_model.specs.Content.{fore_rows, medium_of}
pub use Rattle.fb_model.specs.Decisions.{Act, Decision, decision_of, end_of, idle_until, instant_of, instants_of, last_decision, serves}
unfoldable pub use Rattle.fb_model.specs.Decisions.{decisions, decisions_from}
pub use Rattle.fb_model.specs.FullRun.{IsFull}
pub use Rattle.fb_model.specs.History.{Past, blocks_of, calls_of, delivered, is_open_backup, registered, tasks, terms_of, tested}
unfoldable pub use Rattle.fb_model.specs.History.{wanted}
pub use Rattle.fb_model.specs.Inputs.{Inputs}
unfoldable pub use Rattle.fb_model.specs.Inputs.{served}
pub use Rattle.fb_model.specs.Laws.{ForegroundListsAscend, OnePlainReplay}
pub use Rattle.fb_model.specs.PlainReplay.{Served, finish, first_track, last_track, media}
pub use Rattle.fb_model.specs.Segments.{numbered}
pub use Rattle.fb_model.specs.SoundRun.{HasPlan, IsDelivered, IsPlanned, IsTested}
pub use Rattle.fb_model.specs.Steps.{AtEach, Delivery, Step, decision_in, decisions_in, step_rows, take_call}
unfoldable pub use Rattle.fb_model.specs.Steps.{chosen_past, past_after}
pub use Rattle.fb_rows.specs.declared.back.BackRow.{BackRow}
pub use Rattle.fb_rows.specs.declared.back.BackRow.TheVariants.{Got, Seal}
pub use Rattle.fb_rows.specs.declared.back.DeliveryRow.{DeliveryRow}
pub use Rattle.fb_rows.specs.declared.fore.ForeRow.{ForeRow}
pub use Rattle.fb_rows.specs.declared.run.Run.{Run}
pub use Rattle.fb_script.specs.Allowed.{Terms}
pub use Rattle.fb_script.specs.Sessions.{is_clean}
pub use Rattle.fb_script.specs.declared.call.Action.TheVariants.{Open, Want}
pub use Rattle.fb_script.specs.declared.call.Call.{Call}
pub use Rattle.fb_script.specs.declared.call.Kind.TheVariants.{Backup, Plain}
unfoldable pub use Rattle.fb_sectormap.specs.Cutting.{cutting}
pub use Rattle.fb_sectormap.specs.declared.cut.Cut.{Cut}
pub use Rattle.fb_service.specs.Service.{media_of}
unfoldable pub use Rattle.fb_service.specs.Service.{passages}
pub use Rattle.fb_service.specs.declared.disk.Disk.{Disk}
pub use Rattle.fb_service.specs.declared.passage.Passage.{Passage}
pub use Rattle.fb_store.proofs.Originals.{inside}
pub use Rattle.fb_store.proofs.Runs.{sectors_of-runs_of}
pub use Rattle.fb_store.proofs.Taken.{after_taking-append, taken_block}
pub use Rattle.fb_store.specs.Ranges.{held_at}
pub use Rattle.fb_store.specs.Runs.{runs_of, sectors_in, sectors_of}
pub use Rattle.fb_store.specs.Sparse.{EndsBy, after_taking, held_in}
pub use Rattle.fb_store.specs.Writes.{is_within, unwritten, writer_of}
pub use Rattle.fb_store.specs.declared.content.Content.{Content}
pub use Rattle.fb_store.specs.declared.content.Content.TheVariants.{Filled, Unreadable}
pub use Rattle.fb_store.specs.declared.content.ContentRun.{ContentRun}
pub use Rattle.fb_units.proofs.Among.{Among}
pub use Rattle.fb_units.proofs.Comparing.{by_is, is_by}
pub use Rattle.fb_units.proofs.Each.{all_any, all_both, all_map, all_unmapped}
pub use Rattle.fb_units.proofs.Lists.{all_append, all_filter, all_left, all_right, all_weaker}
pub use Rattle.fb_units.specs.Rising.{IsRising}
pub use Rattle.fb_units.specs.declared.types.Track.{Track}
pub use Rattle.fb_wanted.specs.declared.block.Block.{Block}
