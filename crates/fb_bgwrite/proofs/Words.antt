-- The names that the proofs cite, of this crate's words and of the crates below: each proof takes them from here.
pub use Rattle.std.proofs.Common.{Bool, Bor, Err, IfOk, List, None, Ok, OnErr, OnOk, Option, Result, Some, [], ap, append-nil, append_assoc}
pub use Rattle.std.proofs.Common.{ap₂, arith, drop, false, filter, get_or, if◌then◌else◌, inl, inr, length, map, max, min, not, refl}
pub use Rattle.std.proofs.Common.{slice_get, subst, suc, sym, take, true, zero, ℕ, ◌&&◌, ◌*◌, ◌++◌, ◌+◌, ◌-◌, ◌/◌, ◌<◌, ◌==◌, ◌^◌, ◌||◌}
pub use Rattle.std.proofs.Common.{◌∙◌, ◌∷◌, ◌≡◌, ◌≢◌, ◌≤◌, ◌⊎◌}
pub use Rattle.std.proofs.Common.{rules}
pub use Rattle.std.specs.List.{AllByRecursion, count_by, flat_map, fold, list_any, range_with_len, slice_index_or, sum_by}
pub use Rattle.std.specs.Option.{option_map}
pub use Rattle.std.specs.Prelude.{nat_le, nat_lt}
pub use Rattle.std.proofs.lemmas.Bool.{and_parts, cases_Bool, cases_lt, leb-true, ltb-true, true≢false}
pub use Rattle.std.proofs.lemmas.Bool.Decides.{nat_tests}
pub use Rattle.std.proofs.lemmas.List.{drop_all, length-append, length-map, length-take, length_push, map-append}
pub use Rattle.std.proofs.lemmas.List.{take-append-drop, take_all}
pub use Rattle.std.proofs.lemmas.List.Folds.{list_any-append}
pub use Rattle.std.proofs.lemmas.List.Sums.{count_by-le-length, get_or-le-sum_by, sum_by-append, sum_by-cons, sum_by-le-sum_by}
pub use Rattle.std.proofs.lemmas.List.Sums.{sum_by_more, sum_by_push}
pub use Rattle.std.proofs.lemmas.Option.{get_or_from_slice_get, slice_get-get_or, slice_get-map, slice_get_within, same_Some as some_one}
pub use Rattle.std.proofs.lemmas.Result.{IfOk-weaker, on_ok_weaker}
pub use Rattle.fb_units.proofs.Lists.{all_push, all_weaker, all_from_index as all_of, any_of_none as none_any, all_append, all_left}
pub use Rattle.fb_units.proofs.Lists.{all_right, all_get, drop_at as drop_got, take_at as one_more}
pub use Rattle.fb_units.specs.Rising.{IsRising}
pub use Rattle.fb_units.specs.Tracks.{same_track}
pub use Rattle.fb_units.specs.declared.types.Sweep.{Sweep}
pub use Rattle.fb_units.specs.declared.types.Track.{Track}
pub use Rattle.fb_units.proofs.Filtered.{none_kept}
pub use Rattle.fb_units.proofs.Each.{all_map}
pub use Rattle.fb_geometry.specs.Places.{places}
pub use Rattle.fb_geometry.specs.Shape.{IsTrackOf, Shape, cylinders_of, slots_at}
pub use Rattle.fb_geometry.specs.Sound.{HasOwnPlaces, IsSound}
pub use Rattle.fb_sectormap.specs.Cutting.{IsOneTurn}
pub use Rattle.fb_sectormap.specs.Sweeps.{sweep_of}
unfoldable pub use Rattle.fb_sectormap.specs.Cutting.{cutting}
pub use Rattle.fb_sectormap.specs.LookUp.{track_at}
unfoldable pub use Rattle.fb_sectormap.specs.LookUp.{place_at}
pub use Rattle.fb_sectormap.specs.declared.cut.Cut.{Cut}
pub use Rattle.fb_seek.specs.Positioning.{distance_of}
unfoldable pub use Rattle.fb_seek.specs.Positioning.{pos}
pub use Rattle.fb_service.specs.declared.disk.Disk.{Disk}
pub use Rattle.fb_puts.specs.Asked.{request_range}
pub use Rattle.fb_puts.specs.Ranges.{AreApart, lies_in, share}
pub use Rattle.fb_puts.specs.Reading.{Accepted, range_of}
pub use Rattle.fb_puts.specs.Rules.{ArePuts, IsPutOf}
pub use Rattle.fb_puts.specs.Verdict.{accepted}
pub use Rattle.fb_puts.specs.declared.puts.Put.{Put}
pub use Rattle.fb_puts.specs.declared.puts.Puts.{Puts}
pub use Rattle.fb_puts.specs.declared.range.SectorRange.{SectorRange}
pub use Rattle.fb_puts.proofs.Sharing.{is_shares}
pub use Rattle.fb_wanted.specs.Numbering.{blocks_of, registered_count}
pub use Rattle.fb_wanted.specs.States.{after, entry_after, is_block, is_wanted, on_track, wanted_of}
pub use Rattle.fb_wanted.specs.declared.block.Block.{Block}
pub use Rattle.fb_wanted.specs.declared.block.Change.TheVariants.{Deliver}
pub use Rattle.fb_wanted.specs.declared.block.Entry.{Entry}
pub use Rattle.fb_wanted.specs.declared.block.State.TheVariants.{Delivered, Wanted}
pub use Rattle.fb_wanted.specs.declared.offer.Offer.{Offer}
pub use Rattle.fb_wanted.specs.Offers.{AreOffers}
pub use Rattle.fb_rows.specs.declared.back.BackRow.{BackRow}
pub use Rattle.fb_rows.specs.declared.back.BackRow.TheVariants.{Gap as BackGap, Idle as BackIdle}
pub use Rattle.fb_rows.specs.declared.back.GapRow.{GapRow}
pub use Rattle.fb_rows.specs.declared.fore.ForeRow.{ForeRow}
pub use Rattle.fb_rows.specs.declared.gap.Dwell.{Dwell}
pub use Rattle.fb_rows.specs.declared.gap.Gap.{Gap}
pub use Rattle.fb_rows.specs.declared.gap.Plan.{Plan}
pub use Rattle.fb_rows.specs.declared.gap.Plan.TheVariants.{Detour, Direct}
pub use Rattle.fb_rows.specs.declared.run.Run.{Run}
pub use Rattle.fb_model.specs.Blocks.{IsBlockOn}
pub use Rattle.fb_model.specs.Plans.{IsPlan, block_end, catches}
pub use Rattle.fb_model.specs.Segments.{numbered}
pub use Rattle.fb_model.specs.Timeline.{IsPossible, Leg, arrival, can_follow, gap_legs, leaves_at, leaves_on, move, pass, passing}
pub use Rattle.fb_model.specs.Timeline.{service_legs, stay, way}
unfoldable pub use Rattle.fb_model.specs.Timeline.{led_to, timeline}
pub use Rattle.fb_model.proofs.Leads.{Leads, lead_gap, lead_on, lead_stay, lead_to_target, lead_way}
pub use Rattle.fb_model.specs.Deliveries.{catch_of}
unfoldable pub use Rattle.fb_model.specs.Deliveries.{caught_of}
pub use Rattle.fb_plan.specs.Ways.{AreOnDisk}
pub use Rattle.fb_rows.specs.declared.gap.Catch.{Catch}
pub use Rattle.fb_model.proofs.Ends.{begin-from-le}
pub use Rattle.fb_plan.specs.declared.turning.Turning.{Turning}
pub use Rattle.fb_plan.specs.Turns.{IsTurning, added, end_of, passes_by}
pub use Rattle.fb_detour.specs.Bounds.{slots_within, stay_gain}
pub use Rattle.fb_detour.proofs.Ceilings.{longer_stay, stay-of, weight_of_stay}
pub use Rattle.fb_report.proofs.Lines.{AreLines, length_lines, line_first, line_last, line_row}
pub use Rattle.fb_bgwrite.specs.AmendedWay.{amended, amended_legs, kept, kept_legs, planned_legs, spill_legs}
unfoldable pub use Rattle.fb_bgwrite.specs.AmendedWay.{timeline_with}
pub use Rattle.fb_bgwrite.specs.Blocks.{PutBlock, is_pending, is_written, put_blocks, sectors, writes}
unfoldable pub use Rattle.fb_bgwrite.specs.Blocks.{blocks_from, pending}
pub use Rattle.fb_bgwrite.specs.Choosing.{AreLeast, ArePending, AreTried, IsBestIf, IsEnough, IsFound, IsNoWorse, IsNoWorseThanTrack}
pub use Rattle.fb_bgwrite.specs.Choosing.{IsNoWorseThanTracks}
pub use Rattle.fb_bgwrite.specs.Choosing.{IsGap, IsKept, IsLastEnd, IsOnly, IsPart, IsSearch, IsShare, IsTried, IsValuedIf, Keeps}
pub use Rattle.fb_bgwrite.specs.Choosing.{OneEndsAt, block_range}
unfoldable pub use Rattle.fb_bgwrite.specs.Depth.{depth, digits_of, divides, powers_upto}
pub use Rattle.fb_bgwrite.specs.Gaps.{HasNoFree, RunGap, delivers, gaps}
pub use Rattle.fb_bgwrite.specs.Shortest.{AreAbove, AreAtLeast, AreLight, IsAtLeast, IsNoShorter, IsUnder}
pub use Rattle.fb_bgwrite.specs.Spilled.{AreGaps, AreOnce, IsGapOf, IsInTime, IsOfPut, IsSpillRun, fore_ranges, left_over, sectors_in}
pub use Rattle.fb_bgwrite.specs.Spilling.{IsBest, IsSpill, WritesNothing, ready, dwell_of}
unfoldable pub use Rattle.fb_bgwrite.specs.Spilling.{value}
pub use Rattle.fb_bgwrite.specs.Standing.{ArePutsOn, HasChosen, HasKept, IsSpilling, IsToWrite, IsUpTo, entry_of, first_blocks}
pub use Rattle.fb_bgwrite.specs.Standing.{wanted_entry}
pub use Rattle.fb_bgwrite.specs.Steps.{IsChosenIf, IsRight, Step, rows_in, spill_row, spill_rows, step_of, steps, wrote_row}
pub use Rattle.fb_bgwrite.specs.Text.{HasRange, item_line, spill_first, spill_last}
unfoldable pub use Rattle.fb_bgwrite.specs.Text.{spill_lines}
pub use Rattle.fb_bgwrite.specs.declared.choice.Spill.{Spill}
pub use Rattle.fb_bgwrite.specs.declared.choice.Valued.{Valued}
pub use Rattle.fb_bgwrite.specs.declared.items.SpillItem.{SpillItem}
pub use Rattle.fb_bgwrite.specs.declared.items.SpillItem.TheVariants.{Spill as ItemSpill, Wrote as ItemWrote}
pub use Rattle.fb_bgwrite.specs.declared.items.SpillRow.{SpillRow}
pub use Rattle.fb_bgwrite.specs.declared.items.WroteRow.{WroteRow}
pub use Rattle.fb_bgwrite.specs.declared.search.Part.{Part}
pub use Rattle.fb_bgwrite.specs.declared.search.Search.{Search}
pub use Rattle.fb_bgwrite.specs.declared.spilling.Spilling.{Spilling}
