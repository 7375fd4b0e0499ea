-- The names that the proofs cite, of this crate's words and of the crates below: each proof takes them from here.
pub use Rattle.std.proofs.Common.{Bool, List, Some, [], ap, arith, drop, false, get_or, if◌then◌else◌, inl, inr, length, max, min, nat_le}
pub use Rattle.std.proofs.Common.{nat_lt, refl, slice_get, subst, suc, sym, take, true, zero, ℕ, ◌%◌, ◌&&◌, ◌*◌, ◌+◌, ◌-◌, ◌/◌, ◌<◌, ◌==◌}
pub use Rattle.std.proofs.Common.{replicate, ◌^◌, ◌||◌, ◌∙◌, ◌∷◌, ◌≡◌, ◌≤◌, ◌⊎◌}
pub use Rattle.std.proofs.Math.Nat.{add-mod_right, add-mul-mod_self_right, div-lt_iff_lt-mul, div-mul-le_self, mod-add-mod, mod-eq_of_lt}
pub use Rattle.std.proofs.Math.Nat.{mod-lt, mul-add-mod_self_right, mul-le-mul_right}
pub use Rattle.std.proofs.lemmas.Bool.{and_parts, cases_Bool, cases_eq, cases_lt, cases_order, leb-true, ltb-true}
pub use Rattle.std.proofs.lemmas.Bool.Decides.{nat_tests}
pub use Rattle.std.proofs.lemmas.List.{drop_more, get_or-replicate, get_or-set_other, get_or-set_same, length-set, take_all}
pub use Rattle.std.proofs.lemmas.List.Sums.{sum_by-cons, sum_by-le-sum_by, sum_by-take-le, sum_by_more}
pub use Rattle.std.proofs.lemmas.Nat.{div-add-mod', le-div, mul-le}
pub use Rattle.std.proofs.lemmas.Option.{get_or_from_slice_get, slice_get-get_or, slice_get_within}
pub use Rattle.std.specs.List.{AllByRecursion, slice_set, sum_by}
pub use Rattle.fb_units.proofs.Tracks.{same_tracks}
pub use Rattle.fb_units.proofs.Waits.{least_of, least_unique, reaches_ahead, reaches_over, wait_least, next-le, wait-rest}
pub use Rattle.fb_units.specs.Tracks.{same_track}
pub use Rattle.fb_units.specs.Wait.{wait}
pub use Rattle.fb_units.specs.declared.types.Place.{Place}
pub use Rattle.fb_units.specs.declared.types.Sweep.{Sweep}
pub use Rattle.fb_units.specs.declared.types.Track.{Track}
pub use Rattle.fb_model.proofs.Ends.{end-le}
pub use Rattle.fb_geometry.specs.Angles.{slot_begin}
pub use Rattle.fb_geometry.specs.Places.{places}
pub use Rattle.fb_geometry.specs.Shape.{IsTrackOf, Shape, cylinders_of, offset_at, slots_at, turn_position}
pub use Rattle.fb_geometry.specs.Sound.{HasOwnPlaces, IsSound}
pub use Rattle.fb_geometry.specs.declared.zone.Zone.{Zone}
pub use Rattle.fb_sectormap.specs.LookUp.{IsAt, neighbour, track_at}
unfoldable pub use Rattle.fb_sectormap.specs.LookUp.{place_at}
pub use Rattle.fb_seek.specs.Positioning.{distance_of, seek}
unfoldable pub use Rattle.fb_seek.specs.Positioning.{pos}
pub use Rattle.fb_service.proofs.Turning.{in-turn, later-after, over, slot-is, within-turn}
pub use Rattle.fb_service.specs.Passing.{begin_angle, end_angle, turned}
unfoldable pub use Rattle.fb_service.specs.Passing.{begin_from}
pub use Rattle.fb_service.specs.declared.disk.Disk.{Disk}
pub use Rattle.fb_wanted.specs.Depth.{depth_at, is_in, weight_on}
pub use Rattle.fb_wanted.specs.States.{is_wanted, on_track, wanted_of}
pub use Rattle.fb_wanted.specs.Tracks.{wanted_weight}
pub use Rattle.fb_wanted.specs.declared.block.Block.{Block}
pub use Rattle.fb_wanted.specs.declared.block.Entry.{Entry}
pub use Rattle.fb_wanted.specs.declared.offer.Offer.{Offer}
pub use Rattle.fb_rows.specs.declared.gap.Dwell.{Dwell}
pub use Rattle.fb_rows.specs.declared.gap.Gap.{Gap}
pub use Rattle.fb_rows.specs.declared.gap.Plan.{Plan}
pub use Rattle.fb_rows.specs.declared.gap.Plan.TheVariants.{Detour, Direct}
pub use Rattle.fb_model.specs.Blocks.{IsBlockOn}
pub use Rattle.fb_model.specs.Plans.{IsBest, IsNoLater, IsPlan, IsTrackBefore, block_end, catches, early_dwell, late_dwell, value}
pub use Rattle.fb_plan.proofs.Offered.{offers-in-turn}
pub use Rattle.fb_plan.proofs.Passed.{AreTried, bounds, offers-more, tracks-more, way_done}
pub use Rattle.fb_plan.specs.Turns.{added, begin_of, end_of, passes_by}
pub use Rattle.fb_plan.specs.Ways.{AreOnDisk, IsGap, arrival, early_track, gain, move_on, plan_by}
pub use Rattle.fb_plan.specs.declared.choice.Scored.{Scored}
pub use Rattle.fb_plan.specs.declared.turning.Turning.{Turning}
pub use Rattle.fb_plan.specs.declared.way.Way.{Way}
pub use Rattle.fb_plan.specs.declared.way.Way.TheVariants.{Over, Source}
pub use Rattle.fb_detour.specs.Bounds.{AreBins, AreSidesOf, AreSmallSums, IsBounded, bin_at}
pub use Rattle.fb_detour.specs.Bounds.{IsAhead, IsCeiling, IsDetourIn, IsEnough, IsFound, IsKey, IsLate, IsNoBetter, IsNoWorseIn}
pub use Rattle.fb_detour.specs.Bounds.{IsNoWorseThanTrack, IsNoWorseThanTracks, IsReach, IsReady, IsStop, distance_to, early_to, late_gain}
pub use Rattle.fb_detour.specs.Bounds.{late_most, late_step, missed, offered, part_at, passing, slots_within, stay_gain, sum_of_first, turned_to}
pub use Rattle.fb_detour.specs.Bounds.{value_in}
unfoldable pub use Rattle.fb_detour.specs.Bounds.{stay}
pub use Rattle.fb_detour.specs.declared.bins.Bins.{Bins}
pub use Rattle.fb_detour.specs.declared.given.Search.{Search}
pub use Rattle.fb_detour.specs.declared.parts.LateParts.{LateParts}
pub use Rattle.fb_detour.specs.declared.stop.Stop.{Stop}
