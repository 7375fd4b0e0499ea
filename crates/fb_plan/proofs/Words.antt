-- The names that the proofs cite, of this crate's words and of the crates below: each proof takes them from here.
pub use Rattle.std.proofs.Common.{Bool, List, Some, [], ap, arith, cond, false, filter, get_or, if◌then◌else◌, inl, inr, length, map}
pub use Rattle.std.proofs.Common.{nat_le, refl, rules, slice_get, subst, suc, sym, take, true, ℕ, ◌&&◌, ◌*◌, ◌++◌, ◌+◌, ◌<◌, ◌==◌, ◌^◌}
pub use Rattle.std.proofs.Common.{◌||◌, ◌∙◌, ◌∷◌, ◌≡◌, ◌≤◌}
pub use Rattle.std.proofs.lemmas.Bool.{and_from, and_parts, cases_Bool, eq-eqb, eqb-true}
pub use Rattle.std.proofs.lemmas.Bool.Decides.{nat_tests}
pub use Rattle.std.proofs.lemmas.List.{append-nil}
pub use Rattle.std.proofs.lemmas.List.Elements.{filter-append}
pub use Rattle.std.proofs.lemmas.List.Sums.{sum_by-cons}
pub use Rattle.std.proofs.lemmas.Option.{same_Some, slice_get-get_or, slice_get_within}
pub use Rattle.std.specs.List.{sum_by}
pub use Rattle.fb_geometry.specs.Shape.{Shape, cylinders_of}
pub use Rattle.fb_model.proofs.Ties.{no_worse-trans}
pub use Rattle.fb_model.specs.Blocks.{IsBlockOn}
pub use Rattle.fb_model.specs.Deliveries.{catch_of, caught_among, in_order, is_before}
unfoldable pub use Rattle.fb_model.specs.Deliveries.{caught_of}
pub use Rattle.fb_model.specs.Plans.{IsPlan, block_begin, block_end, catches, early_dwell, is_caught, late_dwell}
unfoldable pub use Rattle.fb_model.specs.Plans.{value}
pub use Rattle.fb_plan.specs.Order.{AreOrdered}
pub use Rattle.fb_plan.specs.Turns.{AreSides, IsInTurn, IsTurning, added, end_of, passes_by}
pub use Rattle.fb_plan.specs.Ways.{AreOnDisk, IsNoWorse, IsScored, arrival, early_track, plan_by}
pub use Rattle.fb_plan.specs.declared.sides.Sides.{Sides}
pub use Rattle.fb_plan.specs.declared.turning.Turning.{Turning}
pub use Rattle.fb_plan.specs.declared.way.Way.{Way}
pub use Rattle.fb_plan.specs.declared.way.Way.TheVariants.{Over, Source}
pub use Rattle.fb_rows.specs.declared.gap.Catch.{Catch}
pub use Rattle.fb_rows.specs.declared.gap.Dwell.{Dwell}
pub use Rattle.fb_rows.specs.declared.gap.Gap.{Gap}
pub use Rattle.fb_rows.specs.declared.gap.Plan.{Plan}
pub use Rattle.fb_rows.specs.declared.gap.Plan.TheVariants.{Detour, Direct}
pub use Rattle.fb_service.specs.declared.disk.Disk.{Disk}
pub use Rattle.fb_units.proofs.Filtered.{filter_from, filter_to}
pub use Rattle.fb_units.specs.Tracks.{same_track}
pub use Rattle.fb_units.specs.declared.types.Sweep.{Sweep}
pub use Rattle.fb_units.specs.declared.types.Track.{Track}
pub use Rattle.fb_wanted.specs.Numbering.{blocks_of}
pub use Rattle.fb_wanted.specs.Offers.{AreOffers}
pub use Rattle.fb_wanted.specs.States.{is_wanted, on_track, wanted_of}
pub use Rattle.fb_wanted.specs.declared.block.Block.{Block}
pub use Rattle.fb_wanted.specs.declared.block.Entry.{Entry}
pub use Rattle.fb_wanted.specs.declared.offer.Offer.{Offer}
