-- The names that the proofs cite, of this crate's words and of the crates below: each proof takes them from here.
pub use Rattle.std.proofs.Common.{Bool, List, None, Option, Some, [], ap, arith, cond, drop, false, get_or, inl, inr}
pub use Rattle.std.proofs.Common.{length, map, max, not, refl, rules, subst, suc, sym, take, tests, true, zero, ℕ, ◌%◌, ◌*◌, ◌++◌, ◌+◌}
pub use Rattle.std.proofs.Common.{◌-◌, ◌/◌, ◌<◌, ◌^◌, ◌∙◌, ◌∷◌, ◌≡◌, ◌≤◌, ◌⊎◌}
pub use Rattle.std.proofs.Math.Nat.{add-mod_left, mod-add-mod, mod-eq_of_lt, mod-lt}
pub use Rattle.std.proofs.lemmas.Bool.{and_parts, cases_Bool, cases_lt, cases_order, eq-eqb, eqb-true, false_from_ne_true, le-leb, le-ltb}
pub use Rattle.std.proofs.lemmas.Bool.{leb-true, lt-leb, lt-ltb, ltb-false, ltb-true, ne_eqb, not-false, or_left, or_parts}
pub use Rattle.std.proofs.lemmas.Bool.{true≢false}
pub use Rattle.std.proofs.lemmas.{Bool.Decides.nat_tests, Iterator.YieldsList-from_slice, Iterator.Search.any_from_yields_List}
pub use Rattle.std.proofs.lemmas.{Iterator.Search.position_from_yields_List, Map.Keys.IsDistinct-IsPermutation}
pub use Rattle.std.proofs.lemmas.{Result.err_from_is_err_and}
pub use Rattle.std.proofs.lemmas.List.{append-nil, get_or-map, length-append, length-map, length-take, length-take-le, map-append}
pub use Rattle.std.proofs.lemmas.List.{take-append-drop, take-take}
pub use Rattle.std.proofs.lemmas.List.Elements.{All-append, All-from_get_or, All-from_recursion, filter-append, recursion_from_All}
pub use Rattle.std.proofs.lemmas.List.Filters.{length-filter_more}
pub use Rattle.std.proofs.lemmas.List.FromFn.{length-map-range_with_len, length-range_with_len, take-map-range_with_len}
pub use Rattle.std.proofs.lemmas.List.Sorted.{All-permutation, IsNonDecreasingBy-drop, IsPartitionPoint-from_clause}
pub use Rattle.std.proofs.lemmas.List.Sorted.{IsPartitionedBy-leb, IsPartitionedBy-ltb, IsPermutation-map, IsPermutation-sym}
pub use Rattle.std.proofs.lemmas.List.Sorted.{list_any-IsPermutation, sorted_far}
pub use Rattle.std.proofs.lemmas.List.Sums.{count_by-le-length, length-filter}
pub use Rattle.std.proofs.lemmas.Nat.{div-add-mod', div-mul-add, div_below, le-div, mod-mul-add, mul-add-lt, mul-le}
pub use Rattle.std.proofs.lemmas.Option.{get_or_from_slice_get, none-some, same_Some, slice_get-get_or, slice_get-map, slice_get_within}
pub use Rattle.std.specs.{Cmp.IsStrictWeakOrder, Ordering.is_lt, Ordering.nat_cmp, Ordering.ordering_then}
unfoldable pub use Rattle.std.specs.List.{IsDistinct}
pub use Rattle.std.specs.List.{AllByRecursion, flat_map, list_any, range_with_len, slice_index_or}
pub use Rattle.std.specs.List.Sorted.{IsNonDecreasingBy, IsPartitionPoint, IsPartitionedBy, IsPermutation, IsSortedBy}
pub use Rattle.std.specs.Prelude.{All, IfNone, IfSome, MatchOption, filter, find, if◌then◌else◌, nat_le, nat_lt, option_map}
pub use Rattle.std.specs.Prelude.{slice_get, ◌==◌}
pub use Rattle.fb_units.specs.{Tracks.same_track, declared.types.Place.Place, declared.types.Track.Track}
pub use Rattle.fb_units.specs.declared.read_error.ReadError.{ReadError, TheVariants.Fault, TheVariants.NoMemory}
pub use Rattle.fb_geometry.specs.{Angles.CoverRotation, Kept.zone_fault, Marks.same_mark, Places.zone_places, Shape.turn_position}
pub use Rattle.fb_geometry.specs.{Stretches.IsStretch, Stretches.KeepsOrder, Turns.zone_at}
pub use Rattle.fb_geometry.specs.declared.{cylinder.Cylinder.Cylinder, fault.GeometryFault.GeometryFault, layout.Layout.Layout}
pub use Rattle.fb_geometry.specs.declared.{marks.Mark.Mark, zone.Zone.Zone}
pub use Rattle.fb_geometry.specs.Even.{HasNoBad, IsEven, even_place, sectors_by}
pub use Rattle.fb_geometry.specs.Faults.{FitsLayout, cylinder_spares_at, fault_at, first_apart, has_no_data, is_bad_zone}
pub use Rattle.fb_geometry.specs.Faults.{is_full_cylinder, is_full_track, is_outside, is_place_before, is_too_skewed, is_track_before}
pub use Rattle.fb_geometry.specs.Faults.{least, lesser, or_else, repeated, spare_fault, spares_at}
unfoldable pub use Rattle.fb_geometry.specs.Faults.{first_fault}
pub use Rattle.fb_geometry.specs.Kept.{Answers, HasZones, IsFaultless, IsGoodOf, AreOwnMarks, defect_fault, grown_fault}
pub use Rattle.fb_geometry.specs.Marks.{AreInOrder, AreMarksOf, AreSorted, among_unmarked, is_mark_before, mark_of, marks_on, positions}
pub use Rattle.fb_geometry.specs.Places.{by_head, data_list, data_list_at, data_list_by, good_track, list_among, replaced, stand_in, turn}
unfoldable pub use Rattle.fb_geometry.specs.Places.{places}
pub use Rattle.fb_geometry.specs.Shape.{Shape, cylinders_of, is_among, offset_at, offset_in, same_place, slots_at, zone_tells}
pub use Rattle.fb_geometry.specs.Slips.{HoldsNone, HoldsSector, IsAscending, Pairwise, entry_of_sector, indexes, rank, slipped}
pub use Rattle.fb_geometry.specs.Sound.{HasOwnPlaces, IsCylinderOf, IsSound, LiesOn, cylinder_size_by}
pub use Rattle.fb_geometry.specs.Turns.{AreZoneNumbers, IsZone, IsZoneAt, IsZoneOf, AreFirstZoneNumbers, IsZoneNumber, cylinder_slots}
pub use Rattle.fb_geometry.specs.Turns.{position_in, slot_at}
pub use Rattle.fb_geometry.specs.declared.fault.GeometryFault.TheVariants.{GrownOutside, DefectTwice, GrownTwice, OutOfRange}
pub use Rattle.fb_geometry.specs.declared.fault.GeometryFault.TheVariants.{TooManyDefects, TooManyInCylinder}
pub use Rattle.fb_geometry.specs.declared.layout.Layout.TheVariants.{PerCylinder, PerTrack}
